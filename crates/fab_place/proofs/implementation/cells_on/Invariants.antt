use Rattle.std.proofs.Common.{◌≡◌}
use Rattle.fab_place.specs.Standing.{cell_lines}
use Rattle.fab_place.proofs.implementation.cells_on.Given as goal

abbrev pub invariant-loop-cell : goal.invariant-loop-cell
invariant-loop-cell l = l.lines.items ≡ cell_lines l.sites l.numbers l.cell
