use Rattle.std.proofs.Common.{◌≡◌, map}
use Rattle.fab_lines.specs.Parts.{trimmed}
use Rattle.fab_rows.proofs.cells.between_commas.Given as goal

abbrev pub invariant-loop-cell : goal.invariant-loop-cell
invariant-loop-cell l = l.cells.items ≡ map (λ cell. trimmed cell.now) l.yielded
