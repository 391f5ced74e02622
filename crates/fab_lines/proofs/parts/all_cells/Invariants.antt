use Rattle.std.proofs.Common.{◌≡◌, map}
use Rattle.fab_lines.specs.Parts.{trimmed}
use Rattle.fab_lines.proofs.parts.all_cells.Given as goal

abbrev pub invariant-loop-cell : goal.invariant-loop-cell
invariant-loop-cell l = map (λ s. s.now) l.cells.items ≡ map (λ s. trimmed s.now) l.yielded
