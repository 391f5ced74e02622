use Rattle.std.proofs.Common.{◌≡◌, length}
use Rattle.fab_lines.specs.Parts.{without_back}
use Rattle.fab_rows.specs.inner.Plain.{is_gap}
use Rattle.fab_rows.proofs.cells.without_gaps.Given as goal

abbrev pub invariant-loop-last : goal.invariant-loop-last
invariant-loop-last l = without_back is_gap l.rest ≡ without_back is_gap l.line

abbrev pub decreases-loop-last : goal.decreases-loop-last
decreases-loop-last l = length l.rest
