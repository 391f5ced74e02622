use Rattle.std.proofs.Common.{◌≡◌, length}
use Rattle.fab_lines.specs.Parts.{without_back, is_blank}
use Rattle.fab_lines.proofs.parts.without_blanks_at_end.Given as goal

abbrev pub invariant-loop-last : goal.invariant-loop-last
invariant-loop-last l = without_back is_blank l.rest ≡ without_back is_blank l.cell

abbrev pub decreases-loop-last : goal.decreases-loop-last
decreases-loop-last l = length l.rest
