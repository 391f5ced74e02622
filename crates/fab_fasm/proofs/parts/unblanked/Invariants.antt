use Rattle.std.proofs.Common.{◌≡◌, length}
use Rattle.fab_lines.specs.Parts.{without_front, is_blank}
use Rattle.fab_fasm.proofs.parts.unblanked.Given as goal

abbrev pub invariant-loop-first : goal.invariant-loop-first
invariant-loop-first l = without_front is_blank l.rest ≡ without_front is_blank l.text

abbrev pub decreases-loop-first : goal.decreases-loop-first
decreases-loop-first l = length l.rest
