use Rattle.std.proofs.Common.{◌≡◌, ◌++◌, length}
use Rattle.fab_syntax.specs.Plain.{plain_expr}
use Rattle.fab_syntax.specs.Sound.{subexpressions}
use Rattle.fab_sound.specs.inner.Checks.{plain_all, waiting_parts}
use Rattle.fab_sound.proofs.expressions.subexpressions.Given as goal

abbrev pub invariant-loop-next : goal.invariant-loop-next
invariant-loop-next l = plain_all l.found.items ++ waiting_parts l.waiting.items ≡ subexpressions (plain_expr l.whole)

abbrev pub decreases-loop-next : goal.decreases-loop-next
decreases-loop-next l = length (waiting_parts l.waiting.items)
