use Rattle.std.proofs.Common.{◌≡◌, ◌++◌, ◌≤◌, drop, length, map}
use Rattle.fab_syntax.specs.Plain.{plain_expr, plain_exprs}
use Rattle.fab_syntax.specs.Sound.{parts_subexpressions}
use Rattle.fab_sound.specs.inner.Checks.{waiting_parts}
use Rattle.fab_sound.proofs.expressions.put_parts.Given as goal

abbrev pub invariant-loop-left : goal.invariant-loop-left
invariant-loop-left l =
    (l.left ≤ length l.parts)
    × (waiting_parts l.waiting.items ≡ parts_subexpressions (plain_exprs (map plain_expr (drop l.left l.parts))) ++ waiting_parts l.initial.waiting.items)

abbrev pub decreases-loop-left : goal.decreases-loop-left
decreases-loop-left l = l.left
