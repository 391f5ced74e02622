use Rattle.std.proofs.Common.{◌≡◌, ◌++◌, List, reverse, vec_len, true}
use Rattle.fab_syntax.specs.Plain.{PlainExpr, plain_expr}
use Rattle.fab_syntax.specs.Sound.{subexpressions}
use Rattle.fab_sound.specs.inner.Checks.{plain_all, found_width, widths_from, select_passes, operands_pass, narrow_over}
use Rattle.fab_sound.proofs.Sizing.{steps_pass}
use Rattle.fab_sound.proofs.sizes.measure_parts.Given as goal

abbrev pub invariant-loop-part : goal.invariant-loop-part
invariant-loop-part l =
    (done : List PlainExpr)
    × (plain_all l.parts.items ++ done ≡ subexpressions (plain_expr l.whole))
    × (reverse l.widths.items ≡ widths_from (found_width l.names) done)
    × (l.selects ≡ steps_pass (found_width l.names) (select_passes l.names) done)
    × (l.operands ≡ steps_pass (found_width l.names) operands_pass done)
    × (steps_pass (found_width l.names) (narrow_over (found_width l.names)) done ≡ true)

abbrev pub decreases-loop-part : goal.decreases-loop-part
decreases-loop-part l = vec_len l.parts
