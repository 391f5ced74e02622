use Rattle.std.proofs.Common.{◌≡◌, ◌∙◌, ap, ◌+◌, ◌-◌, ◌*◌, get_or}
use Rattle.fab_lines.specs.Numbers.{capped}
use Rattle.fab_lines.proofs.Digits.{capped_more}
use Rattle.fab_lines.proofs.numbers.capped_value.Goals as goal

pub loop-digit-preserved : goal.loop-digit-preserved
loop-digit-preserved c =
    c.saturating_add-value.ensures
    ∙ ap (λ v. capped (v + c.from.result)) c.saturating_mul.ensures
    ∙ ap (λ d. capped (capped (c.loop-digit.value * 10) + d)) c.from.ensures
    ∙ capped_more c.args.digits.now c.loop-digit.digit-index c.loop-digit.value c.requires c.loop-digit-test.true c.loop-digit.invariant
