use Rattle.std.proofs.Common.{◌∙◌, ap, ◌++◌, ◌-◌, ◌+◌, ◌/◌}
use Rattle.fab_bits.specs.Bits.{digits}
use Rattle.fab_bits.proofs.Numbers.{digit_more}
use Rattle.fab_bits.proofs.digits.Goals as goal

pub loop-place-preserved : goal.loop-place-preserved
loop-place-preserved c =
    ap (λ bits. bits ++ digits (c.args.width - (c.loop-place._place + 1)) (c.loop-place.rest / 2)) c.in_ok-push.ensures.items
    ∙ digit_more c.loop-place.bits.items c.args.width c.loop-place._place c.loop-place.rest c.loop-place-test.true
    ∙ c.loop-place.invariant
