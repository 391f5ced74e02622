use Rattle.std.proofs.Common.{◌≡◌, sym, ◌∙◌, false, nat_lt, rules, ◌≤◌}
use Rattle.fab_sound.proofs.Sizing.{far_pick}
use Rattle.fab_sound.proofs.sizes.picks_all.Goals as goal

pub returns-else-index-lt32 : goal.returns-else-index-lt32
returns-else-index-lt32 c =
    let far : 32 ≤ c.args.index = c.if-index-lt32.false in
    let test : nat_lt c.args.index 32 ≡ false = search rules in
    test ∙ sym (far_pick c.args.width c.args.index c.ranges.width.fits far)
