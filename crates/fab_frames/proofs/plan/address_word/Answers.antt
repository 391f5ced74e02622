use Rattle.std.proofs.Common.{◌≡◌, ◌<◌, ◌*◌, ◌%◌, ◌^◌, bit_or, ap, ◌∙◌, arith}
use Rattle.std.proofs.lemmas.Nat.{or_shifted, one_shl}
use Rattle.std.proofs.Math.Pow.{pow-lt}
use Rattle.fab_frames.proofs.plan.address_word.Goals as goal

pub returns : goal.returns
returns c =
    let column : c.args.x * 134217728 % 4294967296 ≡ c.args.x * 2 ^ 27 = omega (arith, c.requires.x) in
    let frame : 1 * 2 ^ c.args.frame % 4294967296 ≡ 2 ^ c.args.frame = one_shl c.args.frame 32 (omega (arith, c.requires.frame)) in
    let low : 2 ^ c.args.frame < 2 ^ 27 = pow-lt {i = c.args.frame} {j = 27} (omega (arith, c.requires.frame)) in
    ap (λ a. bit_or a (1 * 2 ^ c.args.frame % 4294967296)) column ∙ ap (bit_or (c.args.x * 2 ^ 27)) frame ∙ or_shifted c.args.x 27 (2 ^ c.args.frame) low
