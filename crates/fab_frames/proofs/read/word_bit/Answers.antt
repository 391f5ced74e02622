use Rattle.std.proofs.Common.{◌∙◌, nat_eq, ap, sym}
use Rattle.std.proofs.lemmas.Nat.Bits.{shr_and_one}
use Rattle.fab_frames.proofs.Taken.{word_bit_at}
use Rattle.fab_frames.proofs.read.word_bit.Goals as goal

pub returns : goal.returns
returns c = ap (λ n. nat_eq n 1) (shr_and_one c.args.word c.args.bit) ∙ sym (word_bit_at c.args.word c.args.bit c.requires)
