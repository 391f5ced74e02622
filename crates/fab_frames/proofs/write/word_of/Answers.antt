use Rattle.std.proofs.Common.{◌∙◌, sym}
use Rattle.fab_fabric.specs.Bits.{plain_bits}
use Rattle.fab_frames.specs.inner.Taking.{plain_part}
use Rattle.fab_frames.proofs.PlacedWords.{no_fixed_part, word_by_places}
use Rattle.fab_frames.proofs.write.word_of.Goals as goal

pub returns-in_default : goal.returns-in_default
returns-in_default c =
    c.placed_word.ensures ∙ sym (word_by_places c.args.fabric.now (plain_bits c.args.bits.now) (plain_part c.args.part) (no_fixed_part c.args.part c.in_default.not-Fixed))
