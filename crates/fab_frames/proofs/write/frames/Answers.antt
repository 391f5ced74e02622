use Rattle.fab_fabric.specs.Bits.{plain_bits}
use Rattle.fab_frames.proofs.Parts.{word_part_within, all_words}
use Rattle.fab_frames.proofs.write.frames.Goals as goal

pub word_of-requires-clause-part : goal.word_of-requires-clause-part
word_of-requires-clause-part c =
    word_part_within c.args.fabric.now c.deref-part-items.result.now c.in_ok-parts.parts.items c.loop-part.part-index _
    c.deref-part-items.ensures.value c.in_ok-parts.ensures c.loop-part-test.true

pub returns : goal.returns
returns c =
    all_words c.args.fabric.now (plain_bits c.args.bits.now) c.deref-part-items.result.now c.in_ok-parts.parts.items c.loop-part.words.items c.loop-part.part-index
    c.deref-part-items.ensures.value c.in_ok-parts.ensures c.loop-part-test.false c.loop-part.invariant
