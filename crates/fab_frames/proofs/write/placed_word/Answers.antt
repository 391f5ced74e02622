use Rattle.std.proofs.Common.{◌*◌, ◌^◌, ◌%◌, ◌∙◌, bit_or, ap, arith}
use Rattle.fab_fabric.specs.Bits.{plain_bits}
use Rattle.fab_frames.specs.Positions.{bit_in}
use Rattle.fab_frames.specs.inner.Taking.{plain_part, placed_by}
use Rattle.fab_frames.proofs.Numbers.{bits_more, byte_is}
use Rattle.fab_frames.proofs.Words.{bit_there, all_bits}
use Rattle.fab_frames.proofs.write.placed_word.Goals as goal

pub loop-bit-preserved : goal.loop-bit-preserved
loop-bit-preserved c =
    let placed = placed_by c.args.fabric.now (plain_part c.args.part) in
    ap (λ byte. bit_or c.loop-bit.word (byte * 2 ^ c.loop-bit.bit % 4294967296)) (c.from.ensures ∙ byte_is c.bit_of.result)
    ∙ bits_more c.loop-bit.bit c.loop-bit.word (bit_there placed (bit_in (plain_bits c.args.bits.now))) c.bit_of.result (omega (arith, c.loop-bit-test.true)) c.loop-bit.invariant c.bit_of.ensures

pub returns : goal.returns
returns c =
    all_bits (placed_by c.args.fabric.now (plain_part c.args.part)) (bit_in (plain_bits c.args.bits.now)) c.loop-bit.bit c.loop-bit.word
    (omega (arith, c.loop-bit-test.false, c.loop-bit.auto.bit-end)) c.loop-bit.invariant
