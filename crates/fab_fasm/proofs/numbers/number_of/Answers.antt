use Rattle.std.proofs.Common.{◌∙◌}
use Rattle.fab_fasm.specs.Numbers.{radix}
use Rattle.fab_fasm.proofs.Numerals.{small_next, least_radix}
use Rattle.fab_fasm.proofs.numbers.number_of.Goals as goal

pub loop-byte-preserved : goal.loop-byte-preserved
loop-byte-preserved c = c.with_byte-number.ensures ∙ small_next (radix c.args.base) c.args.text.now c.loop-byte.byte-index c.loop-byte.number (least_radix c.args.base) c.loop-byte-test.true c.loop-byte.invariant
