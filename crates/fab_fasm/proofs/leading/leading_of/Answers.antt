use Rattle.std.proofs.Common.{sym, subst, arith, take}
use Rattle.fab_fasm.specs.inner.Leading.{BeginsWith}
use Rattle.fab_fasm.specs.Numbers.{number_of, radix}
use Rattle.fab_fasm.proofs.Numerals.{number_more}
use Rattle.fab_fasm.proofs.leading.leading_of.Goals as goal

pub loop-byte-preserved : goal.loop-byte-preserved
loop-byte-preserved c =
    let base = radix c.args.base in
    record {
      begins = subst (BeginsWith base c.with_byte-leading.result.digit c.with_byte-leading.result.behind) (sym (number_more base c.args.text.now c.loop-byte.byte-index c.loop-byte-test.true))
          (c.with_byte-leading.ensures.begins (number_of base (take c.loop-byte.byte-index c.args.text.now)) c.loop-byte.invariant.begins);
      first = c.with_byte-leading.ensures.first;
      few = omega arith;
    }
