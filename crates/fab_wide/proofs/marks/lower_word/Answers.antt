use Rattle.std.proofs.Common.{◌≡◌, ◌-◌, arith, ◌∙◌}
use Rattle.fab_bits.specs.Bits.{bit_number}
use Rattle.fab_netlist.proofs.Rows.{asks_lower, bits_before, bits_whole, mask_small}
use Rattle.fab_wide.proofs.Marked.{bit_small, from_bool-bit}
use Rattle.fab_wide.proofs.marks.lower_word.Goals as goal

pub loop-low-preserved : goal.loop-low-preserved
loop-low-preserved c =
    let row = c.args.row in
    let low = c.loop-low.low in
    let bit : c.from.result ≡ bit_number (asks_lower row (low - 1)) = c.from.ensures ∙ from_bool-bit (asks_lower row (low - 1)) in
    record {
      within = omega (arith, c.loop-low.invariant.within);
      high = bits_before (asks_lower row) low c.loop-low.word c.from.result c.loop-low-test.true c.loop-low.invariant.within c.loop-low.invariant.high bit;
      small = mask_small low c.loop-low.word c.from.result c.loop-low-test.true c.loop-low.invariant.within c.loop-low.invariant.small
          (omega (arith, bit, bit_small (asks_lower row (low - 1))));
    }

pub returns : goal.returns
returns c = bits_whole (asks_lower c.args.row) c.loop-low.low c.loop-low.word (omega (arith, c.loop-low-test.false)) c.loop-low.invariant.high
