use Rattle.std.proofs.Common.{◌≡◌, ◌-◌, arith, ap, ◌∙◌}
use Rattle.fab_bits.specs.Bits.{bit_number}
use Rattle.fab_netlist.proofs.Rows.{asks_lower, bits_before, bits_whole, mask_small}
use Rattle.fab_netlist.proofs.wide.Cube.lower_mask.Goals as goal

pub loop-low-preserved : goal.loop-low-preserved
loop-low-preserved c =
    let bit : c.bit_number.result ≡ bit_number (asks_lower c.args.self (c.loop-low.low - 1)) = c.bit_number.ensures.value ∙ ap bit_number c.matches_lower.ensures in
    record {
      within = omega (arith, c.loop-low.invariant.within);
      high = bits_before (asks_lower c.args.self) c.loop-low.low c.loop-low.mask c.bit_number.result c.loop-low-test.true c.loop-low.invariant.within c.loop-low.invariant.high bit;
      small = mask_small c.loop-low.low c.loop-low.mask c.bit_number.result c.loop-low-test.true c.loop-low.invariant.within c.loop-low.invariant.small c.bit_number.ensures.small;
    }

pub returns : goal.returns
returns c = bits_whole (asks_lower c.args.self) c.loop-low.low c.loop-low.mask (omega (arith, c.loop-low-test.false)) c.loop-low.invariant.high
