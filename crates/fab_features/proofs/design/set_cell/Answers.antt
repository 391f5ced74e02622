use Rattle.std.proofs.Common.{◌≡◌, arith}
use Rattle.fab_fabric.specs.Bits.{plain_bits}
use Rattle.fab_features.proofs.Setting.{lut_fits, site_adds}
use Rattle.fab_features.proofs.design.set_cell.Goals as goal

pub set_ones-requires-clause-fits : goal.set_ones-requires-clause-fits
set_ones-requires-clause-fits c =
    omega (arith, c.first_bit-low.ensures.before, (lut_fits c.args.fabric.now c.args.site c.in-Some.tile.now c.requires.of_kind c.in-Some.ensures.found.0).0)

pub set_ones-requires-2-clause-fits : goal.set_ones-requires-2-clause-fits
set_ones-requires-2-clause-fits c =
    omega (arith, c.first_bit-low.ensures.before, (lut_fits c.args.fabric.now c.args.site c.in-Some.tile.now c.requires.of_kind c.in-Some.ensures.found.0).0)

pub set_ones-requires-3-clause-fits : goal.set_ones-requires-3-clause-fits
set_ones-requires-3-clause-fits c =
    omega (arith, c.first_bit-low.ensures.before, (lut_fits c.args.fabric.now c.args.site c.in-Some.tile.now c.requires.of_kind c.in-Some.ensures.found.0).0)

pub returns-clause-adds : goal.returns-clause-adds
returns-clause-adds c =
    let table : c.from.result ≡ c.args.cell.now.table = cc in
    site_adds c.args.fabric.now c.args.resets c.in-Some.tile.now c.args.site c.args.cell.now c.first_bit-low.result c.from.result c.latch_value.result c.reset_value.result
    c.in-Some.ensures.found.0 c.first_bit-low.ensures.before table c.latch_value.ensures c.reset_value.ensures
    (plain_bits c.args.bits.now) (plain_bits c.set_ones.new.bits) (plain_bits c.set_ones-2.new.bits) (plain_bits c.set_ones-3.new.bits) c.set_ones.ensures.adds c.set_ones-2.ensures.adds c.set_ones-3.ensures.adds
