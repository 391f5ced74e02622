use Rattle.std.proofs.Common.{◌≡◌, ◌+◌, true, false, arith}
use Rattle.fab_netlist.specs.WellMade.{table_bit}
use Rattle.fab_fabric.specs.Bits.{plain_bits}
use Rattle.fab_features.proofs.Added.{ones_more, ones_skip, ones_all, no_ones, still_bits, bit_there}
use Rattle.fab_features.proofs.ones.set_ones.Goals as goal
use Rattle.fab_features.proofs.ones.set_ones.Goals.{then-has_one, else-has_one}

pub loop-place-init : goal.loop-place-init
loop-place-init c = record { are = c.requires.are; adds = no_ones (plain_bits c.args.bits.now) c.args.ones }

pub set-requires : goal.set-requires
set-requires c =
    let o = c.args.ones in
    bit_there c.args.fabric.now c.loop-place.bits o.x o.y (o.low + c.loop-place.place) c.loop-place.invariant.are (omega arith)

pub loop-place-preserved : goal.loop-place-preserved
loop-place-preserved c =
    let start = plain_bits c.args.bits.now in
    let l = c.loop-place in
    let o = c.args.ones in
    elim c.if-has_one.branch [
      | then-has_one w ↦ (
          let one : table_bit o.value l.place ≡ true = cc in
          record {
            are = still_bits c.args.fabric.now l.bits c.if-has_one.bits o.x o.y (o.low + l.place) true (rw w.bits-is w.set.ensures) l.invariant.are;
            adds = ones_more start l.bits c.if-has_one.bits o l.place one (rw w.bits-is w.set.ensures) l.invariant.adds;
          })
      | else-has_one w ↦ (
          let none : table_bit o.value l.place ≡ false = cc in
          record {
            are = rw w.bits-is l.invariant.are;
            adds = rw w.bits-is (ones_skip start (plain_bits l.bits) o l.place none l.invariant.adds);
          })
    ]

pub returns-clause-adds : goal.returns-clause-adds
returns-clause-adds c = ones_all (plain_bits c.args.bits.now) (plain_bits c.loop-place.bits) c.args.ones c.loop-place.place (omega arith) c.loop-place.invariant.adds
