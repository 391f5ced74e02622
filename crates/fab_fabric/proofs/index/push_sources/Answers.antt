use Rattle.std.proofs.Common.{map, refl}
use Rattle.fab_model.specs.Wires.{source_of}
use Rattle.fab_fabric.specs.declared.index.TileWire.TheVariants as wires
use Rattle.fab_fabric.specs.inner.Index.{plain_wire}
use Rattle.fab_fabric.proofs.Listed.{none_yet, one_more}
use Rattle.fab_fabric.proofs.index.push_sources.Goals as goal

pub loop-bit-init : goal.loop-bit-init
loop-bit-init c = none_yet (map plain_wire c.args.wires.now.items) (source_of c.args.row)

pub loop-bit-preserved : goal.loop-bit-preserved
loop-bit-preserved c =
    one_more (source_of c.args.row) (map plain_wire c.args.wires.now.items) c.loop-bit.wires.items c.push.new.self.items c.loop-bit.bit
    (wires.Source c.args.row c.loop-bit.bit) c.loop-bit.invariant c.in_ok-push.ensures.items refl
