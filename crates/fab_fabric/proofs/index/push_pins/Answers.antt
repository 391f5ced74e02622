use Rattle.std.proofs.Common.{map, refl}
use Rattle.fab_model.specs.Wires.{pin_of}
use Rattle.fab_fabric.specs.declared.index.TileWire.TheVariants as wires
use Rattle.fab_fabric.specs.inner.Index.{plain_wire}
use Rattle.fab_fabric.proofs.Listed.{none_yet, one_more}
use Rattle.fab_fabric.proofs.index.push_pins.Goals as goal

pub loop-pin-init : goal.loop-pin-init
loop-pin-init c = none_yet (map plain_wire c.args.wires.now.items) (pin_of c.args.bel)

pub loop-pin-preserved : goal.loop-pin-preserved
loop-pin-preserved c =
    one_more (pin_of c.args.bel) (map plain_wire c.args.wires.now.items) c.loop-pin.wires.items c.push.new.self.items c.loop-pin.pin
    (wires.Pin c.args.bel c.loop-pin.pin) c.loop-pin.invariant c.in_ok-push.ensures.items refl
