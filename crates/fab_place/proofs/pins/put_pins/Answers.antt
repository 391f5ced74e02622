use Rattle.std.proofs.Common.{sym}
use Rattle.std.proofs.lemmas.List.{append-nil}
use Rattle.fab_place.specs.Pins.{pin_on}
use Rattle.fab_place.proofs.Listed.{mapped_behind}
use Rattle.fab_netlist.specs.declared.net_id.NetId.TheVariants as ids
use Rattle.fab_place.proofs.pins.put_pins.Goals as goal

pub loop-net-init : goal.loop-net-init
loop-net-init c = sym (append-nil c.args.made.now.items)

pub loop-net-preserved : goal.loop-net-preserved
loop-net-preserved c =
    mapped_behind c.args.made.now.items c.loop-net.made.items c.put_pin.new.made.items (pin_on c.args.inputs c.args.item) c.args.nets.now c.loop-net.net-index ids.Zero c.loop-net-test.true c.loop-net.invariant c.in_ok-put_pin.ensures
