use Rattle.std.proofs.Common.{◌+◌}
use Rattle.fab_place.specs.Pins.{pin}
use Rattle.fab_place.proofs.Listed.{counted_behind, none_behind}
use Rattle.fab_place.proofs.pins.put_cells.Goals as goal

pub loop-item-init : goal.loop-item-init
loop-item-init c = none_behind c.args.made.now.items (λ number. pin (c.args.inputs + number) number)

pub loop-item-preserved : goal.loop-item-preserved
loop-item-preserved c =
    counted_behind c.args.made.now.items c.loop-item.made.items c.push.new.self.items (λ number. pin (c.args.inputs + number) number) c.loop-item.item c.loop-item.invariant c.in_ok-push.ensures.items
