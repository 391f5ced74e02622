use Rattle.std.proofs.Common.{◌+◌}
use Rattle.fab_place.specs.Pins.{pin}
use Rattle.fab_place.proofs.Listed.{counted_behind, none_behind}
use Rattle.fab_place.proofs.pins.put_inputs.Goals as goal

pub loop-net-init : goal.loop-net-init
loop-net-init c = none_behind c.args.made.now.items (λ number. pin number (c.args.cells + number))

pub loop-net-preserved : goal.loop-net-preserved
loop-net-preserved c =
    counted_behind c.args.made.now.items c.loop-net.made.items c.push.new.self.items (λ number. pin number (c.args.cells + number)) c.loop-net.net c.loop-net.invariant c.in_ok-push.ensures.items
