use Rattle.std.proofs.Common.{arith}
use Rattle.fab_route.proofs.Leading.{flat_step}
use Rattle.fab_route.proofs.targets.targets.Goals as goal

pub loop-wire-preserved : goal.loop-wire-preserved
loop-wire-preserved c =
    flat_step c.args.fabric.now c.args.wires.now c.args.nodes.now c.loop-wire.wire-index c.loop-wire.starts.items c.loop-wire.targets.items c.push.new.self.items c.add_targets.new.targets.items c.len.result c.loop-wire.invariant
    c.in_ok-add_targets.ensures c.in_ok-push.ensures.items (omega (arith, c.len.ensures, c.add_targets.new.targets.ok.0))
