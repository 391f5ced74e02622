use Rattle.std.proofs.Common.{get_or, refl}
use Rattle.fab_fabric.specs.declared.wire.Wire.{Wire}
use Rattle.fab_legal.proofs.Lists.{at_default}
use Rattle.fab_route.proofs.Wanting.{sink_more}
use Rattle.fab_route.proofs.nets.sinks_to.Goals as goal

pub goals_of-requires-clause-unjoined : goal.goals_of-requires-clause-unjoined
goals_of-requires-clause-unjoined c = (c.requires.wires c.loop-wire.wire-index (record { 0 = 0 }) c.loop-wire-test.true).unjoined

pub loop-wire-preserved : goal.loop-wire-preserved
loop-wire-preserved c =
    let wire : Wire = get_or c.args.wires.now c.loop-wire.wire-index (record { 0 = 0 }) in
    sink_more c.args.graph.now c.args.nodes.now c.args.wires.now c.loop-wire.wire-index wire c.in_ok-goals.goals.items c.loop-wire.sinks.items c.push.new.self.items (record { goals = c.in_ok-goals.goals; aim = wire.0 })
    (at_default c.args.wires.now c.loop-wire.wire-index (record { 0 = 0 }) c.loop-wire-test.true) refl c.in_ok-push.ensures.items c.in_ok-goals.ensures c.loop-wire.invariant
