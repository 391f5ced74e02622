use Rattle.std.proofs.Common.{arith, ◌∙◌, ap, map, List}
use Rattle.std.proofs.lemmas.List.{take_all}
use Rattle.fab_fabric.specs.declared.wire.Wire.{Wire}
use Rattle.fab_route.specs.Plain.{node_of}
use Rattle.fab_route.proofs.Aimed.{origin_inside, goals_are, one_goal}
use Rattle.fab_route.proofs.goals.goals_of.Goals as goal

pub node-requires : goal.node-requires
node-requires c =
    origin_inside c.args.graph.now c.is_well_made.ensures c.args.nodes.now c.requires.nodes c.args.sink c.requires.sink c.requires.unjoined c.origins-origins.result c.loop-index.index c.at.result c.origins-origins.ensures c.at.ensures

pub returns : goal.returns
returns c =
    goals_are c.args.graph.now c.is_well_made.ensures c.args.nodes.now c.requires.nodes c.args.sink c.requires.sink c.requires.unjoined c.loop-index.goals.items
    (c.loop-index.invariant ∙ ap (λ (ws : List Wire). map (node_of c.args.nodes.now) ws) (take_all c.loop-index.index c.origins-origins.result (omega arith) ∙ c.origins-origins.ensures))

pub loop-index-preserved : goal.loop-index-preserved
loop-index-preserved c =
    one_goal c.args.nodes.now c.origins-origins.result c.loop-index.index c.at.result c.loop-index.goals.items c.push.new.self.items c.node.result c.at.ensures c.loop-index.invariant c.in_ok-push.ensures.items c.node.ensures
