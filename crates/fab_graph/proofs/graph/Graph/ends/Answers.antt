use Rattle.std.proofs.Common.{◌<◌, ◌∙◌, All, ap, subst}
use Rattle.fab_model.specs.Grid.{PlainFabric}
use Rattle.fab_fabric.specs.Fabric.{wire_count}
use Rattle.fab_ways_laws.specs.Edges.{ends}
use Rattle.fab_graph.proofs.Edges.{edges_are, edges_within}
use Rattle.fab_graph.proofs.graph.Graph.ends.Goals as goal

pub returns-clause-ends : goal.returns-clause-ends
returns-clause-ends c =
    edges_are c.self.inside.fabric.now c.args.wire.0 c.spot-x.result.0 c.spot-x.result.1 c.spot-x.result.2 c.group_in.result.now c.join_to.result c.spot-x.ensures.number c.spot-x.ensures.index
    c.group_in.ensures.outputs
    c.join_to.ensures.join
    ∙ ap (λ (f : PlainFabric). ends f c.args.wire.0) c.self.view_is

pub returns-clause-within : goal.returns-clause-within
returns-clause-within c =
    subst (λ (f : PlainFabric). All (λ to. to.0 < wire_count f) (ends f c.args.wire.0)) c.self.view_is
    (edges_within c.self.inside.fabric.now c.spot-x.result.0 c.spot-x.result.1 c.group_in.result.now c.join_to.result (ends c.self.inside.fabric.now c.args.wire.0)
    c.group_in.ensures.within
    c.join_to.ensures.within
    (edges_are c.self.inside.fabric.now c.args.wire.0 c.spot-x.result.0 c.spot-x.result.1 c.spot-x.result.2 c.group_in.result.now c.join_to.result c.spot-x.ensures.number c.spot-x.ensures.index
    c.group_in.ensures.outputs
    c.join_to.ensures.join))
