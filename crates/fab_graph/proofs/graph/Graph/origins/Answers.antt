use Rattle.std.proofs.Common.{◌∙◌, ap}
use Rattle.fab_model.specs.Grid.{PlainFabric}
use Rattle.fab_ways_laws.specs.Edges.{origins}
use Rattle.fab_graph.proofs.Edges.{origins_are}
use Rattle.fab_graph.proofs.graph.Graph.origins.Goals as goal

pub returns : goal.returns
returns c =
    origins_are c.self.inside.fabric.now c.args.wire.0 c.spot-x.result.0 c.spot-x.result.1 c.spot-x.result.2 c.group_in.result.now c.join_from.result c.spot-x.ensures.number c.spot-x.ensures.index
    c.group_in.ensures.outputs c.join_from.ensures.join
    ∙ ap (λ (f : PlainFabric). origins f c.args.wire.0) c.self.view_is
