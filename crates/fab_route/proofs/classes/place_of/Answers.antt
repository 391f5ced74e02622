use Rattle.fab_route.proofs.Joining.{node_low}
use Rattle.fab_route.proofs.classes.place_of.Goals as goal

pub spot-column-requires : goal.spot-column-requires
spot-column-requires c = node_low c.args.fabric.now c.args.nodes.now c.requires.nodes c.args.node c.requires.node c.wire.result c.wire.ensures
