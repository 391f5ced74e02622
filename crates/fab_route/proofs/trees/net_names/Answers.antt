use Rattle.fab_ways_laws.proofs.NetTrees.{net_known}
use Rattle.fab_route.proofs.trees.net_names.Goals as goal

pub net_name-requires-clause-known : goal.net_name-requires-clause-known
net_name-requires-clause-known c =
    net_known c.args.packed.now c.requires.made c.net_at.result (c.loop-place.place, c.net_at.ensures.0, c.net_at.ensures.1)
