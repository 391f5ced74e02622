use Rattle.fab_route.specs.Plain.{graph_of}
use Rattle.fab_route.proofs.Guiding.{consistent, ends_inside}
use Rattle.fab_route.proofs.bounds.entries_of.Goals as goal

pub returns : goal.returns
returns c =
    consistent c.args.window c.requires.window c.args.classes (graph_of c.args.nodes.now) c.args.places.now.items c.in_ok-hops.hops.items c.kept.result.items (ends_inside (graph_of c.args.nodes.now) c.requires.graph) c.requires.long c.requires.within
    c.in_ok-hops.ensures.many c.in_ok-hops.ensures.hops c.kept.ensures
