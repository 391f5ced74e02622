use Rattle.std.proofs.Common.{◌∙◌, arith}
use Rattle.fab_route.specs.Plain.{graph_of}
use Rattle.fab_route.proofs.Hopping.{place_read, node_more}
use Rattle.fab_route.proofs.hops.hops_of.Goals as goal

pub loop-node-preserved : goal.loop-node-preserved
loop-node-preserved c = record {
  many = c.in_ok-add_hops.ensures.kept.0 ∙ c.loop-node.invariant.many;
  hops = node_more (graph_of c.args.nodes.now) c.args.places.now.items c.loop-node.node c.index-from.result.now c.ends.result.now c.loop-node.hops.items c.add_hops.new.hops.items
      (place_read c.args.places.now.items c.loop-node.node c.index-from.result.now (omega (arith, c.loop-node-test.true, c.count-node-end.ensures, c.requires.long)) c.index-from.ensures) c.ends.ensures
      c.in_ok-add_hops.ensures.kept c.in_ok-add_hops.ensures.added c.loop-node.invariant.hops;
}
