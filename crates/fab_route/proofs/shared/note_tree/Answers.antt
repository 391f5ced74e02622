use Rattle.std.proofs.Common.{get_or, ◌∙◌, arith}
use Rattle.std.proofs.lemmas.List.{length-set}
use Rattle.fab_legal.proofs.Lists.{at_default}
use Rattle.fab_route.proofs.Owned.{note_more}
use Rattle.fab_route.proofs.shared.note_tree.Goals as goal

pub loop-node-preserved : goal.loop-node-preserved
loop-node-preserved c =
    let node = get_or c.args.nodes.now c.loop-node.node-index 0 in
    record {
      long = length-set c.loop-node.owners.items node c.noted.result ∙ c.loop-node.invariant.long;
      noted = note_more c.args.owners.now.items c.loop-node.owners.items c.args.place c.loop-node.node-index node c.args.nodes.now c.index-here.result.now c.noted.result
          (at_default c.args.nodes.now c.loop-node.node-index 0 c.loop-node-test.true) (omega (arith, c.requires c.loop-node.node-index 0 c.loop-node-test.true, c.loop-node.invariant.long)) c.index-here.ensures c.noted.ensures
          c.loop-node.invariant.noted;
    }
