use Rattle.std.proofs.Common.{[], get_or, ap, sym, ◌∙◌}
use Rattle.fab_pathfinder.specs.declared.tree.Tree.{Tree}
use Rattle.fab_pathfinder.specs.Rounds.{nodes_of}
use Rattle.fab_pathfinder.specs.Plain.{paths_of, trees_of}
use Rattle.fab_legal.proofs.Lists.{at_default}
use Rattle.fab_nodes_laws.proofs.NetSinks.{mapped_at}
use Rattle.fab_route.proofs.Owned.{owned_more}
use Rattle.fab_route.proofs.Telling.{tree_nodes}
use Rattle.fab_route.proofs.shared.owners_of.Goals as goal

pub loop-place-preserved : goal.loop-place-preserved
loop-place-preserved c =
    let tree : Tree = get_or c.args.trees.now c.loop-place.place c.index-trees-place.result in
    record {
      long = c.note_tree.ensures.long ∙ c.loop-place.invariant.long;
      owners = owned_more (trees_of c.args.trees.now) c.loop-place.owners.items c.note_tree.new.owners.items c.loop-place.place c.deref.result.now
          (ap nodes_of (mapped_at paths_of c.args.trees.now c.loop-place.place tree [] (at_default c.args.trees.now c.loop-place.place c.index-trees-place.result c.loop-place-test.true)) ∙ tree_nodes tree ∙ sym c.deref.ensures.value)
          c.note_tree.ensures.long c.note_tree.ensures.noted c.loop-place.invariant.owners;
    }
