use Rattle.std.proofs.Common.{◌<◌, [], Global, map, length, get_or, sym, ap, ◌∙◌, arith}
use Rattle.std.proofs.lemmas.List.{length-map, get_or_default}
use Rattle.fab_netlist.specs.declared.net_id.NetId.TheVariants as ids
use Rattle.fab_legal.proofs.Lists.{at_read}
use Rattle.fab_pathfinder.specs.declared.tree.Tree.{Tree}
use Rattle.fab_pathfinder.specs.Plain.{paths_of, trees_of}
use Rattle.fab_nodes_laws.proofs.NetSinks.{mapped_at}
use Rattle.fab_route.specs.Plain.{numbering_of}
use Rattle.fab_route.specs.inner.Wanted.{wire_groups}
use Rattle.fab_route.proofs.Growing.{tree_more, all_trees}
use Rattle.fab_route.proofs.Grouping.{numbers, group_read}
use Rattle.fab_route.proofs.Wanting.{number}
use Rattle.fab_route.proofs.trees.wire_trees.Goals as goal

pub loop-place-preserved : goal.loop-place-preserved
loop-place-preserved c =
    let i = c.loop-place.place in
    let tree : Tree = c.index-trees-place.result in
    let low : i < length c.args.names.now = omega (arith, c.loop-place-test.true, c.min-count.ensures, c.min.ensures) in
    let few : i < length c.args.sinks.now.items = omega (arith, c.loop-place-test.true, c.min-count.ensures, c.min.ensures, c.len.ensures) in
    let less : i < length c.args.trees.now = omega (arith, c.loop-place-test.true, c.min-count.ensures) in
    tree_more (numbering_of c.args.nodes.now) c.args.names.now (wire_groups c.args.sinks.now.items) (trees_of c.args.trees.now) i (get_or c.args.names.now i ids.Zero) (map number c.deref.result.now) (paths_of tree)
    c.in_ok-edges.edges.items c.loop-place.told.items c.put_tree.new.trees.items low (omega (arith, few, length-map c.args.sinks.now.items (numbers {A = Global}))) (omega (arith, less, length-map c.args.trees.now paths_of))
    (get_or_default c.args.names.now i ids.Zero (get_or c.args.names.now i ids.Zero) low) (ap (map number) c.deref.ensures.value ∙ group_read c.args.sinks.now.items i c.index.result.now few c.index.ensures)
    (sym (mapped_at paths_of c.args.trees.now i tree [] (at_read c.args.trees.now i tree less c.index-trees-place.is))) c.in_ok-edges.ensures c.loop-place.invariant c.in_ok-put_tree.ensures

pub returns : goal.returns
returns c =
    all_trees (numbering_of c.args.nodes.now) c.args.names.now (wire_groups c.args.sinks.now.items) (trees_of c.args.trees.now) c.loop-place.place c.loop-place.told.items
    (omega (arith, c.loop-place-test.false, c.min-count.ensures, c.min.ensures, c.len.ensures, length-map c.args.sinks.now.items (numbers {A = Global}), length-map c.args.trees.now paths_of)) c.loop-place.invariant
