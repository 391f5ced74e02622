use Rattle.std.proofs.Common.{ℕ, List, Vec, Global, map, sym, ap, ◌∙◌, subst, arith}
use Rattle.fab_model.specs.Grid.{PlainFabric}
use Rattle.fab_legal.specs.Sinks.{packed_net}
use Rattle.fab_pathfinder.specs.Plain.{goals_of}
use Rattle.fab_ways_laws.proofs.NetTrees.{net_known}
use Rattle.fab_nodes_laws.specs.Nets.{AreGoals}
use Rattle.std.specs.List.{All}
use Rattle.fab_route.specs.Plain.{graph_of, numbering_of}
use Rattle.fab_route.specs.inner.Wanted.{IsUnjoined, AreRoots}
use Rattle.fab_route.proofs.Grouping.{group_is}
use Rattle.fab_route.proofs.Wanting.{number, unjoined_sinks, net_more, all_nets}
use Rattle.fab_route.proofs.nets.nets_of.Goals as goal

pub roots-requires-clause-known : goal.roots-requires-clause-known
roots-requires-clause-known c =
    net_known c.args.packed.now c.requires.made c.net_at-net.result (c.loop-place.place, c.net_at-net.ensures.0, c.net_at-net.ensures.1)

pub net_to-requires-clause-wires : goal.net_to-requires-clause-wires
net_to-requires-clause-wires c =
    let same = ap (map number) c.deref.ensures.value ∙ group_is c.args.fabric.now c.args.packed.now c.args.placed.now c.args.sinks.now.items c.loop-place.place c.index.result.now c.net_at-net.result c.requires.sinks c.net_at-net.ensures c.index.ensures in
    subst (λ (f : PlainFabric). All (IsUnjoined f) c.deref.result.now) (sym c.in_ok-graph.ensures)
    (unjoined_sinks c.args.fabric.now c.is_well_made.ensures.are_tiles c.args.packed.now c.args.placed.now c.requires.made c.requires.placed c.net_at-net.result c.deref.result.now same)

pub loop-place-preserved : goal.loop-place-preserved
loop-place-preserved c =
    let f = c.args.fabric.now in
    let same = ap (map number) c.deref.ensures.value ∙ group_is f c.args.packed.now c.args.placed.now c.args.sinks.now.items c.loop-place.place c.index.result.now c.net_at-net.result c.requires.sinks c.net_at-net.ensures c.index.ensures in
    let goals : List (List ℕ) = goals_of c.in_ok-net_to.field-0.sinks.items in
    net_more f c.args.nodes.now c.args.packed.now c.args.placed.now c.loop-place.place c.net_at-net.result c.loop-place.nets.items c.push.new.self.items c.in_ok-net_to.field-0 c.net_at-net.ensures c.in_ok-push.ensures.items
    (record {
      roots = subst (λ (v : Vec ℕ Global). AreRoots f c.args.placed.now c.args.nodes.now (packed_net c.args.packed.now c.net_at-net.result) v.items) (sym c.in_ok-net_to.ensures.roots) c.in_ok-roots.ensures;
      goals = subst (λ (ss : List ℕ). AreGoals f (graph_of c.args.nodes.now) (numbering_of c.args.nodes.now) ss goals) same
          (subst (λ (g : PlainFabric). AreGoals g (graph_of c.args.nodes.now) (numbering_of c.args.nodes.now) (map number c.deref.result.now) goals) c.in_ok-graph.ensures c.in_ok-net_to.ensures.goals);
    })
    c.loop-place.invariant

pub returns-clause-nets : goal.returns-clause-nets
returns-clause-nets c =
    all_nets c.args.fabric.now c.args.nodes.now c.args.packed.now c.args.placed.now c.loop-place.place c.loop-place.nets.items (omega (arith, c.loop-place-test.false, c.loop-place.auto.place-end, c.net_count-place-end.ensures.count))
    c.loop-place.invariant
