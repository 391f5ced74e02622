use Rattle.std.proofs.Common.{◌-◌, ℕ, List, Option, not, map, sym, ap, ◌∙◌, subst, arith}
use Rattle.fab_pathfinder.specs.declared.tree.Round.{Round}
use Rattle.fab_pathfinder.specs.Plain.{nets_of, trees_of, rounds_of}
use Rattle.fab_pathfinder.specs.Rounds.{Paths}
use Rattle.fab_route.specs.declared.shared.Shared.{Shared}
use Rattle.fab_route.specs.inner.Owners.{IsLeastShared}
use Rattle.fab_route.specs.Plain.{graph_of, numbering_of}
use Rattle.fab_route.specs.inner.Told.{told_trees, AreLow, AreLowRounds}
use Rattle.fab_route.specs.inner.Wanted.{wire_groups}
use Rattle.fab_route.proofs.Telling.{last_is, low_last, low_rounds, told_is, rounds_told, none_shared, one_shared, owners_last, are_routed, some_shared, second_in, first_in_nets, is_overused}
use Rattle.fab_route.proofs.router.tell.Goals as goal

pub wire_trees-requires : goal.wire_trees-requires
wire_trees-requires c =
    let last_trees_are = last_is c.args.fabric.now c.args.packed.now c.args.placed.now c.is_well_made.ensures.are_tiles c.requires.made c.requires.placed c.args.nodes.now c.requires.nodes (nets_of c.args._nets.now) c.requires.nets c.args._allowed c.args.run.now c.requires.run (c.len.result - 1) c.index-last.result.now (omega (arith, c.len.ensures, c.requires.run.some_rounds)) c.index-last.ensures in
    low_last c.args.fabric.now c.args.packed.now c.args.placed.now c.is_well_made.ensures.are_tiles c.requires.made c.requires.placed c.args.nodes.now c.requires.nodes (nets_of c.args._nets.now) c.requires.nets c.args._allowed c.args.run.now c.requires.run c.deref-then-is_none-2.result.now (ap trees_of c.deref-then-is_none-2.ensures.value ∙ last_trees_are)

pub returns-then-is_none-clause-routed : goal.returns-then-is_none-clause-routed
returns-then-is_none-clause-routed c =
    let last_trees_are = last_is c.args.fabric.now c.args.packed.now c.args.placed.now c.is_well_made.ensures.are_tiles c.requires.made c.requires.placed c.args.nodes.now c.requires.nodes (nets_of c.args._nets.now) c.requires.nets c.args._allowed c.args.run.now c.requires.run (c.len.result - 1) c.index-last.result.now (omega (arith, c.len.ensures, c.requires.run.some_rounds)) c.index-last.ensures in
    let names = c.deref-then-is_none.result.now in
    let groups = wire_groups c.args.sinks.now.items in
    are_routed c.args.fabric.now c.args.packed.now c.args.placed.now c.is_well_made.ensures.are_tiles c.requires.made c.requires.placed c.args.nodes.now c.requires.nodes (nets_of c.args._nets.now) c.requires.nets c.args._allowed c.args.run.now c.requires.run c.in_ok-trees.trees.items
    (c.in_ok-trees.ensures ∙ ap (λ (ts : List Paths). told_trees (numbering_of c.args.nodes.now) names groups ts) (ap trees_of c.deref-then-is_none-2.ensures.value ∙ last_trees_are)
    ∙ told_is c.args.fabric.now c.args.packed.now c.args.placed.now c.is_well_made.ensures.are_tiles c.requires.made c.requires.placed c.args.nodes.now c.requires.nodes (nets_of c.args._nets.now) c.requires.nets c.args._allowed c.args.run.now c.requires.run names groups _ (c.deref-then-is_none.ensures.value ∙ c.in_ok-names.ensures) c.requires.sinks)
    (none_shared c.args.fabric.now c.args.packed.now c.args.placed.now c.is_well_made.ensures.are_tiles c.requires.made c.requires.placed c.args.nodes.now c.requires.nodes (nets_of c.args._nets.now) c.requires.nets c.args._allowed c.args.run.now c.requires.run (c.is_none.ensures ∙ ap not c.if-is_none.true))

pub owners_of-requires : goal.owners_of-requires
owners_of-requires c =
    let last_trees_are = last_is c.args.fabric.now c.args.packed.now c.args.placed.now c.is_well_made.ensures.are_tiles c.requires.made c.requires.placed c.args.nodes.now c.requires.nodes (nets_of c.args._nets.now) c.requires.nets c.args._allowed c.args.run.now c.requires.run (c.len.result - 1) c.index-last.result.now (omega (arith, c.len.ensures, c.requires.run.some_rounds)) c.index-last.ensures in
    let same = ap trees_of c.deref-2.ensures.value ∙ last_trees_are in
    subst (λ (n : ℕ). AreLow n c.deref-2.result.now) (sym c.count.ensures) (low_last c.args.fabric.now c.args.packed.now c.args.placed.now c.is_well_made.ensures.are_tiles c.requires.made c.requires.placed c.args.nodes.now c.requires.nodes (nets_of c.args._nets.now) c.requires.nets c.args._allowed c.args.run.now c.requires.run c.deref-2.result.now same)

pub unreachable-requires : goal.unreachable-requires
unreachable-requires c =
    let last_trees_are = last_is c.args.fabric.now c.args.packed.now c.args.placed.now c.is_well_made.ensures.are_tiles c.requires.made c.requires.placed c.args.nodes.now c.requires.nodes (nets_of c.args._nets.now) c.requires.nets c.args._allowed c.args.run.now c.requires.run (c.len.result - 1) c.index-last.result.now (omega (arith, c.len.ensures, c.requires.run.some_rounds)) c.index-last.ensures in
    let same = ap trees_of c.deref-2.ensures.value ∙ last_trees_are in
    let owned = owners_last c.args.fabric.now c.args.packed.now c.args.placed.now c.is_well_made.ensures.are_tiles c.requires.made c.requires.placed c.args.nodes.now c.requires.nodes (nets_of c.args._nets.now) c.requires.nets c.args._allowed c.args.run.now c.requires.run c.deref-2.result.now c.in_ok-owners.owners.items same c.in_ok-owners.ensures.owners in
    let one = one_shared c.args.fabric.now c.args.packed.now c.args.placed.now c.is_well_made.ensures.are_tiles c.requires.made c.requires.placed c.args.nodes.now c.requires.nodes (nets_of c.args._nets.now) c.requires.nets c.args._allowed c.args.run.now c.requires.run (c.is_none.ensures ∙ ap not c.if-is_none.false) in
    some_shared c.args.fabric.now c.args.packed.now c.args.placed.now c.is_well_made.ensures.are_tiles c.requires.made c.requires.placed c.args.nodes.now c.requires.nodes (nets_of c.args._nets.now) c.requires.nets c.args._allowed c.args.run.now c.requires.run c.in_ok-owners.owners.items owned (c.in_ok-owners.ensures.long ∙ c.count.ensures) one.0.0 one.0.1
    (subst (λ (o : Option Shared). IsLeastShared c.args.fabric.now c.args.nodes.now c.in_ok-owners.owners.items (graph_of c.args.nodes.now).nodes o) c.in_default.is c.least_shared.ensures)

pub round_trees-requires : goal.round_trees-requires
round_trees-requires c =
    subst (λ (rs : List Round). AreLowRounds (graph_of c.args.nodes.now).nodes rs) (sym c.deref-4.ensures.value) (low_rounds c.args.fabric.now c.args.packed.now c.args.placed.now c.is_well_made.ensures.are_tiles c.requires.made c.requires.placed c.args.nodes.now c.requires.nodes (nets_of c.args._nets.now) c.requires.nets c.args._allowed c.args.run.now c.requires.run)

pub net_at-requires-clause-place : goal.net_at-requires-clause-place
net_at-requires-clause-place c =
    let last_trees_are = last_is c.args.fabric.now c.args.packed.now c.args.placed.now c.is_well_made.ensures.are_tiles c.requires.made c.requires.placed c.args.nodes.now c.requires.nodes (nets_of c.args._nets.now) c.requires.nets c.args._allowed c.args.run.now c.requires.run (c.len.result - 1) c.index-last.result.now (omega (arith, c.len.ensures, c.requires.run.some_rounds)) c.index-last.ensures in
    let same = ap trees_of c.deref-2.ensures.value ∙ last_trees_are in
    let owned = owners_last c.args.fabric.now c.args.packed.now c.args.placed.now c.is_well_made.ensures.are_tiles c.requires.made c.requires.placed c.args.nodes.now c.requires.nodes (nets_of c.args._nets.now) c.requires.nets c.args._allowed c.args.run.now c.requires.run c.deref-2.result.now c.in_ok-owners.owners.items same c.in_ok-owners.ensures.owners in
    let found = subst (λ (o : Option Shared). IsLeastShared c.args.fabric.now c.args.nodes.now c.in_ok-owners.owners.items (graph_of c.args.nodes.now).nodes o) c.in-Some.is c.least_shared.ensures in
    first_in_nets c.args.fabric.now c.args.packed.now c.args.placed.now c.is_well_made.ensures.are_tiles c.requires.made c.requires.placed c.args.nodes.now c.requires.nodes (nets_of c.args._nets.now) c.requires.nets c.args._allowed c.args.run.now c.requires.run c.in_ok-owners.owners.items owned (c.in_ok-owners.ensures.long ∙ c.count.ensures) c.in-Some.shared found

pub net_at-requires-2-clause-place : goal.net_at-requires-2-clause-place
net_at-requires-2-clause-place c =
    let last_trees_are = last_is c.args.fabric.now c.args.packed.now c.args.placed.now c.is_well_made.ensures.are_tiles c.requires.made c.requires.placed c.args.nodes.now c.requires.nodes (nets_of c.args._nets.now) c.requires.nets c.args._allowed c.args.run.now c.requires.run (c.len.result - 1) c.index-last.result.now (omega (arith, c.len.ensures, c.requires.run.some_rounds)) c.index-last.ensures in
    let same = ap trees_of c.deref-2.ensures.value ∙ last_trees_are in
    let owned = owners_last c.args.fabric.now c.args.packed.now c.args.placed.now c.is_well_made.ensures.are_tiles c.requires.made c.requires.placed c.args.nodes.now c.requires.nodes (nets_of c.args._nets.now) c.requires.nets c.args._allowed c.args.run.now c.requires.run c.deref-2.result.now c.in_ok-owners.owners.items same c.in_ok-owners.ensures.owners in
    let found = subst (λ (o : Option Shared). IsLeastShared c.args.fabric.now c.args.nodes.now c.in_ok-owners.owners.items (graph_of c.args.nodes.now).nodes o) c.in-Some.is c.least_shared.ensures in
    second_in c.args.fabric.now c.args.packed.now c.args.placed.now c.is_well_made.ensures.are_tiles c.requires.made c.requires.placed c.args.nodes.now c.requires.nodes (nets_of c.args._nets.now) c.requires.nets c.args._allowed c.args.run.now c.requires.run c.in_ok-owners.owners.items owned (c.in_ok-owners.ensures.long ∙ c.count.ensures) c.in-Some.shared found

pub returns-clause-fault : goal.returns-clause-fault
returns-clause-fault c =
    let last_trees_are = last_is c.args.fabric.now c.args.packed.now c.args.placed.now c.is_well_made.ensures.are_tiles c.requires.made c.requires.placed c.args.nodes.now c.requires.nodes (nets_of c.args._nets.now) c.requires.nets c.args._allowed c.args.run.now c.requires.run (c.len.result - 1) c.index-last.result.now (omega (arith, c.len.ensures, c.requires.run.some_rounds)) c.index-last.ensures in
    let same = ap trees_of c.deref-2.ensures.value ∙ last_trees_are in
    let owned = owners_last c.args.fabric.now c.args.packed.now c.args.placed.now c.is_well_made.ensures.are_tiles c.requires.made c.requires.placed c.args.nodes.now c.requires.nodes (nets_of c.args._nets.now) c.requires.nets c.args._allowed c.args.run.now c.requires.run c.deref-2.result.now c.in_ok-owners.owners.items same c.in_ok-owners.ensures.owners in
    let found = subst (λ (o : Option Shared). IsLeastShared c.args.fabric.now c.args.nodes.now c.in_ok-owners.owners.items (graph_of c.args.nodes.now).nodes o) c.in-Some.is c.least_shared.ensures in
    is_overused c.args.fabric.now c.args.packed.now c.args.placed.now c.is_well_made.ensures.are_tiles c.requires.made c.requires.placed c.args.nodes.now c.requires.nodes (nets_of c.args._nets.now) c.requires.nets c.args._allowed c.args.run.now c.requires.run c.in_ok-owners.owners.items owned (c.in_ok-owners.ensures.long ∙ c.count.ensures) c.in-Some.shared found c.net_at.result c.net_at-2.result _ c.net_at.ensures c.net_at-2.ensures
    (one_shared c.args.fabric.now c.args.packed.now c.args.placed.now c.is_well_made.ensures.are_tiles c.requires.made c.requires.placed c.args.nodes.now c.requires.nodes (nets_of c.args._nets.now) c.requires.nets c.args._allowed c.args.run.now c.requires.run (c.is_none.ensures ∙ ap not c.if-is_none.false)).1
    (c.in_ok-told.ensures ∙ ap (λ (rs : List Round). map (told_trees (numbering_of c.args.nodes.now) c.deref-3.result.now (wire_groups c.args.sinks.now.items)) (rounds_of rs)) c.deref-4.ensures.value
    ∙ rounds_told c.args.fabric.now c.args.packed.now c.args.placed.now c.is_well_made.ensures.are_tiles c.requires.made c.requires.placed c.args.nodes.now c.requires.nodes (nets_of c.args._nets.now) c.requires.nets c.args._allowed c.args.run.now c.requires.run c.deref-3.result.now (wire_groups c.args.sinks.now.items) (rounds_of c.args.run.now.rounds.items) (c.deref-3.ensures.value ∙ c.in_ok-names.ensures) c.requires.sinks)
