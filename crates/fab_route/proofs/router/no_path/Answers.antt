use Rattle.std.proofs.Common.{◌<◌, ℕ, List, length, ap, subst, arith}
use Rattle.std.proofs.lemmas.List.{length-map}
use Rattle.fab_netlist.specs.Plain.{IsAt}
use Rattle.fab_netlist.proofs.Counts.{at_mapped}
use Rattle.fab_legal.proofs.Lists.{at_read}
use Rattle.fab_pathfinder.specs.Plain.{nets_of}
use Rattle.fab_pathfinder.specs.Rounds.{net_at}
use Rattle.fab_ways_laws.specs.Routing.{sinks_of}
use Rattle.fab_route.specs.Plain.{graph_of, numbering_of}
use Rattle.fab_route.proofs.Grouping.{group_is}
use Rattle.fab_route.proofs.Wanting.{number}
use Rattle.fab_route.proofs.Telling.{goals_many, is_cut_off}
use Rattle.fab_route.proofs.router.no_path.Goals as goal

pub index-requires : goal.index-requires
index-requires c =
    let wires = group_is c.args.fabric.now c.args.packed.now c.args._placed.now c.args.sinks.now.items c.args.cut.net c.index-wires.result.now c.net_at.result c.requires.sinks c.net_at.ensures c.index-wires.ensures in
    let goals = goals_many c.args.fabric.now (graph_of c.args._nodes.now) (numbering_of c.args._nodes.now) c.is_well_made.ensures.are_tiles c.requires.nodes.are_nodes (sinks_of c.args.fabric.now c.args.packed.now c.args._placed.now c.net_at.result)
    (net_at (nets_of c.args._nets.now) c.args.cut.net).goals (c.requires.nets.goals c.args.cut.net c.net_at.result c.net_at.ensures) in
    omega (arith, c.requires.cut.sink_in, goals, ap (λ (ws : List ℕ). length ws) wires, length-map c.index-wires.result.now.items number)

pub returns : goal.returns
returns c =
    let wires = group_is c.args.fabric.now c.args.packed.now c.args._placed.now c.args.sinks.now.items c.args.cut.net c.index-wires.result.now c.net_at.result c.requires.sinks c.net_at.ensures c.index-wires.ensures in
    let goals = goals_many c.args.fabric.now (graph_of c.args._nodes.now) (numbering_of c.args._nodes.now) c.is_well_made.ensures.are_tiles c.requires.nodes.are_nodes (sinks_of c.args.fabric.now c.args.packed.now c.args._placed.now c.net_at.result)
    (net_at (nets_of c.args._nets.now) c.args.cut.net).goals (c.requires.nets.goals c.args.cut.net c.net_at.result c.net_at.ensures) in
    let low : c.args.cut.sink < length c.index-wires.result.now.items = omega (arith, c.requires.cut.sink_in, goals, ap (λ (ws : List ℕ). length ws) wires, length-map c.index-wires.result.now.items number) in
    let at = at_mapped number c.index-wires.result.now.items c.args.cut.sink c.index.result.now (at_read c.index-wires.result.now.items c.args.cut.sink c.index.result.now low c.index.ensures) in
    λ allowed.
    is_cut_off c.args.fabric.now c.args.packed.now c.args._placed.now c.is_well_made.ensures.are_tiles c.requires.made c.requires.placed c.args._nodes.now c.requires.nodes (nets_of c.args._nets.now) c.requires.nets c.net_at.result c.index.result.now
    c.args.cut.net c.args.cut.sink c.net_at.ensures (subst (λ (ws : List ℕ). IsAt ws c.args.cut.sink c.index.result.now.0) wires at) c.requires.cut
