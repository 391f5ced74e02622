use Rattle.std.proofs.Common.{length}
use Rattle.fab_pathfinder.specs.Plain.{nets_of}
use Rattle.fab_route.specs.Plain.{graph_of}
use Rattle.fab_route.proofs.Telling.{one_shared, is_left}
use Rattle.fab_route.proofs.Trying.{run_at}
use Rattle.fab_route.proofs.router.tell_found.Goals as goal

pub returns-then-is_given_up-clause-left : goal.returns-then-is_given_up-clause-left
returns-then-is_given_up-clause-left c =
    is_left c.args.fabric.now c.args.packed.now c.args.placed.now c.is_well_made.ensures.are_tiles c.requires.made c.requires.placed c.args.nodes.now c.requires.nodes (nets_of c.args._nets.now) c.requires.nets (length c.args.run.now.rounds.items) c.args.run.now c.requires.run c.args.allowed c.requires.few
    (one_shared c.args.fabric.now c.args.packed.now c.args.placed.now c.is_well_made.ensures.are_tiles c.requires.made c.requires.placed c.args.nodes.now c.requires.nodes (nets_of c.args._nets.now) c.requires.nets (length c.args.run.now.rounds.items) c.args.run.now c.requires.run (c.is_given_up.ensures.left c.if-is_given_up.true)).0

pub tell-requires-clause-run : goal.tell-requires-clause-run
tell-requires-clause-run c =
    run_at (graph_of c.args.nodes.now) (nets_of c.args._nets.now) c.args.allowed c.args.patient c.args.run.now c.requires.run c.requires.few c.requires.all (c.is_given_up.ensures.unshared c.if-is_given_up.false)
