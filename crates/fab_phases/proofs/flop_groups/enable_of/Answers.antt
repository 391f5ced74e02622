use Rattle.std.proofs.Common.{arith, get_or}
use Rattle.std.proofs.lemmas.Option.{slice_get-get_or, slice_get_within}
use Rattle.fab_phases.proofs.Grouping.{beside_holds, always_holds, held_more}
use Rattle.fab_phases.proofs.Ticking.{no_flop}
use Rattle.fab_phases.proofs.flop_groups.enable_of.Goals as goal

pub returns-then-not-is_held-clause-holds : goal.returns-then-not-is_held-clause-holds
returns-then-not-is_held-clause-holds c place flop at = always_holds c.args.network.now c.args.demand.now flop

pub loop-flop-preserved : goal.loop-flop-preserved
loop-flop-preserved c =
    let flop = get_or c.args.flops.now c.loop-flop.flop-index no_flop in
    let at = slice_get-get_or c.args.flops.now c.loop-flop.flop-index no_flop c.loop-flop-test.true in
    held_more c.args.network.now c.args.demand.now c.args.next c.args.flops.now c.loop-flop.flop-index flop at
    (beside_holds c.args.network.now c.args.demand.now c.args.next flop (c.requires.beside c.loop-flop.flop-index flop at) (c.is_held.ensures c.if-not-is_held.false))
    c.loop-flop.invariant

pub returns-clause-holds : goal.returns-clause-holds
returns-clause-holds c place flop at =
    let less = slice_get_within c.args.flops.now place flop at in c.loop-flop.invariant place flop (omega arith) at
