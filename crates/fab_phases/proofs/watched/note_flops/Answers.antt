use Rattle.std.proofs.Common.{arith, get_or}
use Rattle.std.proofs.lemmas.Option.{slice_get-get_or, slice_get_within}
use Rattle.fab_changes.specs.Changes.{WaitsAt}
use Rattle.fab_phases.specs.declared.loading.LoadedFlop.{LoadedFlop}
use Rattle.fab_phases.proofs.Grouping.{each_below_more}
use Rattle.fab_phases.proofs.Ticking.{no_flop}
use Rattle.fab_phases.proofs.watched.note_flops.Goals as goal

pub loop-flop-preserved : goal.loop-flop-preserved
loop-flop-preserved c =
    let flop = get_or c.args.flops.now c.loop-flop.flop-index no_flop in
    record {
      changes = λ network asked are. c.note_given.ensures.changes network asked (c.loop-flop.invariant.changes network asked are);
      waits = each_below_more c.args.flops.now c.loop-flop.flop-index flop (λ (other : LoadedFlop). WaitsAt c.note_given.new.self other.point)
          (slice_get-get_or c.args.flops.now c.loop-flop.flop-index no_flop c.loop-flop-test.true) c.note_given.ensures.waits
          (λ place other less at. c.note_given.ensures.more other.point (c.loop-flop.invariant.waits place other less at));
      more = λ point waits. c.note_given.ensures.more point (c.loop-flop.invariant.more point waits);
    }

pub returns-clause-waits : goal.returns-clause-waits
returns-clause-waits c place flop at =
    let less = slice_get_within c.args.flops.now place flop at in c.loop-flop.invariant.waits place flop (omega arith) at
