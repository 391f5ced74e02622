use Rattle.fab_phases.proofs.Asking.{more_twice}
use Rattle.fab_phases.proofs.gathering.latches_of.Goals as goal

pub loop-point-preserved : goal.loop-point-preserved
loop-point-preserved c =
    let done = c.in_ok-add_latch.ensures in
    record {
      asked = done.asked;
      more = more_twice c.args.demand.now c.loop-point.demand c.add_latch.new.demand c.loop-point.invariant.more done.more;
      latches = done.latches;
      all = done.all;
    }
