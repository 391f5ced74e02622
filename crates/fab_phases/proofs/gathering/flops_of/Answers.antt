use Rattle.fab_phases.proofs.Asking.{more_twice}
use Rattle.fab_phases.proofs.gathering.flops_of.Goals as goal

pub loop-point-preserved : goal.loop-point-preserved
loop-point-preserved c =
    let done = c.in_ok-add_flop.ensures in
    record {
      asked = done.asked;
      more = more_twice c.args.demand.now c.loop-point.demand c.add_flop.new.demand c.loop-point.invariant.more done.more;
      flops = done.flops;
      all = done.all;
    }
