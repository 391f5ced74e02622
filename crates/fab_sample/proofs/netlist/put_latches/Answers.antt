use Rattle.fab_sample.specs.Netlists.{latch_line}
use Rattle.fab_sample.proofs.Steps.{places_more}
use Rattle.fab_sample.proofs.netlist.put_latches.Goals as goal

pub loop-number-preserved : goal.loop-number-preserved
loop-number-preserved c =
    places_more latch_line c.args.latches.now c.loop-number.number _ c.args.out.now.items c.loop-number.out.items c.put_latch.new.out.items
    c.loop-number-test.true c.loop-number.invariant c.in_ok-put_latch.ensures
