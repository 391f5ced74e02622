use Rattle.fab_sample.specs.Netlists.{cover_lines}
use Rattle.fab_sample.proofs.Steps.{items_more}
use Rattle.fab_sample.proofs.netlist.put_covers.Goals as goal

pub loop-number-preserved : goal.loop-number-preserved
loop-number-preserved c =
    items_more cover_lines c.args.covers.now c.loop-number.number _ c.args.out.now.items c.loop-number.out.items c.put_cover.new.out.items
    c.loop-number-test.true c.loop-number.invariant c.in_ok-put_cover.ensures
