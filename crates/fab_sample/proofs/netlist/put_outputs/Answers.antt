use Rattle.fab_sample.specs.Netlists.{shown_lines}
use Rattle.fab_sample.proofs.Steps.{lines_more}
use Rattle.fab_sample.proofs.netlist.put_outputs.Goals as goal

pub loop-number-preserved : goal.loop-number-preserved
loop-number-preserved c =
    lines_more (shown_lines c.args.first) c.loop-number.number c.args.out.now.items c.loop-number.out.items c.put_output.new.out.items
    c.loop-number.invariant c.in_ok-put_output.ensures
