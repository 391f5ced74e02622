use Rattle.fab_sample.specs.Netlists.{row_if_on}
use Rattle.fab_sample.proofs.Steps.{lines_more}
use Rattle.fab_sample.proofs.netlist.put_on_rows.Goals as goal

pub loop-spelled-preserved : goal.loop-spelled-preserved
loop-spelled-preserved c =
    lines_more (row_if_on c.args.table) c.loop-spelled.spelled c.args.out.now.items c.loop-spelled.out.items c.put_row_if_on.new.out.items
    c.loop-spelled.invariant c.in_ok-put_row_if_on.ensures
