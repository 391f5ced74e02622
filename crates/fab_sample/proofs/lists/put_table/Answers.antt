use Rattle.fab_sample.specs.Lists.{input_lines}
use Rattle.fab_sample.proofs.Steps.{lines_more}
use Rattle.fab_sample.proofs.lists.put_table.Goals as goal

pub loop-pin-preserved : goal.loop-pin-preserved
loop-pin-preserved c =
    lines_more (input_lines c.args.prefix.now c.args.inputs.now) c.loop-pin.pin c.args.out.now.items c.loop-pin.out.items c.put_input.new.out.items
    c.loop-pin.invariant c.in_ok-put_input.ensures
