use Rattle.fab_sample.specs.Lists.{wire_lines}
use Rattle.fab_sample.proofs.Steps.{lines_more}
use Rattle.fab_sample.proofs.lists.put_begins.Goals as goal

pub loop-bit-preserved : goal.loop-bit-preserved
loop-bit-preserved c =
    lines_more (wire_lines c.args.side) c.loop-bit.bit c.args.out.now.items c.loop-bit.out.items c.put_wire.new.out.items c.loop-bit.invariant
    c.in_ok-put_wire.ensures
