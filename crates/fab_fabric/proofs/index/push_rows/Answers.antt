use Rattle.std.proofs.Common.{map}
use Rattle.fab_fabric.specs.inner.Index.{plain_wire}
use Rattle.fab_fabric.proofs.Listed.{row_read}
use Rattle.fab_fabric.proofs.index.push_rows.Goals as goal

pub loop-number-preserved : goal.loop-number-preserved
loop-number-preserved c =
    row_read (map plain_wire c.args.wires.now.items) (map plain_wire c.loop-number.wires.items) (map plain_wire c.push_row.new.wires.items) c.args.rows.now
    c.loop-number.number c.index-rows-number.result c.loop-number-test.true c.index-rows-number.is c.loop-number.invariant c.in_ok-push_row.ensures
