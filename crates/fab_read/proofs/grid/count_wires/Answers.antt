use Rattle.std.proofs.Common.{◌^◌, sym}
use Rattle.fab_fabric.specs.Fabric.{fabric_of, column_wires}
use Rattle.fab_fabric.proofs.Summed.{no_sum}
use Rattle.fab_read.proofs.Wires.{sum_on}
use Rattle.fab_read.proofs.grid.count_wires.Goals as goal

pub loop-x-init : goal.loop-x-init
loop-x-init c = sym (no_sum (column_wires (fabric_of c.args.types.now c.args.columns c.args.grid.now)))

pub loop-x-preserved : goal.loop-x-preserved
loop-x-preserved c =
    sum_on (column_wires (fabric_of c.args.types.now c.args.columns c.args.grid.now)) c.loop-x.x c.loop-x.wires c.in_ok-more.more (2 ^ 64) c.checked_add.result c.in_ok-wires.wires c.checked_add.ensures
    (c.in_ok-wires.ensures.ok_part) c.loop-x.invariant c.in_ok-more.ensures
