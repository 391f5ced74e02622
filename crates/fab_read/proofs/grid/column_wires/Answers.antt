use Rattle.std.proofs.Common.{◌^◌, sym}
use Rattle.fab_fabric.specs.Fabric.{fabric_of, wires_at}
use Rattle.fab_fabric.proofs.Summed.{no_sum}
use Rattle.fab_read.proofs.Wires.{sum_on}
use Rattle.fab_read.proofs.grid.column_wires.Goals as goal

pub loop-y-init : goal.loop-y-init
loop-y-init c = sym (no_sum (wires_at (fabric_of c.args.types.now c.args.columns c.args.grid.now) c.args.x))

pub loop-y-preserved : goal.loop-y-preserved
loop-y-preserved c =
    sum_on (wires_at (fabric_of c.args.types.now c.args.columns c.args.grid.now) c.args.x) c.loop-y.y c.loop-y.wires c.wires_at-more.result (2 ^ 64) c.checked_add.result c.in_ok-wires.wires c.checked_add.ensures
    (c.in_ok-wires.ensures.ok_part) c.loop-y.invariant c.wires_at-more.ensures
