use Rattle.std.proofs.Common.{sym}
use Rattle.fab_model.specs.Tiles.{row_wires}
use Rattle.fab_route.proofs.Marks.{part_marked, row_marked}
use Rattle.fab_route.proofs.driven.mark_rows.Goals as goal

pub loop-row-preserved : goal.loop-row-preserved
loop-row-preserved c =
    part_marked row_wires c.args.rows.now c.loop-row.row-index c.row-item.result c.args.marks.now.items c.loop-row.marks.items c.mark.new.marks.items c.mark-in-loop-row.new.marks.items c.source_bits.result c.dest_bits.result
    c.loop-row-test.true (sym c.row-item.is) (row_marked c.row-item.result c.source_bits.result c.dest_bits.result c.source_bits.ensures c.dest_bits.ensures) c.loop-row.invariant c.in_ok-mark.ensures c.in_ok-mark-2.ensures
