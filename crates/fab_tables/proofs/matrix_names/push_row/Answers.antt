use Rattle.std.proofs.lemmas.Result.{IfOk-weaker}
use Rattle.fab_tables.proofs.Sides.{row_pushed}
use Rattle.fab_tables.proofs.matrix_names.push_row.Goals as goal

pub returns : goal.returns
returns c =
    IfOk-weaker c.push_sides-2.result _ _
    (λ _ so. row_pushed c.args.row.now c.args.sides.now.items c.push_sides.new.sides.items c.push_sides-2.new.sides.items c.source_bits.result c.dest_bits.result c.source_bits.ensures c.dest_bits.ensures c.in_ok-push_sides.ensures so)
    c.push_sides-2.ensures
