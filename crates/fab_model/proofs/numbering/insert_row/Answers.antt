use Rattle.fab_kinds.specs.fab_bits.specs.Keys.{key_names}
use Rattle.fab_model.proofs.Inserts.{row_inserted}
use Rattle.fab_model.proofs.numbering.insert_row.Goals as goal

pub returns : goal.returns
returns c =
    row_inserted c.args.row.now (key_names c.args.places.now.keys) (key_names c.insert_bits.new.places.keys) (key_names c.insert_bits-2.new.places.keys)
    c.source_bits.result c.dest_bits.result c.source_bits.ensures c.dest_bits.ensures c.in_ok-insert_bits.ensures c.in_ok-insert_bits-2.ensures
