use Rattle.std.proofs.Common.{ap, Global}
use Rattle.fab_kinds.specs.fab_bits.specs.Keys.{key_names}
use Rattle.fab_model.proofs.Inserts.{tile_inserted}
use Rattle.fab_model.proofs.numbering.places_of.Goals as goal

pub returns : goal.returns
returns c =
    tile_inserted c.args.rows.now c.args.bels.now (key_names c.new-places.result.keys) (key_names c.insert_rows.new.places.keys) (key_names c.insert_bels.new.places.keys)
    c.requires (ap (key_names {A = Global}) c.new-places.ensures.empty) c.in_ok-insert_rows.ensures c.in_ok-insert_bels.ensures
