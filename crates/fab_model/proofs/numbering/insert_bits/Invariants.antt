use Rattle.std.proofs.Common.{◌≡◌}
use Rattle.std.specs.Str.{bytes_eq}
use Rattle.indexmap.specs.IndexSet.{insert_all}
use Rattle.fab_model.specs.Rows.{bit_name}
use Rattle.fab_model.specs.Tiles.{counted}
use Rattle.fab_kinds.specs.fab_bits.specs.Keys.{key_names}
use Rattle.fab_model.proofs.numbering.insert_bits.Given as goal

abbrev pub invariant-loop-bit : goal.invariant-loop-bit
invariant-loop-bit l = key_names l.places.keys ≡ insert_all bytes_eq (key_names l.fn.places.keys) (counted l.bit (bit_name l.side))
