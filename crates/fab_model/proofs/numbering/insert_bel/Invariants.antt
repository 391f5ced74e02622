use Rattle.std.proofs.Common.{◌≡◌, map}
use Rattle.std.specs.Str.{bytes_eq}
use Rattle.indexmap.specs.IndexSet.{insert_all}
use Rattle.fab_model.specs.Tiles.{counted, bel_pin, wire_name}
use Rattle.fab_kinds.specs.fab_bits.specs.Keys.{key_names}
use Rattle.fab_model.proofs.numbering.insert_bel.Given as goal

abbrev pub invariant-loop-pin : goal.invariant-loop-pin
invariant-loop-pin l = key_names l.places.keys ≡ insert_all bytes_eq (key_names l.fn.places.keys) (map wire_name (counted l.pin (bel_pin l.bel)))
