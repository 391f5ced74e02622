use Rattle.std.proofs.Common.{◌≡◌, map, take}
use Rattle.std.specs.Str.{bytes_eq}
use Rattle.std.specs.List.{flat_map}
use Rattle.indexmap.specs.IndexSet.{insert_all}
use Rattle.fab_model.specs.Tiles.{bel_wires, wire_name}
use Rattle.fab_kinds.specs.fab_bits.specs.Keys.{key_names}
use Rattle.fab_model.proofs.numbering.insert_bels.Given as goal

abbrev pub invariant-loop-bel : goal.invariant-loop-bel
invariant-loop-bel l = key_names l.places.keys ≡ insert_all bytes_eq (key_names l.fn.places.keys) (map wire_name (flat_map bel_wires (take l.bel-index l.bels)))
