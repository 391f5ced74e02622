-- The law of drives: in a fabric's text each wire has the value of what drives it.
use Rattle.std.specs.Prelude.{◌≡◌, ℕ, ◌+◌, ◌++◌, Bool, true, false, List, [], map, slice_get, Some}
use Rattle.std.specs.Option.{option_map_or}
use Rattle.fab_bits.specs.Bits.{first_bits}
use Rattle.fab_kinds.specs.Pins.{input_names, bit_count}
use Rattle.fab_kinds.specs.Kinds.{output_of}
use Rattle.fab_syntax.specs.Plain.{PlainModule}
use Rattle.fab_fabric_text_defs.specs.fab_meaning_Points.{point}
use Rattle.fab_fabric_text_defs.specs.fab_meaning_Settled.{Assignment}
use Rattle.fab_fabric_text_defs.specs.fab_model_tiles_Bel.{Bel}
use Rattle.fab_fabric_text_defs.specs.fab_model_Tiles.{PlainTile, bits_before}
use Rattle.fab_fabric_text_defs.specs.fab_model_Grid.{PlainFabric, tile_at}
use Rattle.fab_fabric_text_defs.specs.fab_model_Wires.{PlainWire, IsWire}
use Rattle.fab_fabric_text_defs.specs.fab_model_Drive.{PlainBits, PlainDrive, zero_bit, one_bit, copy, bel_output, drive}
use Rattle.fab_fabric_text_defs.specs.fab_prim_Ports.{top_name}
use Rattle.fab_fabric_text_defs.specs.fab_prim_Modules.{flip_flop_name}
use Rattle.fab_fabric_text_defs.specs.Names.{pad_port_name}
use Rattle.fab_tile_drives_laws.specs.Stands.{bel_path, wire_point, IsSettledOnDeclared}
use Rattle.fab_drives_laws.specs.Points.{place_path, ShowsBits, IsOwn}

-- ---- what a drive gives

-- an output pin of a BEL has its kind's function of its input pins, its configuration bits, what its flip-flop holds and, of a pad, what
-- comes from outside
abbrev pub bel_value : (bits : ℕ → Bool) → (held now : Assignment) → (x y bel pin : ℕ) → PlainTile → Bel → Bool
bel_value bits held now x y bel pin tile found =
    output_of found.kind pin
    (map (λ name. now (point (place_path x y) (found.prefix ++ name) 0)) (input_names found.kind))
    (first_bits (bit_count found.kind) (λ bit. bits (bits_before tile.bels bel + bit)))
    (held (point (bel_path (place_path x y) bel) flip_flop_name 0))
    (now (point [] (pad_port_name x y bel top_name) 0))

abbrev pub pin_value_at : (bits : ℕ → Bool) → (held now : Assignment) → (x y bel pin : ℕ) → PlainTile → Bool
pin_value_at bits held now x y bel pin tile = option_map_or (bel_value bits held now x y bel pin tile) (slice_get tile.bels bel) false

abbrev pub drive_value : PlainFabric → PlainBits → (held now : Assignment) → PlainDrive → Bool
drive_value fabric bits held now zero_bit = false
drive_value fabric bits held now one_bit = true
drive_value fabric bits held now (copy x y wire) = option_map_or (λ tile. now (wire_point (place_path x y) tile wire)) (tile_at fabric x y) false
drive_value fabric bits held now (bel_output x y bel pin) = option_map_or (pin_value_at (bits x y) held now x y bel pin) (tile_at fabric x y) false

-- ---- the law

-- In any assignment in which the configurations show these bits, and which is settled on the own points of a wire, the wire has the
-- value of what drives it under these bits. No other point need be settled.
abbrev pub ShowsDrives : PlainFabric → List PlainModule → Type 0
ShowsDrives fabric text =
    (bits : PlainBits) (inputs held now : Assignment) → ShowsBits fabric bits now →
    (x y : ℕ) (tile : PlainTile) (wire : PlainWire) → tile_at fabric x y ≡ Some tile → IsWire tile wire →
    IsSettledOnDeclared (IsOwn fabric bits x y tile wire) text inputs held now →
    now (wire_point (place_path x y) tile wire) ≡ drive_value fabric bits held now (drive fabric bits x y wire)
