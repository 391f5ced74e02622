-- What a tile does with its wires, wherever it stands in a text.
use Rattle.std.specs.Prelude.{◌≡◌, ◌≤◌, ◌<◌, ℕ, ◌+◌, ◌-◌, ◌++◌, Bool, true, false, List, ◌∷◌, map, nat_lt, slice_get, Option, Some, if◌then◌else◌}
use Rattle.std.specs.Option.{option_map_or, option_and_then}
use Rattle.fab_bits.specs.Bits.{first_bits}
use Rattle.fab_kinds.specs.Pins.{input_names, input_count, bit_count}
use Rattle.fab_kinds.specs.Kinds.{output_of}
use Rattle.fab_gen_tile.specs.fab_syntax.specs.Plain.{PlainModule}
use Rattle.fab_gen_tile.specs.fab_meaning.specs.Points.{Path, Point, point}
use Rattle.fab_gen_tile.specs.fab_meaning.specs.Settled.{Assignment}
use Rattle.fab_gen_tile.specs.fab_model.specs.declared.tiles.WireRow.{WireRow}
use Rattle.fab_gen_tile.specs.fab_model.specs.declared.tiles.Bel.{Bel}
use Rattle.fab_gen_tile.specs.fab_model.specs.Rows.{is_jump, is_named, border_bits, dest_bits}
use Rattle.fab_gen_tile.specs.fab_model.specs.Tiles.{PlainTile, tile_bits, bits_before}
use Rattle.fab_gen_tile.specs.fab_model.specs.Cascade.{passing_bits}
use Rattle.fab_gen_tile.specs.fab_model.specs.Wires.{PlainWire, source_of, dest_of, pin_of, plain_wires, wire_number, pin_count, IsWire, IsMatrixOutput}
use Rattle.fab_gen_tile.specs.fab_model.specs.Drive.{matrix_inputs, select_value, input_at}
use Rattle.fab_gen_tile.specs.fab_meaning.specs.Ports.{config_name}
use Rattle.fab_gen_tile.specs.fab_prim.specs.Ports.{top_name}
use Rattle.fab_gen_tile.specs.fab_prim.specs.Modules.{flip_flop_name}
use Rattle.fab_gen_tile.specs.Names.{config_instance_name, bits_name, latch_name, begin_name, end_name, pad_name}
use Rattle.fab_gen_tile.specs.Borders.{fixed_bit}
use Rattle.fab_tile_drives_laws.specs.Stands.{matrix_path, bel_path, name_of, wire_point, IsSettledOnDeclared}

-- ---- configuration

-- the latches or flip-flops of the tile show these configuration bits
abbrev pub ShowsTileBits : Path → PlainTile → (ℕ → Bool) → Assignment → Type 0
ShowsTileBits path tile bits now = (bit : ℕ) → bit < tile_bits tile → now (point (config_instance_name ∷ path) (latch_name bit) 0) ≡ bits bit

-- the points by which the bits of a tile come from what keeps them to where they are used
pub data IsBitsPoint (path : Path) (p : Point) : Type 0 where
  in_configuration : p.path ≡ config_instance_name ∷ path → IsBitsPoint path p
  in_tile : p.path ≡ path → p.name ≡ bits_name → IsBitsPoint path p
  in_instance : (name : List ℕ) → p.path ≡ name ∷ path → p.name ≡ config_name → IsBitsPoint path p

-- ---- matrix outputs

-- the input that a matrix output copies under these bits, if it has an input
abbrev pub picked : PlainTile → (bits : ℕ → Bool) → PlainWire → Option PlainWire
picked tile bits wire =
    let output = wire_number tile wire in
    option_and_then (slice_get (plain_wires tile)) (input_at (matrix_inputs tile output) (select_value tile bits output))

abbrev pub picked_value : Path → PlainTile → Assignment → Option PlainWire → Bool
picked_value path tile now input = option_map_or (λ wire. now (wire_point path tile wire)) input false

-- the points on which a matrix output rests: its own, those of the configuration bits, its port of the matrix, and the port there of the
-- input that it copies
pub data IsOwnOfOutput (path : Path) (tile : PlainTile) (bits : ℕ → Bool) (wire : PlainWire) : Point → Type 0 where
  itself : IsOwnOfOutput path tile bits wire (wire_point path tile wire)
  configuration : {p : Point} → IsBitsPoint path p → IsOwnOfOutput path tile bits wire p
  output_port : IsOwnOfOutput path tile bits wire (point (matrix_path path) (name_of tile wire) 0)
  input_port : {input : PlainWire} → picked tile bits wire ≡ Some input → IsOwnOfOutput path tile bits wire (point (matrix_path path) (name_of tile input) 0)

abbrev pub ShowsMatrixOutputs : List PlainModule → Path → PlainTile → Type 0
ShowsMatrixOutputs text path tile =
    (bits : ℕ → Bool) (inputs held now : Assignment) (wire : PlainWire) → ShowsTileBits path tile bits now → IsWire tile wire → IsMatrixOutput tile wire →
    IsSettledOnDeclared (IsOwnOfOutput path tile bits wire) text inputs held now →
    now (wire_point path tile wire) ≡ picked_value path tile now (picked tile bits wire)

-- ---- rows

-- a bit of a jump is the source bit of its number, or a constant
abbrev pub jump_value : Path → PlainTile → Assignment → (row bit : ℕ) → WireRow → Bool
jump_value path tile now row bit found =
    if is_named found.source then now (wire_point path tile (source_of row bit)) else fixed_bit found.dest

abbrev pub ShowsJumps : List PlainModule → Path → PlainTile → Type 0
ShowsJumps text path tile =
    (inputs held now : Assignment) (row bit : ℕ) (found : WireRow) → slice_get tile.rows row ≡ Some found → is_jump found.dir ≡ true → bit < dest_bits found →
    IsSettledOnDeclared (λ p. p ≡ wire_point path tile (dest_of row bit)) text inputs held now →
    now (wire_point path tile (dest_of row bit)) ≡ jump_value path tile now row bit found

-- a destination bit of another row is the border bit of its number that comes in
abbrev pub ShowsEnds : List PlainModule → Path → PlainTile → Type 0
ShowsEnds text path tile =
    (inputs held now : Assignment) (row bit : ℕ) (found : WireRow) → slice_get tile.rows row ≡ Some found → is_jump found.dir ≡ false → bit < dest_bits found →
    IsSettledOnDeclared (λ p. p ≡ wire_point path tile (dest_of row bit)) text inputs held now →
    now (wire_point path tile (dest_of row bit)) ≡ now (point path (end_name found bit) 0)

-- a border bit that goes out came in as that which stands as many bits on as there are wires, or begins in the tile
abbrev pub begin_value : Path → PlainTile → Assignment → (row bit : ℕ) → WireRow → Bool
begin_value path tile now row bit found =
    if nat_lt bit (passing_bits found) then now (point path (end_name found (bit + found.count)) 0)
    else now (wire_point path tile (source_of row (bit - passing_bits found)))

abbrev pub ShowsBegins : List PlainModule → Path → PlainTile → Type 0
ShowsBegins text path tile =
    (inputs held now : Assignment) (row bit : ℕ) (found : WireRow) → slice_get tile.rows row ≡ Some found → is_jump found.dir ≡ false →
    is_named found.source ≡ true → bit < border_bits found →
    IsSettledOnDeclared (λ p. p ≡ point path (begin_name found bit) 0) text inputs held now →
    now (point path (begin_name found bit) 0) ≡ begin_value path tile now row bit found

-- ---- output pins

-- the points on which an output pin rests: its own, those of the configuration bits, and all of its BEL
pub data IsOwnOfPin (path : Path) (tile : PlainTile) (bel pin : ℕ) : Point → Type 0 where
  itself : IsOwnOfPin path tile bel pin (wire_point path tile (pin_of bel pin))
  configuration : {p : Point} → IsBitsPoint path p → IsOwnOfPin path tile bel pin p
  in_bel : {p : Point} → p.path ≡ bel_path path bel → IsOwnOfPin path tile bel pin p

-- its kind's function of its input pins, its configuration bits, what its flip-flop holds and, of a pad, what comes from outside
abbrev pub pin_value : Path → PlainTile → (bits : ℕ → Bool) → (held now : Assignment) → (bel pin : ℕ) → Bel → Bool
pin_value path tile bits held now bel pin found =
    output_of found.kind pin
    (map (λ name. now (point path (found.prefix ++ name) 0)) (input_names found.kind))
    (first_bits (bit_count found.kind) (λ bit. bits (bits_before tile.bels bel + bit)))
    (held (point (bel_path path bel) flip_flop_name 0))
    (now (point path (pad_name bel top_name) 0))

abbrev pub ShowsPins : List PlainModule → Path → PlainTile → Type 0
ShowsPins text path tile =
    (bits : ℕ → Bool) (inputs held now : Assignment) (bel pin : ℕ) (found : Bel) → ShowsTileBits path tile bits now → slice_get tile.bels bel ≡ Some found →
    input_count found.kind ≤ pin → pin < pin_count found →
    IsSettledOnDeclared (IsOwnOfPin path tile bel pin) text inputs held now →
    now (wire_point path tile (pin_of bel pin)) ≡ pin_value path tile bits held now bel pin found

-- ---- all of them

pub record TileWorks (text : List PlainModule) (path : Path) (tile : PlainTile) : Type 0 where
  pub matrix_outputs : ShowsMatrixOutputs text path tile
  pub jumps : ShowsJumps text path tile
  pub ends : ShowsEnds text path tile
  pub begins : ShowsBegins text path tile
  pub pins : ShowsPins text path tile
