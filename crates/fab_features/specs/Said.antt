-- What the name of a feature says on a fabric. It has three parts with dots between: a place, and behind it the letter of a BEL and a field
-- of its configuration bits, or an input and an output of the switch matrix.
use Rattle.std.specs.Prelude.{ℕ, List, length, codes, bytes_eq, nat_eq, position, slice_get, Option, Some, None, if◌then◌else◌}
use Rattle.std.specs.List.{list_any}
use Rattle.fab_kinds.specs.declared.kind.Kind.{Kind}
use Rattle.fab_kinds.specs.declared.kind.Kind.TheVariants as kinds
use Rattle.fab_model.specs.Tiles.{PlainTile, matrix_names}
use Rattle.fab_model.specs.Grid.{PlainFabric, tile_at}
use Rattle.fab_model.specs.Drive.{matrix_inputs}
use Rattle.fab_fasm.specs.Parts.{parted}
use Rattle.fab_texts.specs.Places.{◌>>=◌, place_at, letter_of}
use Rattle.fab_features.specs.declared.said.BelField.{BelField}
use Rattle.fab_features.specs.declared.said.Choice.{Choice}
use Rattle.fab_features.specs.declared.said.Said.{Said}
use Rattle.fab_features.specs.declared.said.Said.TheVariants as said

abbrev pub bel_field : (x y bel first width : ℕ) → BelField
bel_field x y bel first width = record { x = x; y = y; bel = bel; first = first; width = width }

abbrev pub choice : (x y output input : ℕ) → Choice
choice x y output input = record { x = x; y = y; output = output; input = input }

-- ---- fields of BELs

-- the first bit of a field, and how many it has
abbrev pub TwoNumbers : Type 0
TwoNumbers = ℕ × ℕ

abbrev pub lut_field : (word : List ℕ) → Option TwoNumbers
lut_field word =
    if bytes_eq word (codes "INIT") then Some (0, 16)
    else if bytes_eq word (codes "FF") then Some (16, 1)
    else if bytes_eq word (codes "IOmux") then Some (17, 1)
    else if bytes_eq word (codes "SET_NORESET") then Some (18, 1)
    else None

abbrev pub mux_field : (word : List ℕ) → Option TwoNumbers
mux_field word =
    if bytes_eq word (codes "c0") then Some (0, 1)
    else if bytes_eq word (codes "c1") then Some (1, 1)
    else None

abbrev pub field_of : Kind → (word : List ℕ) → Option TwoNumbers
field_of kinds.Lut4c word = lut_field word
field_of kinds.Io word = None
field_of kinds.Mux8 word = mux_field word

-- a letter, A for the first BEL of the tile, and a field of that BEL
abbrev pub field_in : PlainTile → (x y : ℕ) → (letter word : List ℕ) → Option Said
field_in tile x y letter word = do
  bel ← letter_of letter
  found ← slice_get tile.bels bel
  field ← field_of found.kind word
  Some (said.OfBel (bel_field x y bel field.0 field.1))

-- ---- pairs of the switch matrix

abbrev pub number_in : PlainTile → (name : List ℕ) → Option ℕ
number_in tile name = position (bytes_eq name) (matrix_names tile)

abbrev pub pair_of : PlainTile → (x y input output : ℕ) → Option Said
pair_of tile x y input output = if list_any (λ other. nat_eq other input) (matrix_inputs tile output) then Some (said.OfPair (choice x y output input)) else None

-- the matrix names of an input and of an output that has this input
abbrev pub pair_in : PlainTile → (x y : ℕ) → (input output : List ℕ) → Option Said
pair_in tile x y input output = do
  from ← number_in tile input
  to ← number_in tile output
  pair_of tile x y from to

-- ---- names

abbrev pub first_of : Option Said → Option Said → Option Said
first_of (Some found) other = Some found
first_of None other = other

-- what two words say of a tile, where a BEL is looked for first
abbrev pub said_in : PlainTile → (x y : ℕ) → (first second : List ℕ) → Option Said
said_in tile x y first second = first_of (field_in tile x y first second) (pair_in tile x y first second)

-- the parts of a name: before its first dot, between this and the second, and behind that
unfoldable pub said_of : PlainFabric → (name : List ℕ) → Option Said
said_of fabric name = do
  front ← parted 46 name
  words ← parted 46 front.1
  place ← place_at front.0
  tile ← tile_at fabric place.x place.y
  if nat_eq (length place.rest) 0 then said_in tile place.x place.y words.0 words.1 else None
