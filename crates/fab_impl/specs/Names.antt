-- How sites, wires and cells of an implementation are written.
use Rattle.std.specs.Prelude.{ℕ, zero, suc, ◌&&◌, List, [], ◌∷◌, ◌++◌, map, decimal, nat_le, position, slice_index_or, is_some, if◌then◌else◌, Option, Some, None}
use Rattle.std.specs.Option.{option_map, option_map_or, option_and_then}
use Rattle.std.specs.Str.{bytes_eq}
use Rattle.fab_lines.specs.Numbers.{is_number, number_of}
use Rattle.fab_model.specs.Tiles.{matrix_names}
use Rattle.fab_model.specs.Grid.{PlainFabric, tile_at}
use Rattle.fab_fabric.specs.Names.{full_name}
use Rattle.fab_fabric.specs.Wires.{wire_index, numbered_wire}
use Rattle.fab_fabric.specs.declared.wire.Site.{Site}
use Rattle.fab_fabric.specs.declared.wire.Wire.{Wire}
use Rattle.fab_implementation.specs.OnFabric.{kind_at}
use Rattle.fab_texts.specs.Rows.{Word}
use Rattle.fab_texts.specs.Places.{place_at, site_of, after_byte, ◌>>=◌}

-- ---- wires

-- the wire of a matrix name in the tile at a place
abbrev pub named_wire : PlainFabric → (x y : ℕ) → (name : Word) → Option Wire
named_wire fabric x y name = option_map (λ number. numbered_wire (wire_index fabric x y number)) (option_and_then (λ tile. position (bytes_eq name) (matrix_names tile)) (tile_at fabric x y))

-- the wire of a fabric that a word writes, as X1Y2/N1BEG0: a place, `/` and the matrix name
unfoldable pub wire_of : PlainFabric → Word → Option Wire
wire_of fabric word = do
  place ← place_at word
  name ← after_byte 47 place.rest
  named_wire fabric place.x place.y name

-- f 0, f 1 and so on, n lists in all, one behind the other
unfoldable pub list_to : {X : Type 0} → (n : ℕ) → (ℕ → List X) → List X
list_to zero f = []
list_to (suc n) f = list_to n f ++ f n

-- the names of the wires of a place
abbrev pub place_wires : PlainFabric → (x y : ℕ) → List Word
place_wires fabric x y = option_map_or (λ tile. map (full_name x y) (matrix_names tile)) (tile_at fabric x y) []

-- the names of all wires of a fabric in the order of their numbers: column by column, in a column from the top
abbrev pub wire_names : PlainFabric → List Word
wire_names fabric = list_to fabric.columns (λ x. list_to fabric.rows (place_wires fabric x))

abbrev pub wire_text : PlainFabric → Wire → Word
wire_text fabric wire = slice_index_or (wire_names fabric) wire.0 []

-- ---- sites

abbrev pub on_fabric : PlainFabric → Site → Option Site
on_fabric fabric site = if is_some (kind_at fabric site) then Some site else None

-- the site of a fabric that a word writes
abbrev pub site_in : PlainFabric → Word → Option Site
site_in fabric word = option_and_then (on_fabric fabric) (site_of word)

-- ---- cells

abbrev pub cell_text : (cell : ℕ) → Word
cell_text cell = 99 ∷ decimal cell

-- the greatest number of a cell
abbrev pub most_cell : ℕ
most_cell = 4294967295

abbrev pub cell_number : Word → Option ℕ
cell_number digits = if is_number digits && nat_le (number_of digits) most_cell then Some (number_of digits) else None

-- the cell that a word writes: `c` and its number, without a leading zero and at most `most_cell`
abbrev pub cell_of : Word → Option ℕ
cell_of word = option_and_then cell_number (after_byte 99 word)
