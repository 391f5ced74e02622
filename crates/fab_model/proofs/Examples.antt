-- A column of six tiles with a row of wires to the north, whose joins are known, and a tile whose drives are.
use Rattle.std.proofs.Common.{◌≡◌, ℕ, Bool, true, false, List, [], ◌∷◌, codes, Option, Some, None, refl, arith}
use Rattle.std.proofs.lemmas.List.Elements.{All-cons, All-nil}
use Rattle.fab_select.specs.declared.pair.Pair.{Pair}
use Rattle.fab_kinds.specs.fab_bits.specs.Widths.{select_width}
use Rattle.fab_model.specs.declared.mode.Mode.TheVariants as modes
use Rattle.fab_model.specs.declared.tiles.Dir.TheVariants as dirs
use Rattle.fab_model.specs.declared.tiles.WireRow.{WireRow}
use Rattle.fab_model.specs.Tiles.{PlainTile, counted}
use Rattle.fab_model.specs.Rows.{IsWireRow}
use Rattle.fab_model.specs.Grid.{PlainFabric, AllRows, AreRows}
use Rattle.fab_model.specs.Joins.{RowPlace}
use Rattle.fab_model.specs.Cascade.{join_to, join_from}
use Rattle.fab_model.specs.Wires.{source_of, dest_of}
use Rattle.fab_model.specs.Drive.{zero_bit, one_bit, copy, drive}

abbrev at : (y : ℕ) → RowPlace
at y = record { x = 0; y = y; row = 0 }

-- ---- a column

abbrev north_row : Option (List ℕ) → WireRow
north_row source = record { dir = dirs.North; source = source; span = 4; dest = Some (codes "N4END"); count = 4 }

abbrev tile_with : WireRow → PlainTile
tile_with row = record { name = codes "tile"; rows = row ∷ []; bels = []; pairs = []; table = [] }

-- in the tile at the top the wires end
abbrev column : PlainFabric
column = record {
  types = tile_with (north_row None) ∷ tile_with (north_row (Some (codes "N4BEG"))) ∷ [];
  columns = 1;
  rows = 6;
  grid = Some 0 ∷ Some 1 ∷ Some 1 ∷ Some 1 ∷ Some 1 ∷ Some 1 ∷ [];
  mode = modes.Frames;
}

goes_four_tiles : join_to column (at 5) 1 ≡ Some (at 1, 1)
goes_four_tiles = refl

comes_four_tiles : join_from column (at 1) 1 ≡ Some (at 5, 1)
comes_four_tiles = refl

goes_to_the_top : join_to column (at 2) 1 ≡ Some (at 0, 9)
goes_to_the_top = refl

comes_to_the_top : join_from column (at 0) 9 ≡ Some (at 2, 1)
comes_to_the_top = refl

nothing_comes_to_the_lowest : (bit : ℕ) → join_from column (at 5) bit ≡ None
nothing_comes_to_the_lowest bit = refl

north_is_row : (source : Option (List ℕ)) → IsWireRow (north_row source)
north_is_row None = record { has_wires = omega arith; span_is = (omega arith, omega arith); has_ends = refl }
north_is_row (Some name) = record { has_wires = omega arith; span_is = (omega arith, omega arith); has_ends = refl }

one_row : (source : Option (List ℕ)) → AllRows (tile_with (north_row source))
one_row source = All-cons IsWireRow (north_row source) [] (north_is_row source) (All-nil IsWireRow)

are_rows : AreRows column
are_rows = All-cons AllRows (tile_with (north_row None)) (tile_with (north_row (Some (codes "N4BEG"))) ∷ []) (one_row None)
    (All-cons AllRows (tile_with (north_row (Some (codes "N4BEG")))) [] (one_row (Some (codes "N4BEG"))) (All-nil AllRows))

-- ---- a tile

abbrev constant_row : List ℕ → WireRow
constant_row name = record { dir = dirs.Jump; source = None; span = 0; dest = Some name; count = 1 }

abbrev jump_row : WireRow
jump_row = record { dir = dirs.Jump; source = Some (codes "J_BEG"); span = 0; dest = Some (codes "J_END"); count = 2 }

-- the first bit of the jump takes VCC0 or GND0 and the second the first
abbrev matrix : List Pair
matrix =
    record { output = 2; input = 0 } ∷ record { output = 2; input = 1 } ∷ record { output = 3; input = 4 } ∷ []

abbrev one_tile : PlainFabric
one_tile = record {
  types = record { name = codes "tile"; rows = constant_row (codes "VCC") ∷ constant_row (codes "GND") ∷ jump_row ∷ []; bels = []; pairs = matrix; table = [] } ∷ [];
  columns = 1;
  rows = 1;
  grid = Some 0 ∷ [];
  mode = modes.Frames;
}

abbrev all_bits : Bool → ℕ → ℕ → ℕ → Bool
all_bits bit x y number = bit

takes_the_first : drive one_tile (all_bits false) 0 0 (source_of 2 0) ≡ copy 0 0 (dest_of 0 0)
unfolding select_width counted
takes_the_first = refl

takes_the_second : drive one_tile (all_bits true) 0 0 (source_of 2 0) ≡ copy 0 0 (dest_of 1 0)
unfolding select_width counted
takes_the_second = refl

takes_its_only_input : (bit : Bool) → drive one_tile (all_bits bit) 0 0 (source_of 2 1) ≡ copy 0 0 (dest_of 2 0)
unfolding select_width counted
takes_its_only_input bit = refl

jumps : (bit : Bool) → drive one_tile (all_bits bit) 0 0 (dest_of 2 1) ≡ copy 0 0 (source_of 2 1)
jumps bit = refl

is_high : (bit : Bool) → drive one_tile (all_bits bit) 0 0 (dest_of 0 0) ≡ one_bit
is_high bit = refl

is_low : (bit : Bool) → drive one_tile (all_bits bit) 0 0 (dest_of 1 0) ≡ zero_bit
is_low bit = refl
