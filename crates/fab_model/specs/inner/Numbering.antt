-- What a tile keeps beside its parts, so that calls take no search: its names by number, and the fields of its outputs.
use Rattle.std.specs.Prelude.{◌≡◌, ◌<◌, ◌+◌, ℕ, List, [], ◌∷◌, length, nat_eq, sum_by, take, slice_index_or}
use Rattle.fab_kinds.specs.fab_bits.specs.Widths.{select_width}
use Rattle.fab_select.specs.Selection.{in_order, field_width}
use Rattle.fab_kinds.specs.Pins.{bit_count}
use Rattle.fab_model.specs.declared.tiles.Bel.{Bel}
use Rattle.fab_model.specs.Tiles.{PlainTile, IsTile, matrix_names, numbered_pairs, bel_bits}

-- how many bits select an input of an output, where this many inputs are counted
abbrev pub width_in : (counts : List ℕ) → (output : ℕ) → ℕ
width_in counts output = select_width (slice_index_or counts output 0)

-- The outputs of pairs in order, and at the place of each the first bit of its field and the field's width; the first bit of
-- all is given, and bits is the bit behind the last.
pub record HasFields (first : ℕ) (pairs : List (ℕ × ℕ)) (order : List ℕ) (fields : List (ℕ × ℕ)) (bits : ℕ) : Type 0 where
  pub in_turn : order ≡ in_order nat_eq pairs
  pub as_many : length fields ≡ length order
  pub each : (place : ℕ) → place < length order →
      slice_index_or fields place (0, 0)
      ≡ (first + sum_by (field_width nat_eq pairs) (take place order), field_width nat_eq pairs (slice_index_or order place 0))
  pub behind : bits ≡ first + sum_by (field_width nat_eq pairs) order

-- the fields of BELs, one behind the other from a bit on
abbrev pub laid_bels : (low : ℕ) → List Bel → List (ℕ × ℕ)
laid_bels low [] = []
laid_bels low (bel ∷ bels) = (low, bit_count bel.kind) ∷ laid_bels (low + bit_count bel.kind) bels

-- the keys of the index and the fields are those of the tile
pub record HasTables (tile : PlainTile) (keys : List (List ℕ)) (bel_fields : List (ℕ × ℕ)) (order : List ℕ) (fields : List (ℕ × ℕ)) (bits : ℕ) : Type 0 where
  pub is_tile : IsTile tile
  pub by_number : keys ≡ matrix_names tile
  pub bels_laid_out : bel_fields ≡ laid_bels 0 tile.bels
  pub laid_out : HasFields (bel_bits tile) (numbered_pairs tile) order fields bits
