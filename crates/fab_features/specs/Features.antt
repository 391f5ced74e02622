-- The configuration bits that features set.
use Rattle.std.specs.Prelude.{◌≡◌, ◌≢◌, ◌≤◌, ◌<◌, ◌↔◌, ℕ, ◌+◌, ◌-◌, true, List, Contains, nat_eq, slice_get, Some}
use Rattle.std.specs.List.{position_or_len}
use Rattle.fab_bits.specs.Bits.{digits}
use Rattle.fab_kinds.specs.Pins.{bit_count}
use Rattle.fab_model.specs.declared.tiles.Bel.{Bel}
use Rattle.fab_model.specs.Tiles.{PlainTile, output_field, bits_before}
use Rattle.fab_model.specs.Grid.{PlainFabric, tile_at}
use Rattle.fab_model.specs.Drive.{PlainBits, select_field, matrix_inputs}
use Rattle.fab_netlist.specs.WellMade.{table_bit}
use Rattle.fab_fasm.specs.declared.feature.Feature.{Feature}
use Rattle.fab_features.specs.Said.{said_of, bel_field, choice}
use Rattle.fab_features.specs.declared.said.Said.TheVariants as said

-- the first place of an input among those of an output
abbrev pub place_among : (inputs : List ℕ) → (input : ℕ) → ℕ
place_among inputs input = position_or_len (λ other. nat_eq other input) inputs

-- The feature is of a field of this BEL, and its value has a 1 for this bit of the BEL. The value's least bit is that of the address's
-- lower end.
pub record SetsBelBit (fabric : PlainFabric) (feature : Feature) (x y bel bit : ℕ) : Type 0 where
  pub first : ℕ
  pub width : ℕ
  pub said_is : said_of fabric feature.name ≡ Some (said.OfBel (bel_field x y bel first width))
  pub above : first + feature.low ≤ bit
  pub below : bit ≤ first + feature.high
  pub one : table_bit feature.value (bit - (first + feature.low)) ≡ true

-- The feature is of this pair of the switch matrix, and not 0.
pub record Chooses (fabric : PlainFabric) (feature : Feature) (x y output input : ℕ) : Type 0 where
  pub said_is : said_of fabric feature.name ≡ Some (said.OfPair (choice x y output input))
  pub some : feature.value ≢ 0

-- Bits of BELs are 1 where a feature sets them. The select bits of an output are the place of the input that is chosen for it, from 0, or 0
-- where none is. No line number is looked at.
pub record IsBitMapOf (fabric : PlainFabric) (features : List Feature) (bits : PlainBits) : Type 0 where
  pub bels : (x y bel bit : ℕ) (tile : PlainTile) (found : Bel) → tile_at fabric x y ≡ Some tile → slice_get tile.bels bel ≡ Some found → bit < bit_count found.kind →
      (bits x y (bits_before tile.bels bel + bit) ≡ true) ↔ ((feature : Feature) × Contains features feature × SetsBelBit fabric feature x y bel bit)
  pub chosen : (x y output input : ℕ) (tile : PlainTile) (feature : Feature) → tile_at fabric x y ≡ Some tile → Contains features feature →
      Chooses fabric feature x y output input → select_field tile (bits x y) output ≡ digits (output_field tile output).1 (place_among (matrix_inputs tile output) input)
  pub unchosen : (x y output : ℕ) (tile : PlainTile) → tile_at fabric x y ≡ Some tile →
      ((feature : Feature) (input : ℕ) → Contains features feature → Chooses fabric feature x y output input → ⊥) →
      select_field tile (bits x y) output ≡ digits (output_field tile output).1 0
