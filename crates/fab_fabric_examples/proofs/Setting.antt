-- Bits that are set.
use Rattle.std.proofs.Common.{ℕ, ◌<◌, Bool, List, [], length, ap, ◌∙◌, arith, inl, inr}
use Rattle.std.proofs.lemmas.Bool.{cases_lt}
use Rattle.std.proofs.lemmas.List.{get_or_past}
use Rattle.fab_model.specs.Grid.{PlainFabric}
use Rattle.fab_fabric.specs.Bits.{column_bits, place_bits, AreBitsOf, HasBit, SetsBit}

-- a place that has bits is there
pub bit_there : (bits : List (List (List Bool))) (x y number : ℕ) → number < length (place_bits bits x y) → HasBit bits x y number
bit_there bits x y number few =
    let row : y < length (column_bits bits x) = elim (cases_lt y (length (column_bits bits x))) [
      | inl low ↦ low
      | inr past ↦ absurd (omega (arith, few, ap length (get_or_past (column_bits bits x) y [] past)))
    ] in
    let column : x < length bits = elim (cases_lt x (length bits)) [
      | inl low ↦ low
      | inr past ↦ absurd (omega (arith, row, ap length (get_or_past bits x [] past)))
    ] in
    record { column = column; row = row; number = few }

-- bits of a fabric stay bits of it
pub still_bits : (fabric : PlainFabric) (old new : List (List (List Bool))) (x y bit : ℕ) (value : Bool) → AreBitsOf fabric old → SetsBit old new x y bit value → AreBitsOf fabric new
still_bits fabric old new x y bit value are sets = record {
  columns = sets.same_columns ∙ are.columns;
  rows = λ x2 few. sets.same_rows x2 ∙ are.rows x2 few;
  tiles = λ x2 y2 few low. sets.same_tiles x2 y2 ∙ are.tiles x2 y2 few low;
}
