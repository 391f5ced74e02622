-- The select bits of a bit map are the place of an input, or 0.
use Rattle.std.proofs.Common.{◌≡◌, ℕ, zero, suc, ◌<◌, true, List, length, Contains, Some, nat_eq, refl, ap, ◌∙◌, subst, inl, inr, arith}
use Rattle.std.specs.List.{list_any}
use Rattle.std.proofs.Math.Nat.{zero-div}
use Rattle.fab_bits.specs.Bits.{number, digits}
use Rattle.fab_model.specs.Tiles.{PlainTile, output_field}
use Rattle.fab_model.specs.Grid.{PlainFabric, tile_at}
use Rattle.fab_model.specs.Drive.{PlainBits, matrix_inputs, select_value}
use Rattle.fab_model.proofs.Selects.{spelled_is_selected}
use Rattle.fab_legal.proofs.PortNumbers.{place_in}
use Rattle.fab_fasm.specs.declared.feature.Feature.{Feature}
use Rattle.fab_features.specs.Said.{choice}
use Rattle.fab_features.specs.Features.{IsBitMapOf, Chooses, place_among}
use Rattle.fab_features.proofs.Saids.{has_choice}
use Rattle.fab_features.proofs.Setting.{one_tile}
use Rattle.fab_flow_laws.specs.BitsLaws.{BitMapsSelectInputs}
use Rattle.fab_flow_laws.proofs.Decided.{NoneChooses, decided}

-- the digits of 0 stand for 0
number_of_none : (width : ℕ) → number (digits width 0) ≡ 0
number_of_none zero = refl
number_of_none (suc width) = omega (arith, ap (λ n. number (digits width n)) (zero-div 2), number_of_none width)

-- an input that is chosen is one of the output
pub chosen_listed : (fabric : PlainFabric) (feature : Feature) (x y output input : ℕ) (tile : PlainTile) → tile_at fabric x y ≡ Some tile →
    Chooses fabric feature x y output input →
    list_any (λ other. nat_eq other input) (matrix_inputs tile output) ≡ true
chosen_listed fabric feature x y output input tile tile_is chooses =
    let has = has_choice fabric feature.name (choice x y output input) chooses.said_is in
    subst (λ (t : PlainTile). list_any (λ other. nat_eq other input) (matrix_inputs t output) ≡ true) (one_tile fabric x y has.tile tile has.tile_is tile_is) has.paired

module _ (fabric : PlainFabric) (features : List Feature) (bits : PlainBits) (is : IsBitMapOf fabric features bits) (x y output : ℕ) (tile : PlainTile)
    (tile_is : tile_at fabric x y ≡ Some tile) where
  -- the value is the place of the input that is chosen
  pub value_chosen : (feature : Feature) (input : ℕ) → Contains features feature → Chooses fabric feature x y output input →
      (select_value tile (bits x y) output ≡ place_among (matrix_inputs tile output) input) × (place_among (matrix_inputs tile output) input < length (matrix_inputs tile output))
  value_chosen feature input here chooses =
      let inputs = matrix_inputs tile output in
      let few = place_in (λ other. nat_eq other input) inputs (chosen_listed fabric feature x y output input tile tile_is chooses) in
      (spelled_is_selected tile (bits x y) output (place_among inputs input) few (is.chosen x y output input tile feature tile_is here chooses), few)

  -- where none is, it is 0
  pub value_unchosen : NoneChooses fabric features x y output → select_value tile (bits x y) output ≡ 0
  value_unchosen none = ap number (is.unchosen x y output tile tile_is none) ∙ number_of_none (output_field tile output).1

pub bit_maps_select_inputs : BitMapsSelectInputs
bit_maps_select_inputs fabric features bits is x y output tile tile_is =
    elim (decided fabric x y output features) [
      | inl some ↦ (let value = value_chosen fabric features bits is x y output tile tile_is some.feature some.input some.listed some.chooses in inr (omega (arith, value.0, value.1)))
      | inr none ↦ inl (value_unchosen fabric features bits is x y output tile tile_is none)
    ]
