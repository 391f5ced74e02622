-- The bits that spelled features stand for.
use Rattle.std.proofs.Common.{◌≡◌, ◌⊎◌, ℕ, zero, suc, ◌+◌, ◌-◌, ◌<◌, Bool, true, List, [], ◌∷◌, length, take, get_or, All, Contains, Option, Some, None, nat_lt, slice_get, sym, refl, ap, ◌∙◌, subst, inl, inr, arith}
use Rattle.std.specs.Option.{option_and_then, option_map_or}
use Rattle.std.proofs.lemmas.Bool.{cases_Bool}
use Rattle.std.proofs.lemmas.Option.{slice_get-get_or}
use Rattle.fab_bits.specs.Bits.{digits}
use Rattle.fab_kinds.specs.Pins.{input_count}
use Rattle.fab_model.specs.declared.tiles.Bel.{Bel}
use Rattle.fab_model.specs.Tiles.{PlainTile, numbered_pairs, output_field, bits_before}
use Rattle.fab_model.specs.Grid.{PlainFabric, tile_at}
use Rattle.fab_model.specs.Wires.{PlainWire, source_of, dest_of, pin_of, plain_wires, wire_number}
use Rattle.fab_model.specs.Drive.{PlainBits, zero_bit, drive, tile_drive, pin_drive, matrix_drive, copy_or_zero, input_at, matrix_inputs, select_field, select_value}
use Rattle.fab_fabric.specs.Fabric.{IsFabric, AreTiles}
use Rattle.fab_netlist.specs.WellMade.{table_bit}
use Rattle.fab_netlist.proofs.Members.{in_none, first_or_later, first_in, later_in}
use Rattle.fab_legal.proofs.Pins.{tile_type}
use Rattle.fab_legal.specs.Turns.{AreRight}
use Rattle.fab_use_defs.proofs.fab_tile_drives_laws_Members.{contains_at}
use Rattle.fab_fasm.specs.declared.feature.Feature.{Feature}
use Rattle.fab_use_defs.specs.fab_gen_tile_Words.{IsNamed}
use Rattle.fab_features.specs.Said.{bel_field, choice}
use Rattle.fab_features.specs.Naming.{HasPrefixes}
use Rattle.fab_features.specs.Features.{IsBitMapOf, SetsBelBit, Chooses, place_among}
use Rattle.fab_features.specs.Wrong.{IsFeature, IsRightFeature}
use Rattle.fab_features.specs.Spelled.{value_of, picked_input, features_in}
use Rattle.fab_features.specs.declared.said.BelField.{BelField}
use Rattle.fab_features.specs.declared.said.Choice.{Choice}
use Rattle.fab_features.specs.declared.said.Said.TheVariants as said
use Rattle.fab_features.proofs.Configured.{bool_same, spelled}
use Rattle.fab_features.proofs.Saids.{has_choice, one_field, one_choice, no_both}
use Rattle.fab_features.proofs.Setting.{one_tile}
use Rattle.fab_features.proofs.Words.{of_all}
use Rattle.fab_flow_laws.specs.BitsLaws.{DriveAlike, SelectsInputs, PairsStandOnce, SpelledBitsAreSaid}
use Rattle.fab_flow_laws.proofs.OneMap.{SameBels}
use Rattle.fab_flow_laws.proofs.Selecting.{value_chosen, value_unchosen}
use Rattle.fab_flow_laws.proofs.SpelledBits.{spelled_bit, input_there, picked_at, picked_listed, picked_drives, none_picked, none_drives, own_place}
use Rattle.fab_flow_laws.proofs.SpelledLines.{IsFieldLine, IsPickLine, spelled_line, bit_spelled, pick_spelled}

-- ---- in general

same_number : (a b : ℕ) → Some a ≡ Some b → a ≡ b
same_number a b e = cc

no_number : {X : Type 0} (a : ℕ) → None ≡ Some a → X
no_number a e = absurd cc

from_taken : {X : Type 0} (xs : List X) (n : ℕ) (x : X) → Contains (take n xs) x → Contains xs x
from_taken [] zero x here = here
from_taken [] (suc n) x here = here
from_taken (y ∷ xs) zero x here = absurd (in_none x here)
from_taken (y ∷ xs) (suc n) x here =
    elim (first_or_later y (take n xs) x here) [ inl same ↦ first_in y xs x same | inr later ↦ later_in y xs x (from_taken xs n x later) ]

-- ---- drives

-- a wire is driven alike where the inputs of all outputs are
module _ (fabric : PlainFabric) (first second : PlainBits)
    (alike : (x y output : ℕ) (tile : PlainTile) → tile_at fabric x y ≡ Some tile →
    input_at (matrix_inputs tile output) (select_value tile (first x y) output) ≡ input_at (matrix_inputs tile output) (select_value tile (second x y) output)) where
  matrix_alike : (x y output : ℕ) (tile : PlainTile) → tile_at fabric x y ≡ Some tile →
      matrix_drive (first x y) x y tile output ≡ matrix_drive (second x y) x y tile output
  matrix_alike x y output tile tile_is = ap (λ input. copy_or_zero x y (option_and_then (slice_get (plain_wires tile)) input)) (alike x y output tile tile_is)

  pin_alike : (x y bel pin : ℕ) (tile : PlainTile) (found : Option Bel) → tile_at fabric x y ≡ Some tile →
      pin_drive (first x y) x y tile bel pin found ≡ pin_drive (second x y) x y tile bel pin found
  pin_alike x y bel pin tile None tile_is = refl
  pin_alike x y bel pin tile (Some found) tile_is =
      elim (cases_Bool (nat_lt pin (input_count found.kind))) [ inl t ↦ rw t (matrix_alike x y (wire_number tile (pin_of bel pin)) tile tile_is) | inr f ↦ rw f refl ]

  tile_alike : (x y : ℕ) (wire : PlainWire) (tile : PlainTile) → tile_at fabric x y ≡ Some tile →
      tile_drive fabric (first x y) x y wire tile ≡ tile_drive fabric (second x y) x y wire tile
  tile_alike x y (source_of row bit) tile tile_is = matrix_alike x y (wire_number tile (source_of row bit)) tile tile_is
  tile_alike x y (dest_of row bit) tile tile_is = refl
  tile_alike x y (pin_of bel pin) tile tile_is = pin_alike x y bel pin tile (slice_get tile.bels bel) tile_is

  drive_alike : (x y : ℕ) (wire : PlainWire) → drive fabric first x y wire ≡ drive fabric second x y wire
  drive_alike x y wire = by (tile_at fabric x y) refl
    where
      by : (found : Option PlainTile) → tile_at fabric x y ≡ found →
          option_map_or (tile_drive fabric (first x y) x y wire) found zero_bit ≡ option_map_or (tile_drive fabric (second x y) x y wire) found zero_bit
      by None tile_is = refl
      by (Some tile) tile_is = tile_alike x y wire tile tile_is

-- ---- what the features say

module _ (fabric : PlainFabric) (is_fabric : IsFabric fabric) (tiles : AreTiles fabric) (free : All IsNamed fabric.types)
    (prefixed : All HasPrefixes fabric.types) (bits : PlainBits) where
  abbrev features : List Feature
  features = features_in fabric bits

  line_of : (f : Feature) → Contains features f → IsFieldLine fabric bits f ⊎ IsPickLine fabric bits f
  line_of f here = spelled_line fabric is_fabric tiles free prefixed bits f here

  known : (f : Feature) → IsFieldLine fabric bits f ⊎ IsPickLine fabric bits f → IsFeature fabric f
  known f (inl line) = (let wide = line.wide in record { found = said.OfBel (bel_field line.x line.y line.bel line.field.0 line.field.1); said_is = line.says; inside = omega (arith, wide, line.high_is) })
  known f (inr line) = record { found = said.OfPair (choice line.x line.y line.output line.input); said_is = line.says; inside = omega (arith, line.high_is) }

  -- an input that a feature chooses is picked
  chosen_picked : (f : Feature) (x y output input : ℕ) (tile : PlainTile) → tile_at fabric x y ≡ Some tile → Contains features f →
      Chooses fabric f x y output input → picked_input tile (bits x y) output ≡ Some input
  chosen_picked f x y output input tile tile_is here chooses = by (line_of f here)
    where
      by : IsFieldLine fabric bits f ⊎ IsPickLine fabric bits f → picked_input tile (bits x y) output ≡ Some input
      by (inl line) = absurd (no_both {X = ⊥} fabric f.name (bel_field line.x line.y line.bel line.field.0 line.field.1) (choice x y output input) line.says chooses.said_is)
      by (inr line) =
          let pair = choice line.x line.y line.output line.input in
          let Picks : Choice → Type 0 = λ c. (t : PlainTile) → tile_at fabric c.x c.y ≡ Some t → picked_input t (bits c.x c.y) c.output ≡ Some c.input in
          let here : Picks pair =
          λ t t_is. subst (λ (u : PlainTile). picked_input u (bits line.x line.y) line.output ≡ Some line.input) (one_tile fabric line.x line.y line.tile t line.tile_is t_is) line.picked in
          subst Picks (one_choice fabric f.name pair (choice x y output input) line.says chooses.said_is) here tile tile_is

  right : AreRight (IsRightFeature fabric) features
  right place f few at = record {
    known = known f (line_of f (place, at.0, at.1));
    agrees = λ x y output input other earlier chooses before chose.
        let has = has_choice fabric f.name (choice x y output input) chooses.said_is in
        same_number other input
        (sym (chosen_picked earlier x y output other has.tile has.tile_is (from_taken features place earlier before) chose) ∙ chosen_picked f x y output input has.tile has.tile_is (place, at.0, at.1) chooses);
  }

  -- a bit that a feature sets is 1
  set_spelled : (x y bel bit : ℕ) (tile : PlainTile) → tile_at fabric x y ≡ Some tile → (f : Feature) → Contains features f →
      SetsBelBit fabric f x y bel bit → bits x y (bits_before tile.bels bel + bit) ≡ true
  set_spelled x y bel bit tile tile_is f here sets = by (line_of f here)
    where
      by : IsFieldLine fabric bits f ⊎ IsPickLine fabric bits f → bits x y (bits_before tile.bels bel + bit) ≡ true
      by (inr line) = absurd (no_both {X = ⊥} fabric f.name (bel_field x y bel sets.first sets.width) (choice line.x line.y line.output line.input) sets.said_is line.says)
      by (inl line) =
          let e =
          one_field fabric f.name (bel_field line.x line.y line.bel line.field.0 line.field.1) (bel_field x y bel sets.first sets.width) line.says sets.said_is in
          let Spells : BelField → Type 0 =
          λ b. (t : PlainTile) → tile_at fabric b.x b.y ≡ Some t → f.value ≡ value_of (bits b.x b.y) (bits_before t.bels b.bel + b.first) b.width in
          let there : Spells (bel_field line.x line.y line.bel line.field.0 line.field.1) =
          λ t t_is. subst (λ (u : PlainTile). f.value ≡ value_of (bits line.x line.y) (bits_before u.bels line.bel + line.field.0) line.field.1) (one_tile fabric line.x line.y line.tile t line.tile_is t_is) line.value_is in
          let value_is : f.value ≡ value_of (bits x y) (bits_before tile.bels bel + sets.first) sets.width = subst Spells e there tile tile_is in
          let width_is : line.field.1 ≡ sets.width = ap (λ (b : BelField). b.width) e in
          let low = bits_before tile.bels bel in
          let place = bit - (sets.first + f.low) in
          let above = sets.above in
          let below = sets.below in
          let wide = line.wide in
          let few : place < sets.width = omega (arith, above, below, wide, width_is, line.low_is, line.high_is) in
          let back : low + sets.first + place ≡ low + bit = omega (arith, above, line.low_is) in
          ap (bits x y) (sym back) ∙ sym (spelled_bit sets.width (λ k. bits x y (low + sets.first + k)) place few)
          ∙ ap (λ n. table_bit n place) (sym value_is) ∙ sets.one

  -- ---- their bit map

  module _ (back : PlainBits) (is : IsBitMapOf fabric features back) where
    bels_same : SameBels fabric bits back
    bels_same x y bel bit tile found tile_is bel_is few =
        let at = bits_before tile.bels bel + bit in
        let sets = is.bels x y bel bit tile found tile_is bel_is few in
        bool_same (bits x y at) (back x y at) (λ h. sets.1 (bit_spelled fabric is_fabric tiles free prefixed bits x y bel bit tile found tile_is bel_is few h))
        (λ h. let some = sets.0 h in set_spelled x y bel bit tile tile_is some.0 some.1 some.2)

    module _ (x y output : ℕ) (tile : PlainTile) (tile_is : tile_at fabric x y ≡ Some tile) where
      abbrev inputs : List ℕ
      inputs = matrix_inputs tile output

      abbrev value : ℕ
      value = select_value tile (bits x y) output

      -- the place of the input that is picked, or 0 where none is
      value_back : (picked : Option ℕ) → picked_input tile (bits x y) output ≡ picked →
          select_value tile (back x y) output ≡ option_map_or (place_among inputs) picked 0
      value_back None none =
          value_unchosen fabric features back is x y output tile tile_is (λ f input here chooses. no_number {X = ⊥} input (sym none ∙ chosen_picked f x y output input tile tile_is here chooses))
      value_back (Some input) picked =
          let some = pick_spelled fabric is_fabric tiles free prefixed bits x y output input tile tile_is picked in
          (value_chosen fabric features back is x y output tile tile_is some.0 input some.1 some.2).0

      inputs_alike : input_at inputs value ≡ input_at inputs (select_value tile (back x y) output)
      inputs_alike = by (picked_input tile (bits x y) output) refl
        where
          by : (picked : Option ℕ) → picked_input tile (bits x y) output ≡ picked →
              input_at inputs value ≡ input_at inputs (select_value tile (back x y) output)
          by None none = none_drives tile (bits x y) output none ∙ sym (ap (input_at inputs) (value_back None none))
          by (Some input) picked =
              picked_drives tile (bits x y) output input picked
              ∙ sym (ap (input_at inputs) (value_back (Some input) picked) ∙ input_there inputs input (picked_listed tile (bits x y) output input picked))

    alike : DriveAlike fabric bits back
    alike = record { bels = bels_same; wires = drive_alike fabric bits back inputs_alike }

  -- ---- these bits are their bit map

  module _ (once : All PairsStandOnce fabric.types) (selects : SelectsInputs fabric bits) (x y output : ℕ) (tile : PlainTile) (tile_is : tile_at fabric x y ≡ Some tile) where
    abbrev width : ℕ
    width = (output_field tile output).1

    abbrev selected : ℕ
    selected = select_value tile (bits x y) output

    -- the field has the digits of the value that it spells
    field_digits : select_field tile (bits x y) output ≡ digits width selected
    field_digits =
        let field : ℕ → Bool = λ place. bits x y ((output_field tile output).0 + place) in
        spelled width selected field (λ place few. sym (spelled_bit width field place few))

    own_chosen : (input : ℕ) (f : Feature) → Contains features f → Chooses fabric f x y output input →
        select_field tile (bits x y) output ≡ digits width (place_among (matrix_inputs tile output) input)
    own_chosen input f here chooses =
        let number_of_type = tile_type fabric x y tile tile_is in
        let tile_once = of_all PairsStandOnce fabric.types tile once (contains_at fabric.types number_of_type.0 tile number_of_type.1) in
        let picked = chosen_picked f x y output input tile tile_is here chooses in
        field_digits ∙ ap (digits width) (sym (own_place (numbered_pairs tile) output selected input tile_once (picked_at tile (bits x y) output input picked)))

    is_zero : (selected ≡ 0) ⊎ (slice_get (matrix_inputs tile output) selected ≡ None) → (selected ≡ 0) ⊎ (selected < length (matrix_inputs tile output)) → selected ≡ 0
    is_zero (inl zero_is) either = zero_is
    is_zero (inr none) (inl zero_is) = zero_is
    is_zero (inr none) (inr few) =
        no_number (get_or (matrix_inputs tile output) selected 0) (sym none ∙ slice_get-get_or (matrix_inputs tile output) selected 0 few)

    own_unchosen : ((f : Feature) (input : ℕ) → Contains features f → Chooses fabric f x y output input → ⊥) → select_field tile (bits x y) output ≡ digits width 0
    own_unchosen never = field_digits ∙ ap (digits width) (by (picked_input tile (bits x y) output) refl)
      where
        by : (picked : Option ℕ) → picked_input tile (bits x y) output ≡ picked → selected ≡ 0
        by None none = is_zero (none_picked tile (bits x y) output none) (selects x y output tile tile_is)
        by (Some input) picked =
            let some = pick_spelled fabric is_fabric tiles free prefixed bits x y output input tile tile_is picked in
            absurd (never some.0 input some.1 some.2)

  same : All PairsStandOnce fabric.types → SelectsInputs fabric bits → IsBitMapOf fabric features bits
  same once selects = record {
    bels = λ x y bel bit tile found tile_is bel_is few. (
      bit_spelled fabric is_fabric tiles free prefixed bits x y bel bit tile found tile_is bel_is few,
      λ some. set_spelled x y bel bit tile tile_is some.0 some.1 some.2,
    );
    chosen = λ x y output input tile f tile_is here chooses. own_chosen once selects x y output tile tile_is input f here chooses;
    unchosen = λ x y output tile tile_is never. own_unchosen once selects x y output tile tile_is never;
  }

pub spelled_bits_are_said : SpelledBitsAreSaid
spelled_bits_are_said fabric is_fabric tiles free prefixed bits = record {
  right = right fabric is_fabric tiles free prefixed bits;
  alike = alike fabric is_fabric tiles free prefixed bits;
  same = same fabric is_fabric tiles free prefixed bits;
}
