-- The bits that lines set are the bit map of their features, where no two lines choose different inputs for an output.
use Rattle.std.proofs.Common.{◌≡◌, ◌↔◌, ℕ, ◌+◌, ◌-◌, ◌<◌, ◌%◌, ◌^◌, true, false, List, Contains, Some, nat_eq, slice_get, sym, refl, ap, ◌∙◌, subst, inl, inr, arith}
use Rattle.std.specs.List.{list_any}
use Rattle.std.proofs.lemmas.Bool.{false≢true, cases_lt}
use Rattle.std.proofs.Math.Nat.{zero-div}
use Rattle.fab_bits.specs.Bits.{digits}
use Rattle.fab_kinds.specs.Pins.{bit_count}
use Rattle.fab_model.specs.declared.tiles.Bel.{Bel}
use Rattle.fab_model.specs.Tiles.{PlainTile, output_field, bel_bits, bits_before}
use Rattle.fab_model.specs.Grid.{PlainFabric, tile_at}
use Rattle.fab_model.specs.Drive.{PlainBits, select_field, matrix_inputs}
use Rattle.fab_netlist.specs.Plain.{IsAt}
use Rattle.fab_netlist.specs.WellMade.{table_bit}
use Rattle.fab_legal.specs.Turns.{AreRight}
use Rattle.fab_legal.proofs.Lists.{same_at}
use Rattle.fab_legal.proofs.Once.{before_in}
use Rattle.fab_fasm.specs.declared.feature.Feature.{Feature}
use Rattle.fab_features.specs.Said.{choice}
use Rattle.fab_features.specs.Features.{IsBitMapOf, SetsBelBit, Chooses, place_among}
use Rattle.fab_features.specs.Wrong.{IsRightFeature}
use Rattle.fab_features.specs.inner.Adding.{Adds, SomeOf, IsSelectOne}
use Rattle.fab_features.specs.inner.Lines.{IsLineOne, IsFieldOne}
use Rattle.fab_features.specs.declared.said.Choice.{Choice}
use Rattle.fab_features.proofs.Fields.{bel_inside, one_bel, field_above, one_output}
use Rattle.fab_features.proofs.Setting.{one_tile}
use Rattle.fab_features.proofs.Saids.{has_choice, one_choice}
use Rattle.fab_features.proofs.Configured.{bool_same, spelled}

-- no two lines choose different inputs for an output
abbrev pub Agree : PlainFabric → List Feature → Type 0
Agree fabric features =
    (x y output input other : ℕ) (first second : Feature) → Contains features first → Chooses fabric first x y output input → Contains features second → Chooses fabric second x y output other → input ≡ other

-- lines that are right agree
pub right_agree : (fabric : PlainFabric) (features : List Feature) → AreRight (IsRightFeature fabric) features → Agree fabric features
right_agree fabric features right x y output input other first second first_in first_chooses second_in second_chooses =
    elim (cases_lt first_in.0 second_in.0) [
      | inl less ↦ (right second_in.0 second second_in.1 (second_in.1, second_in.2)).agrees x y output other input first second_chooses
          (before_in features first_in.0 second_in.0 first less (omega (arith, second_in.1)) (first_in.1, first_in.2)) first_chooses
      | inr past ↦ elim (cases_lt second_in.0 first_in.0) [
        | inl more ↦ sym ((right first_in.0 first first_in.1 (first_in.1, first_in.2)).agrees x y output input other second first_chooses
            (before_in features second_in.0 first_in.0 second more (omega (arith, first_in.1)) (second_in.1, second_in.2)) second_chooses)
        | inr least ↦ (
            let places : first_in.0 ≡ second_in.0 = omega (arith, past, least) in
            let same : first ≡ second = same_at features second_in.0 first second (subst (λ n. IsAt features n first) places (first_in.1, first_in.2)) (second_in.1, second_in.2) in
            let chooses : Chooses fabric second x y output input = subst (λ (f : Feature). Chooses fabric f x y output input) same first_chooses in
            ap (λ (c : Choice). c.input) (one_choice fabric second.name (choice x y output input) (choice x y output other) chooses.said_is second_chooses.said_is))
      ]
    ]

-- 0 has no bit that is 1
no_bit : (place : ℕ) → table_bit 0 place ≡ true → ⊥
no_bit place one = false≢true (ap (λ n. nat_eq (n % 2) 1) (sym (zero-div (2 ^ place))) ∙ one)

module _ (fabric : PlainFabric) (features : List Feature) (blank bits : PlainBits) (none : (x y bit : ℕ) → blank x y bit ≡ false) (adds : Adds blank bits (SomeOf (IsLineOne fabric) features))
    (agree : Agree fabric features) where
  -- a bit that is 1 is one of a line
  line_of : (x y bit : ℕ) → bits x y bit ≡ true → SomeOf (IsLineOne fabric) features x y bit
  line_of x y bit h = elim (adds.no_others x y bit h) [ inl old ↦ absurd (false≢true (sym (none x y bit) ∙ old)) | inr one ↦ one ]

  -- ---- bits of BELs

  module _ (x y bel bit : ℕ) (tile : PlainTile) (found : Bel) (tile_is : tile_at fabric x y ≡ Some tile) (bel_is : slice_get tile.bels bel ≡ Some found) (few : bit < bit_count found.kind) where
    -- a line of a pair sets no bit of a BEL
    no_pair : (feature : Feature) (output input : ℕ) (other : PlainTile) → tile_at fabric x y ≡ Some other → IsSelectOne other output input (bits_before tile.bels bel + bit) → ⊥
    no_pair feature output input other other_is one =
        let same : other ≡ tile = one_tile fabric x y other tile other_is tile_is in
        omega (arith, few, bel_inside tile.bels bel found bel_is, field_above other output (bits_before tile.bels bel + bit) one.above one.below, ap bel_bits same)

    the_line : (feature : Feature) → IsFieldOne fabric feature x y (bits_before tile.bels bel + bit) → SetsBelBit fabric feature x y bel bit
    the_line feature f =
        let same : f.tile ≡ tile = one_tile fabric x y f.tile tile f.tile_is tile_is in
        let there : slice_get tile.bels f.bel ≡ Some f.found = ap (λ (t : PlainTile). slice_get t.bels f.bel) (sym same) ∙ f.bel_is in
        let at : bits_before tile.bels bel + bit ≡ bits_before tile.bels f.bel + f.place = f.bit_is ∙ ap (λ (t : PlainTile). bits_before t.bels f.bel + f.place) same in
        let places = one_bel tile.bels bel f.bel found f.found bit f.place bel_is there few f.small at in
        subst (λ n. SetsBelBit fabric feature x y n bit) (sym places.0) (subst (λ n. SetsBelBit fabric feature x y f.bel n) (sym places.1) f.sets)

    bel_bit : (bits x y (bits_before tile.bels bel + bit) ≡ true) ↔ ((feature : Feature) × Contains features feature × SetsBelBit fabric feature x y bel bit)
    bel_bit = (
      (λ h.
          let one = line_of x y (bits_before tile.bels bel + bit) h in
          elim one.2 [
            | inl f ↦ (one.0, one.1, the_line one.0 f)
            | inr p ↦ absurd (no_pair one.0 p.output p.input p.tile p.tile_is p.selected)
          ]),
      λ some.
          adds.set x y (bits_before tile.bels bel + bit) (
            some.0,
            some.1,
            inl (record { tile = tile; bel = bel; place = bit; found = found; tile_is = tile_is; bel_is = bel_is; small = few; bit_is = refl; sets = some.2 }),
          ),
    )

  -- ---- select bits

  module _ (x y output : ℕ) (tile : PlainTile) (tile_is : tile_at fabric x y ≡ Some tile) where
    abbrev field : ℕ × ℕ
    field = output_field tile output

    -- a line of a BEL sets no select bit
    no_field : (feature : Feature) (place : ℕ) → place < field.1 → IsFieldOne fabric feature x y (field.0 + place) → ⊥
    no_field feature place few f =
        let same : f.tile ≡ tile = one_tile fabric x y f.tile tile f.tile_is tile_is in
        omega (arith, few, bel_inside f.tile.bels f.bel f.found f.bel_is, f.small, f.bit_is, field_above tile output (field.0 + place) (omega arith) (omega (arith, few)), ap bel_bits same)

    -- a select bit that is 1 is one of a line that chooses an input of this output
    chosen_line : (place : ℕ) → place < field.1 → bits x y (field.0 + place) ≡ true →
        (feature : Feature) × Contains features feature × ((input : ℕ) × Chooses fabric feature x y output input × IsSelectOne tile output input (field.0 + place))
    chosen_line place few h =
        let one = line_of x y (field.0 + place) h in
        elim one.2 [
          | inl f ↦ absurd (no_field one.0 place few f)
          | inr p ↦ (
              let same : p.tile ≡ tile = one_tile fabric x y p.tile tile p.tile_is tile_is in
              let selected : IsSelectOne tile p.output p.input (field.0 + place) = subst (λ (t : PlainTile). IsSelectOne t p.output p.input (field.0 + place)) same p.selected in
              let output_is : p.output ≡ output = one_output tile p.output output (field.0 + place) selected.above selected.below (omega arith) (omega (arith, few)) in (
                one.0,
                one.1,
                (
                  p.input,
                  subst (λ n. Chooses fabric one.0 x y n p.input) output_is p.chooses,
                  subst (λ n. IsSelectOne tile n p.input (field.0 + place)) output_is selected,
                ),
              ))
        ]

    chosen_bits : (input : ℕ) (feature : Feature) → Contains features feature → Chooses fabric feature x y output input →
        select_field tile (bits x y) output ≡ digits field.1 (place_among (matrix_inputs tile output) input)
    chosen_bits input feature there chooses =
        let value = place_among (matrix_inputs tile output) input in
        let has = has_choice fabric feature.name (choice x y output input) chooses.said_is in
        let same : has.tile ≡ tile = one_tile fabric x y has.tile tile has.tile_is tile_is in
        let paired : list_any (λ other. nat_eq other input) (matrix_inputs tile output) ≡ true =
        subst (λ (t : PlainTile). list_any (λ other. nat_eq other input) (matrix_inputs t output) ≡ true) same has.paired in
        spelled field.1 value (λ place. bits x y (field.0 + place)) (λ place few.
        let back : field.0 + place - field.0 ≡ place = omega arith in
        bool_same (bits x y (field.0 + place)) (table_bit value place)
        (λ h.
        let one = chosen_line place few h in
        let inputs : one.2.0 ≡ input = agree x y output one.2.0 input one.0 feature one.1 one.2.1 there chooses in
        let here : IsSelectOne tile output input (field.0 + place) = subst (λ n. IsSelectOne tile output n (field.0 + place)) inputs one.2.2 in
        ap (table_bit value) (sym back) ∙ here.one)
        (λ h.
        adds.set x y (field.0 + place) (
          feature,
          there,
          inr (record {
            tile = tile;
            output = output;
            input = input;
            tile_is = tile_is;
            chooses = chooses;
            selected = record { paired = paired; above = omega arith; below = omega (arith, few); one = ap (table_bit value) back ∙ h };
          }),
        )))

    unchosen_bits : ((feature : Feature) (input : ℕ) → Contains features feature → Chooses fabric feature x y output input → ⊥) → select_field tile (bits x y) output ≡ digits field.1 0
    unchosen_bits never =
        spelled field.1 0 (λ place. bits x y (field.0 + place)) (λ place few.
        bool_same (bits x y (field.0 + place)) (table_bit 0 place)
        (λ h. let one = chosen_line place few h in absurd (never one.0 one.2.0 one.1 one.2.1))
        (λ h. absurd (no_bit place h)))

  pub bit_map : IsBitMapOf fabric features bits
  bit_map = record {
    bels = bel_bit;
    chosen = λ x y output input tile feature tile_is there chooses. chosen_bits x y output tile tile_is input feature there chooses;
    unchosen = λ x y output tile tile_is never. unchosen_bits x y output tile tile_is never;
  }
