-- The fields of outputs.
use Rattle.std.proofs.Common.{◌≡◌, ◌≢◌, ℕ, ◌+◌, ◌<◌, Bool, false, not, cond, List, [], ◌∷◌, length, map, filter, get_or, set, take, refl, sym, ap, ◌∙◌, inl, inr, arith, nat_eq, sum_by, All, Some, None, position, le-ltb, lt-ltb}
use Rattle.std.specs.List.{list_any, position_or_len}
use Rattle.std.proofs.lemmas.Bool.{cases_Bool, cases_lt, false≢true, ne_eqb}
use Rattle.std.proofs.lemmas.Bool.Decides.{eqb_tells, Decides-eqb}
use Rattle.std.proofs.lemmas.List.{get_or-set_same, get_or-set_other, get_or_default}
use Rattle.std.proofs.lemmas.List.Elements.{All-map}
use Rattle.std.proofs.lemmas.List.Filters.{length-filter_more}
use Rattle.std.proofs.lemmas.List.Sums.{passes_at_first}
use Rattle.fab_kinds.specs.fab_bits.specs.Widths.{select_width}
use Rattle.fab_select.specs.declared.pair.Pair.{Pair}
use Rattle.fab_select.specs.Selection.{inputs_of, in_order, field_width, field_low}
use Rattle.fab_select.proofs.Firsts.{any_kept, firsts_all}
use Rattle.fab_model.specs.Tiles.{PlainTile, pair_numbers, numbered_pairs, bel_bits, output_field}
use Rattle.fab_model.specs.inner.Numbering.{HasFields, width_in}

-- inputs are as many as pairs of their output
count_of_inputs : (pairs : List Pair) (output : ℕ) → length (inputs_of nat_eq (map pair_numbers pairs) output) ≡ length (filter (λ (pair : Pair). nat_eq pair.output output) pairs)
count_of_inputs [] output = refl
count_of_inputs (pair ∷ pairs) output =
    elim (cases_Bool (nat_eq pair.output output)) [
      | inl t ↦ rw t (omega (arith, count_of_inputs pairs output))
      | inr f ↦ rw f (count_of_inputs pairs output)
    ]

-- the counts after one pair more
pub counts_more : (counts : List ℕ) (pairs : List Pair) (i : ℕ) (d : Pair) (new : ℕ) → i < length pairs → (get_or pairs i d).output < length counts →
    new ≡ get_or counts (get_or pairs i d).output 0 + 1 →
    ((output : ℕ) → get_or counts output 0 ≡ length (inputs_of nat_eq (map pair_numbers (take i pairs)) output)) →
    (output : ℕ) → get_or (set counts (get_or pairs i d).output new) output 0 ≡ length (inputs_of nat_eq (map pair_numbers (take (i + 1) pairs)) output)
counts_more counts pairs i d new in_pairs within new_is so_far output =
    let here : ℕ = (get_or pairs i d).output in
    let added : ℕ = cond (nat_eq here output) 1 0 in
    let more : length (filter (λ (pair : Pair). nat_eq pair.output output) (take (i + 1) pairs))
    ≡ length (filter (λ (pair : Pair). nat_eq pair.output output) (take i pairs)) + added =
    length-filter_more (λ (pair : Pair). nat_eq pair.output output) pairs i d in_pairs in
    let now_many : ℕ = length (inputs_of nat_eq (map pair_numbers (take (i + 1) pairs)) output) in
    let before : length (inputs_of nat_eq (map pair_numbers (take i pairs)) output) ≡ length (filter (λ (pair : Pair). nat_eq pair.output output) (take i pairs)) =
    count_of_inputs (take i pairs) output in
    let after : now_many ≡ length (filter (λ (pair : Pair). nat_eq pair.output output) (take (i + 1) pairs)) = count_of_inputs (take (i + 1) pairs) output in
    let had : get_or counts output 0 ≡ length (inputs_of nat_eq (map pair_numbers (take i pairs)) output) = so_far output in
    let step : now_many ≡ get_or counts output 0 + added = omega (arith, after, more, before, had) in
    elim (eqb_tells here output) [
      | inl t ↦ (
          let one : added ≡ 1 = ap (λ b. cond b 1 0) t.0 in
          let there : get_or (set counts here new) output 0 ≡ new = ap (λ k. get_or (set counts here new) k 0) (sym t.1) ∙ get_or-set_same counts here new 0 within in
          let old : get_or counts here 0 ≡ get_or counts output 0 = ap (λ k. get_or counts k 0) t.1 in
          there ∙ new_is ∙ ap (λ n. n + 1) old ∙ sym (step ∙ ap (λ n. get_or counts output 0 + n) one))
      | inr f ↦ (
          let none : added ≡ 0 = ap (λ b. cond b 1 0) f.0 in
          let there : get_or (set counts here new) output 0 ≡ get_or counts output 0 = get_or-set_other counts here output new 0 (λ e. f.1 (sym e)) in
          omega (arith, there, step, none))
    ]

-- widths by counts are those of the pairs
pub widths_are : (counts : List ℕ) (pairs : List (ℕ × ℕ)) → ((output : ℕ) → get_or counts output 0 ≡ length (inputs_of nat_eq pairs output)) → width_in counts ≡ field_width nat_eq pairs
widths_are counts pairs counted = λ j output. select_width (counted output j)

-- outputs in order are outputs of pairs
pub ordered_within : (n : ℕ) (pairs : List Pair) → All (λ pair. pair.output < n) pairs → All (λ output. output < n) (in_order nat_eq (map pair_numbers pairs))
ordered_within n pairs within =
    firsts_all (λ output. output < n) nat_eq (map (λ (pair : ℕ × ℕ). pair.0) (map pair_numbers pairs))
    (All-map (λ output. output < n) (λ (pair : ℕ × ℕ). pair.0) (map pair_numbers pairs) (All-map (λ (pair : ℕ × ℕ). pair.0 < n) pair_numbers pairs within))

-- ---- looking a field up

-- an output that is not in order has no inputs
no_inputs : (output : ℕ) (pairs : List (ℕ × ℕ)) → list_any (λ other. nat_eq other output) (in_order nat_eq pairs) ≡ false → length (inputs_of nat_eq pairs output) ≡ 0
no_inputs output [] none = refl
no_inputs output (pair ∷ pairs) none =
    elim (cases_Bool (nat_eq pair.0 output)) [
      | inl t ↦ absurd (false≢true (sym none ∙ rw t refl))
      | inr f ↦ (
          let rest : list_any (λ other. nat_eq other output) (filter (λ y. not (nat_eq pair.0 y)) (in_order nat_eq pairs)) ≡ false = rw f at none in
          rw f (no_inputs output pairs (sym (any_kept nat_eq Decides-eqb (λ other. nat_eq other output) pair.0 (in_order nat_eq pairs) f) ∙ rest)))
    ]

-- the test with its sides exchanged
abbrev is_output : (output other : ℕ) → Bool
is_output output other = nat_eq other output

turned_at : (output other : ℕ) → nat_eq output other ≡ is_output output other
turned_at output other = grind (arith, eqb_tells output other, eqb_tells other output)

turned : (output : ℕ) → nat_eq output ≡ is_output output
turned output = λ j other. turned_at output other j

no_width : (output : ℕ) (pairs : List (ℕ × ℕ)) → list_any (nat_eq output) (in_order nat_eq pairs) ≡ false → field_width nat_eq pairs output ≡ 0
unfolding select_width
no_width output pairs none =
    ap select_width (no_inputs output pairs (ap (λ (p : ℕ → Bool). list_any p (in_order nat_eq pairs)) (sym (turned output)) ∙ none))

pub no_field : (tile : PlainTile) (output : ℕ) → list_any (nat_eq output) (in_order nat_eq (numbered_pairs tile)) ≡ false → (0, 0) ≡ output_field tile output
no_field tile output none = rw (no_width output (numbered_pairs tile) none) refl

-- the field at the place of an output
module _ (first : ℕ) (pairs : List (ℕ × ℕ)) (order : List ℕ) (fields : List (ℕ × ℕ)) (bits : ℕ) (laid : HasFields first pairs order fields bits)
    (output place : ℕ) (found : place ≡ position_or_len (nat_eq output) order) (within : place < length order) where
  stands : get_or order place 0 ≡ output
  stands =
      let there : position_or_len (nat_eq output) order < length order = omega arith in
      ap (λ k. get_or order k 0) found ∙ sym ((Decides-eqb output _).0 (passes_at_first (nat_eq output) order 0 there))

  pub field_there : get_or fields place (0, 0) ≡ (first + field_low nat_eq pairs output, field_width nat_eq pairs output)
  field_there =
      laid.each place within
      ∙ (λ j. (first + sum_by (field_width nat_eq pairs) (take (found j) order), field_width nat_eq pairs (stands j)))
      ∙ ap (λ (p : ℕ → Bool). (first + sum_by (field_width nat_eq pairs) (take (position_or_len p order) order), field_width nat_eq pairs output)) (turned output)
      ∙ ap (λ (outputs : List ℕ). (first + sum_by (field_width nat_eq pairs) (take (position_or_len (λ other. nat_eq other output) outputs) outputs), field_width nat_eq pairs output)) laid.in_turn

-- the place that is found
place_is : (p : ℕ → Bool) (xs : List ℕ) (place : ℕ) → Some place ≡ position p xs → (place ≡ position_or_len p xs) × (place < length xs)
place_is p xs place found =
    elim (cases_lt (position_or_len p xs) (length xs)) [
      | inl l ↦ (
          let is : Some place ≡ Some (position_or_len p xs) = found ∙ rw (lt-ltb (position_or_len p xs) (length xs) l) refl in
          let same : place ≡ position_or_len p xs = cc in
          (same, omega arith))
      | inr g ↦ (let is : Some place ≡ None = found ∙ rw (le-ltb (position_or_len p xs) (length xs) g) refl in cc)
    ]

-- what stands at the place that is found is the field, where its width is not 0
module _ (tile : PlainTile) (order : List ℕ) (fields : List (ℕ × ℕ)) (bits : ℕ) (laid : HasFields (bel_bits tile) (numbered_pairs tile) order fields bits)
    (output place : ℕ) (found : Some place ≡ position (nat_eq output) order) (field : ℕ × ℕ) (is : field ≡ get_or fields place field) where
  field_is : field ≡ (bel_bits tile + field_low nat_eq (numbered_pairs tile) output, field_width nat_eq (numbered_pairs tile) output)
  field_is =
      let at_place = place_is (nat_eq output) order place found in
      let inside : place < length fields = omega (arith, at_place.1, laid.as_many) in
      is
      ∙ get_or_default fields place field (0, 0) inside
      ∙ field_there (bel_bits tile) (numbered_pairs tile) order fields bits laid output place at_place.0 at_place.1

  pub empty_field : field.1 ≡ 0 → (0, 0) ≡ output_field tile output
  empty_field none =
      let width : field_width nat_eq (numbered_pairs tile) output ≡ 0 = sym (ap (λ (f : ℕ × ℕ). f.1) field_is) ∙ none in
      rw width refl

  pub full_field : field.1 ≢ 0 → field ≡ output_field tile output
  full_field some =
      let wide : field_width nat_eq (numbered_pairs tile) output ≢ 0 = λ none. some (ap (λ (f : ℕ × ℕ). f.1) field_is ∙ none) in
      rw (ne_eqb (field_width nat_eq (numbered_pairs tile) output) 0 wide) field_is

-- fields that are laid out by widths
pub fields_by_widths : (first : ℕ) (pairs : List (ℕ × ℕ)) (order : List ℕ) (fields : List (ℕ × ℕ)) (bits : ℕ) (widths : ℕ → ℕ) →
    widths ≡ field_width nat_eq pairs → order ≡ in_order nat_eq pairs → length fields ≡ length order →
    ((place : ℕ) → place < length order → get_or fields place (0, 0) ≡ (first + sum_by widths (take place order), widths (get_or order place 0))) →
    bits ≡ first + sum_by widths order → HasFields first pairs order fields bits
fields_by_widths first pairs order fields bits widths same ordered many each behind = record {
  in_turn = ordered;
  as_many = many;
  each = λ place within. each place within ∙ ap (λ (w : ℕ → ℕ). (first + sum_by w (take place order), w (get_or order place 0))) same;
  behind = behind ∙ ap (λ (w : ℕ → ℕ). first + sum_by w order) same;
}
