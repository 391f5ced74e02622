-- Each configuration bit of a tile is one of a BEL, or a select bit of an output.
use Rattle.std.proofs.Common.{◌≡◌, ℕ, suc, ◌+◌, ◌-◌, ◌<◌, Bool, false, not, cond, List, [], ◌∷◌, take, map, Contains, Decides, nat_eq, eqb-true, slice_get, Some, refl, ap, ◌∙◌, inl, inr, arith, sum_by}
use Rattle.std.specs.List.{IsDistinct, take_while}
use Rattle.std.proofs.lemmas.Bool.{cases_Bool, cases_lt}
use Rattle.std.proofs.lemmas.Bool.Decides.{Decides-eqb}
use Rattle.std.proofs.lemmas.List.Elements.{All-from_recursion}
use Rattle.std.proofs.lemmas.List.Sums.{sum_by-cons, take_while-cons}
use Rattle.std.proofs.lemmas.Map.Keys.{IsDistinct-head, IsDistinct-tail}
use Rattle.fab_kinds.specs.Pins.{bit_count}
use Rattle.fab_select.specs.Selection.{in_order, field_width}
use Rattle.fab_select.proofs.Firsts.{same_itself, firsts_distinct}
use Rattle.fab_model.specs.declared.tiles.Bel.{Bel}
use Rattle.fab_model.specs.Tiles.{PlainTile, numbered_pairs, output_field, bel_bits, tile_bits, bits_before}
use Rattle.fab_netlist.proofs.Members.{first_in, later_in}
use Rattle.fab_features.proofs.Words.{of_all}

-- a bit of a BEL or of an output
pub data IsBitOf (tile : PlainTile) (bit : ℕ) : Type 0 where
  of_bel : (bel place : ℕ) (found : Bel) → slice_get tile.bels bel ≡ Some found → place < bit_count found.kind → bit ≡ bits_before tile.bels bel + place →
      IsBitOf tile bit
  of_output : (output place : ℕ) → place < (output_field tile output).1 → bit ≡ (output_field tile output).0 + place → IsBitOf tile bit

-- ---- BELs

abbrev bits_of : Bel → ℕ
bits_of bel = bit_count bel.kind

record BelBit (bels : List Bel) (bit : ℕ) : Type 0 where
  bel : ℕ
  place : ℕ
  found : Bel
  found_is : slice_get bels bel ≡ Some found
  few : place < bit_count found.kind
  bit_is : bit ≡ bits_before bels bel + place

some_bel : (bels : List Bel) (bit : ℕ) → bit < sum_by bits_of bels → BelBit bels bit
some_bel [] bit few = absurd (omega (arith, few))
some_bel (bel ∷ bels) bit few =
    elim (cases_lt bit (bit_count bel.kind)) [
      | inl here ↦ record { bel = 0; place = bit; found = bel; found_is = refl; few = here; bit_is = omega arith }
      | inr past ↦ (
          let rest = some_bel bels (bit - bit_count bel.kind) (omega (arith, few, past, sum_by-cons bits_of bel bels)) in
          record {
            bel = suc rest.bel;
            place = rest.place;
            found = rest.found;
            found_is = rest.found_is;
            few = rest.few;
            bit_is = omega (arith, past, rest.bit_is, sum_by-cons bits_of bel (take rest.bel bels));
          })
    ]

-- ---- outputs

module _ (same : ℕ → ℕ → Bool) (tells : (a b : ℕ) → Decides (same a b) (a ≡ b)) (widths : ℕ → ℕ) where
  -- the sum of what stands before an output
  abbrev before : (order : List ℕ) (output : ℕ) → ℕ
  before order output = sum_by widths (take_while (λ other. not (same other output)) order)

  before_here : (output : ℕ) (order : List ℕ) → before (output ∷ order) output ≡ 0
  before_here output order =
      ap (sum_by widths)
      (take_while-cons (λ other. not (same other output)) output order
      ∙ ap (λ b. cond (not b) (output ∷ take_while (λ other. not (same other output)) order) []) (same_itself same tells output))

  before_later : (other : ℕ) (order : List ℕ) (output : ℕ) → same other output ≡ false → before (other ∷ order) output ≡ widths other + before order output
  before_later other order output later =
      let rest = take_while (λ o. not (same o output)) order in
      ap (sum_by widths) (take_while-cons (λ o. not (same o output)) other order ∙ ap (λ b. cond (not b) (other ∷ rest) []) later)
      ∙ sum_by-cons widths other rest

  record OutputBit (order : List ℕ) (bit : ℕ) : Type 0 where
    output : ℕ
    place : ℕ
    listed : Contains order output
    few : place < widths output
    bit_is : bit ≡ before order output + place

  some_output : (order : List ℕ) (bit : ℕ) → IsDistinct same order → bit < sum_by widths order → OutputBit order bit
  some_output [] bit apart few = absurd (omega (arith, few))
  some_output (first ∷ order) bit apart few =
      elim (cases_lt bit (widths first)) [
        | inl here ↦ record { output = first; place = bit; listed = first_in first order first refl; few = here; bit_is = omega (arith, before_here first order) }
        | inr past ↦ (
            let rest =
            some_output order (bit - widths first) (IsDistinct-tail same first order apart) (omega (arith, few, past, sum_by-cons widths first order)) in
            let differs : same first rest.output ≡ false =
            of_all (λ y. same first y ≡ false) order rest.output (All-from_recursion (λ y. same first y ≡ false) order (IsDistinct-head same first order apart)) rest.listed in
            record {
              output = rest.output;
              place = rest.place;
              listed = later_in first order rest.output rest.listed;
              few = rest.few;
              bit_is = omega (arith, past, rest.bit_is, before_later first order rest.output differs);
            })
      ]

-- ---- of a tile

pub some_bit : (tile : PlainTile) (bit : ℕ) → bit < tile_bits tile → IsBitOf tile bit
some_bit tile bit few =
    let pairs = numbered_pairs tile in
    elim (cases_lt bit (bel_bits tile)) [
      | inl low ↦ (let b = some_bel tile.bels bit low in of_bel b.bel b.place b.found b.found_is b.few b.bit_is)
      | inr past ↦ (
          let o =
          some_output nat_eq Decides-eqb (field_width nat_eq pairs) (in_order nat_eq pairs) (bit - bel_bits tile) (firsts_distinct nat_eq Decides-eqb (map (λ (pair : ℕ × ℕ). pair.0) pairs)) (omega (arith, few, past)) in
          let some : nat_eq (field_width nat_eq pairs o.output) 0 ≡ false =
          elim (cases_Bool (nat_eq (field_width nat_eq pairs o.output) 0)) [
            | inl none ↦ (let zero_is : field_width nat_eq pairs o.output ≡ 0 = eqb-true (field_width nat_eq pairs o.output) 0 none in absurd (omega (arith, zero_is, o.few)))
            | inr f ↦ f
          ] in
          let low_is : (output_field tile o.output).0 ≡ bel_bits tile + before nat_eq Decides-eqb (field_width nat_eq pairs) (in_order nat_eq pairs) o.output =
          rw some refl in
          let width_is : (output_field tile o.output).1 ≡ field_width nat_eq pairs o.output = rw some refl in
          of_output o.output o.place (omega (arith, o.few, width_is)) (omega (arith, past, o.bit_is, low_is)))
    ]
