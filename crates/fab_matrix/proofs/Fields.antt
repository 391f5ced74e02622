-- The fields of the select bits.
use Rattle.std.proofs.Common.{◌≡◌, ℕ, ◌+◌, ◌<◌, ◌≤◌, Bool, true, not, cond, List, [], ◌∷◌, length, refl, ap, ◌∙◌, inl, inr, arith, Decides, sum_by}
use Rattle.std.specs.List.{list_any, take_while}
use Rattle.std.proofs.lemmas.Bool.{false≢true}
use Rattle.std.proofs.lemmas.List.Sums.{sum_by-cons, take_while-cons}
use Rattle.fab_select.specs.Selection.{inputs_of, in_order, field_width, field_low, select_bits}
use Rattle.fab_matrix.specs.Names.{Name}
use Rattle.fab_select.proofs.Firsts.{told, any_kept}

module _ {K : Type 0} (same : K → K → Bool) (tells : (a b : K) → Decides (same a b) (a ≡ b)) where
  -- an output with an input is in the order
  pub ordered : (output : K) (pairs : List (K × Name)) → 0 < length (inputs_of same pairs output) → list_any (λ other. same other output) (in_order same pairs) ≡ true
  ordered output [] some = absurd (omega arith)
  ordered output (pair ∷ pairs) some =
      elim (told same tells pair.0 output) [
        | inl t ↦ rw t.0 refl
        | inr f ↦ (
            let rest : 0 < length (inputs_of same pairs output) = rw f.0 at some in
            rw f.0 (any_kept same tells (λ other. same other output) pair.0 (in_order same pairs) f.0 ∙ ordered output pairs rest))
      ]

  -- the sum before an item and its own lie within the whole sum
  sum_within : (widths : K → ℕ) (output : K) (order : List K) → list_any (λ other. same other output) order ≡ true →
      sum_by widths (take_while (λ other. not (same other output)) order) + widths output ≤ sum_by widths order
  sum_within widths output [] there = absurd (false≢true there)
  sum_within widths output (other ∷ order) there =
      let p : K → Bool = λ o. not (same o output) in
      let front : take_while p (other ∷ order) ≡ cond (p other) (other ∷ take_while p order) [] = take_while-cons p other order in
      let whole : sum_by widths (other ∷ order) ≡ widths other + sum_by widths order = sum_by-cons widths other order in
      elim (told same tells other output) [
        | inl t ↦ (
            let none : sum_by widths (take_while p (other ∷ order)) ≡ 0 = ap (sum_by widths) (front ∙ ap (λ b. cond (not b) (other ∷ take_while p order) []) t.0) in
            let own : widths other ≡ widths output = ap widths t.1 in
            omega arith)
        | inr f ↦ (
            let rest : list_any (λ o. same o output) order ≡ true = rw f.0 at there in
            let some : sum_by widths (take_while p (other ∷ order)) ≡ widths other + sum_by widths (take_while p order) =
            ap (sum_by widths) (front ∙ ap (λ b. cond (not b) (other ∷ take_while p order) []) f.0) ∙ sum_by-cons widths other (take_while p order) in
            omega (arith, sum_within widths output order rest))
      ]

  -- a field lies within the select bits
  pub field_within : (output : K) (pairs : List (K × Name)) → 0 < length (inputs_of same pairs output) →
      field_low same pairs output + field_width same pairs output ≤ select_bits same pairs
  field_within output pairs some = sum_within (field_width same pairs) output (in_order same pairs) (ordered output pairs some)
