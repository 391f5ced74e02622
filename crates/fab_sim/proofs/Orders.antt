-- Orders in which no point stands twice.
use Rattle.std.proofs.Common.{◌≡◌, ◌≢◌, ◌⊎◌, ℕ, zero, suc, ◌+◌, ◌<◌, List, [], ◌∷◌, Some, length, get_or, refl, sym, ap, ◌∙◌, inl, inr, arith}
use Rattle.std.specs.List.{swap, All, range_with_len}
use Rattle.std.proofs.lemmas.Option.{slice_get-get_or}
use Rattle.std.specs.List.Sorted.{IsPermutation}
use Rattle.std.proofs.lemmas.Bool.{cases_eq, cases_lt}
use Rattle.std.proofs.lemmas.List.Edits.{length-swap, swapped_from_swap}
use Rattle.std.proofs.lemmas.List.Sorted.{IsPermutation-keeps}
use Rattle.fab_stepping.specs.Activating.{AreApart}
use Rattle.fab_stepping.specs.Boards.{LeadToThemselves}

-- two places with one number are one
abbrev AreSingle : List ℕ → Type 0
AreSingle order = (a b : ℕ) → a < length order → b < length order → get_or order a 0 ≡ get_or order b 0 → a ≡ b

single : (order : List ℕ) → AreApart order → AreSingle order
single order apart a b la lb same =
    elim (cases_lt a b) [
      | inl less ↦ absurd (apart a b less lb same)
      | inr not ↦ elim (cases_lt b a) [ inl more ↦ absurd (apart b a more la (sym same)) | inr other ↦ omega arith ]
    ]

apart : (order : List ℕ) → AreSingle order → AreApart order
apart order one place later less within same =
    let e = one place later (omega arith) within same in omega (arith, e)

-- where the number at a place comes from when two places change
abbrev Source : (i j k p : ℕ) → Type 0
Source i j k p = ((k ≡ i) × (p ≡ j)) ⊎ (((k ≢ i) × (k ≡ j) × (p ≡ i)) ⊎ ((k ≢ i) × (k ≢ j) × (p ≡ k)))

source : (i j k : ℕ) → (p : ℕ) × Source i j k p
source i j k =
    elim (cases_eq k i) [
      | inl first ↦ (j, inl (first, refl))
      | inr other ↦ elim (cases_eq k j) [ inl second ↦ (i, inr (inl (other, second, refl))) | inr none ↦ (k, inr (inr (other, none, refl))) ]
    ]

-- two places come from two
sources_differ : (i j a b p q : ℕ) → Source i j a p → Source i j b q → p ≡ q → a ≡ b
sources_differ i j a b p q (inl x) (inl y) same = omega (arith, x.0, y.0)
sources_differ i j a b p q (inl x) (inr (inl y)) same = omega (arith, x.0, x.1, y.1, y.2, same)
sources_differ i j a b p q (inl x) (inr (inr y)) same = absurd (y.1 (omega (arith, x.1, y.2, same)))
sources_differ i j a b p q (inr (inl x)) (inl y) same = omega (arith, x.1, x.2, y.0, y.1, same)
sources_differ i j a b p q (inr (inl x)) (inr (inl y)) same = omega (arith, x.1, y.1)
sources_differ i j a b p q (inr (inl x)) (inr (inr y)) same = absurd (y.0 (omega (arith, x.2, y.2, same)))
sources_differ i j a b p q (inr (inr x)) (inl y) same = absurd (x.1 (omega (arith, x.2, y.1, same)))
sources_differ i j a b p q (inr (inr x)) (inr (inl y)) same = absurd (x.0 (omega (arith, x.2, y.2, same)))
sources_differ i j a b p q (inr (inr x)) (inr (inr y)) same = omega (arith, x.2, y.2, same)

module _ (order : List ℕ) (i j : ℕ) (li : i < length order) (lj : j < length order) where
  abbrev changed : List ℕ
  changed = swap order i j

  from_source : (k p : ℕ) → Source i j k p → k < length order → (get_or changed k 0 ≡ get_or order p 0) × (p < length order)
  from_source k p (inl x) l =
      let moved = swapped_from_swap order changed i j 0 li lj refl in
      (ap (λ n. get_or changed n 0) x.0 ∙ moved.0 ∙ ap (λ n. get_or order n 0) (sym x.1), omega (arith, x.1))
  from_source k p (inr (inl x)) l =
      let moved = swapped_from_swap order changed i j 0 li lj refl in
      (ap (λ n. get_or changed n 0) x.1 ∙ moved.1 ∙ ap (λ n. get_or order n 0) (sym x.2), omega (arith, x.2))
  from_source k p (inr (inr x)) l =
      let moved = swapped_from_swap order changed i j 0 li lj refl in
      (moved.2 k x.0 x.1 ∙ ap (λ n. get_or order n 0) (sym x.2), omega (arith, x.2))

  swapped_single : AreSingle order → AreSingle changed
  swapped_single one a b la lb same =
      let long = length-swap order i j in
      let p = source i j a in
      let q = source i j b in
      let at_a = from_source a p.0 p.1 (omega (arith, la, long)) in
      let at_b = from_source b q.0 q.1 (omega (arith, lb, long)) in
      sources_differ i j a b p.0 q.0 p.1 q.1 (one p.0 q.0 at_a.1 at_b.1 (sym at_a.0 ∙ same ∙ at_b.0))

-- what is shuffled stands once where it stood once
pub apart_stays : (old new : List ℕ) → IsPermutation old new → AreApart old → AreApart new
apart_stays old new permuted once =
    apart new (IsPermutation-keeps old AreSingle (single old once) (λ order i j li lj one. swapped_single order i j li lj one) new permuted)

-- ---- the order of the numbers

range_from : (a n : ℕ) (xs : List ℕ) → length xs ≡ n → ((k : ℕ) → k < n → get_or xs k 0 ≡ a + k) → xs ≡ range_with_len a n
range_from a zero [] long each = refl
range_from a zero (x ∷ xs) long each = absurd (omega (arith, long))
range_from a (suc n) [] long each = absurd (omega (arith, long))
range_from a (suc n) (x ∷ xs) long each =
    let first : x ≡ a = each 0 (omega arith) ∙ omega arith in
    let rest : xs ≡ range_with_len (a + 1) n =
    range_from (a + 1) n xs (omega (arith, long))
    (λ k l. let later : a + suc k ≡ a + 1 + k = omega arith in each (suc k) (omega (arith, l)) ∙ later) in
    λ i. first i ∷ rest i

module _ (n : ℕ) (order : List ℕ) (own : LeadToThemselves n order) where
  pub own_range : order ≡ range_with_len 0 n
  own_range = range_from 0 n order own.long (λ k l. let same : k ≡ 0 + k = omega arith in own.own k l ∙ same)

  pub own_apart : AreApart order
  own_apart place later less within same =
      let a = own.own place (let long = own.long in omega (arith, less, within, long)) in
      let b = own.own later (let long = own.long in omega (arith, within, long)) in
      omega (arith, a, b, same, less)

  pub own_below : All (λ point. point < n) order
  own_below k d l =
      let inside : k < n = (let long = own.long in omega (arith, l, long)) in
      let at = own.own k inside in
      let same = slice_get-get_or order k 0 l in
      let other = slice_get-get_or order k d l in
      let both : Some (get_or order k 0) ≡ Some (get_or order k d) = sym same ∙ other in
      let one : get_or order k 0 ≡ get_or order k d = cc in
      omega (arith, at, one, inside)
