-- Where the covers that stand for a table have their values, its output has the table's value.
use Rattle.std.proofs.Common.{◌≡◌, ℕ, zero, suc, ◌+◌, ◌<◌, ◌≤◌, Bool, true, false, List, [], ◌∷◌, ◌++◌, map, take, length, get_or, Contains, nat_eq, nat_lt, if◌then◌else◌, refl, sym, ap, ◌∙◌, subst, inl, inr, arith, eqb-true}
use Rattle.std.proofs.lemmas.Bool.{cases_Bool}
use Rattle.std.proofs.lemmas.List.{length-map, length-take, map_push, take_more}
use Rattle.fab_bits.specs.Bits.{number}
use Rattle.fab_netlist.specs.Plain.{PlainCover}
use Rattle.fab_netlist.specs.WellMade.{table_bit}
use Rattle.fab_netlist.specs.Meaning.{cover_value}
use Rattle.fab_wide.specs.Split.{low_half, high_half, chooser, cover_with, taken, narrow}
use Rattle.fab_netlist.proofs.Members.{first_in, in_left, in_right}
use Rattle.fab_wide.proofs.Halves.{table_push, chooses}

len_taken : {X : Type 0} (n : ℕ) (xs : List X) → n ≤ length xs → length (take n xs) ≡ n
len_taken n xs few = omega (arith, length-take n xs, few)

module _ (now : ℕ → Bool) where
  -- the outputs of these covers have their values
  abbrev pub Holds : List PlainCover → Type 0
  Holds covers = (cover : PlainCover) → Contains covers cover → now cover.output ≡ cover_value cover now

  module _ (line : ℕ) (inputs : List ℕ) where
    -- the values of the first inputs
    abbrev bits : ℕ → List Bool
    bits n = map now (take n inputs)

    many_bits : (n : ℕ) → n ≤ length inputs → length (bits n) ≡ n
    many_bits n few = length-map (take n inputs) now ∙ len_taken n inputs few

    more_bits : (n : ℕ) → n < length inputs → bits (suc n) ≡ bits n ++ now (get_or inputs n 0) ∷ []
    more_bits n few =
        let one : suc n ≡ n + 1 = omega arith in
        ap bits one ∙ ap (map now) (take_more inputs n 0 few) ∙ map_push now (take n inputs) (get_or inputs n 0)

    -- a table at its last input
    last_input : (n table : ℕ) → n < length inputs →
        table_bit table (number (bits (suc n))) ≡ (if now (get_or inputs n 0) then table_bit (high_half n table) (number (bits n)) else table_bit
        (low_half n table) (number (bits n)))
    last_input n table few =
        ap (λ b. table_bit table (number b)) (more_bits n few)
        ∙ table_push table (bits n) (now (get_or inputs n 0))
        ∙ ap (λ k. if now (get_or inputs n 0) then table_bit (high_half k table) (number (bits n)) else table_bit (low_half k table) (number (bits n)))
        (many_bits n (omega (arith, few)))

    same_halves : (b : Bool) (x : Bool) → (if b then x else x) ≡ x
    same_halves true x = refl
    same_halves false x = refl

    -- by halves, down to covers of four inputs
    pub narrow_means : (n table output fresh : ℕ) → n ≤ length inputs → Holds (narrow line inputs n table output fresh) →
        now output ≡ table_bit table (number (bits n))
    narrow_means zero table output fresh few holds = holds (cover_with line [] output table) (first_in _ [] _ refl)
    narrow_means (suc n) table output fresh few holds =
        let low : ℕ = low_half n table in
        let high : ℕ = high_half n table in
        let last : Bool = now (get_or inputs n 0) in
        elim (cases_Bool (nat_lt n 4)) [
          | inl small ↦ (
              let leaf = cover_with line (take (suc n) inputs) output table in
              let as_leaf : narrow line inputs (suc n) table output fresh ≡ leaf ∷ [] = rw small refl in
              subst Holds as_leaf holds leaf (first_in leaf [] leaf refl))
          | inr large ↦ elim (cases_Bool (nat_eq low high)) [
            | inl same ↦ (
                let equal : low ≡ high = eqb-true low high same in
                let as_low : narrow line inputs (suc n) table output fresh ≡ narrow line inputs n low output fresh = rw (large, same) refl in
                let rest = narrow_means n low output fresh (omega (arith, few)) (subst Holds as_low holds) in
                rest
                ∙ sym (same_halves last (table_bit low (number (bits n))))
                ∙ ap (λ h. if last then table_bit h (number (bits n)) else table_bit low (number (bits n))) equal
                ∙ sym (last_input n table (omega (arith, few))))
            | inr other ↦ (
                let first = narrow line inputs n low fresh (2 + fresh) in
                let second = narrow line inputs n high (1 + fresh) (taken n low + (2 + fresh)) in
                let choose = cover_with line (fresh ∷ (1 + fresh) ∷ get_or inputs n 0 ∷ []) output chooser in
                let as_both : narrow line inputs (suc n) table output fresh ≡ first ++ (second ++ choose ∷ []) = rw (large, other) refl in
                let all : Holds (first ++ (second ++ choose ∷ [])) = subst Holds as_both holds in
                let a = narrow_means n low fresh (2 + fresh) (omega (arith, few))
                (λ cover among. all cover (in_left first (second ++ choose ∷ []) cover among)) in
                let b = narrow_means n high (1 + fresh) (taken n low + (2 + fresh)) (omega (arith, few))
                (λ cover among. all cover (in_right first (second ++ choose ∷ []) cover (in_left second (choose ∷ []) cover among))) in
                let c = all choose (in_right first (second ++ choose ∷ []) choose (in_right second (choose ∷ []) choose (first_in choose [] choose refl))) in
                c
                ∙ chooses (now fresh) (now (1 + fresh)) last ∙ (λ j. if last then b j else a j)
                ∙ sym (last_input n table (omega (arith, few))))
          ]
        ]
