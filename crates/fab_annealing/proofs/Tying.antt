-- The nets that tie items to others, found one by one.
use Rattle.std.proofs.Common.{◌≡◌, ◌⊎◌, ℕ, ◌+◌, ◌<◌, ◌++◌, Bool, true, false, List, [], ◌∷◌, length, get_or, zero, suc, Vec, Global, refl, sym, ◌∙◌, ap, subst, inl, inr, eqb, arith}
use Rattle.std.proofs.lemmas.Bool.{cases_eq}
use Rattle.std.proofs.lemmas.Bool.Decides.{Decides-eqb}
use Rattle.std.proofs.lemmas.List.{get_or_append_left, get_or_default, get_or_push, length_push}
use Rattle.std.proofs.lemmas.List.Elements.{All-contains, Contains-get_or, contains_decides}
use Rattle.std.specs.List.{All, Contains, IsAnyAnswer, slice_get}
use Rattle.fab_annealing.specs.declared.nets.Nets.{Nets}
use Rattle.fab_annealing.specs.Measured.{IsNets, numbers_of, nets_of, net_count, item_count}
use Rattle.fab_annealing.specs.inner.Tied.{AreDistinct, IsAlone, AreTies}
use Rattle.fab_annealing.proofs.Exchanging.{true_false}

-- what is looked for among the ties
pub contained : (slice ties : List ℕ) (net : ℕ) (r : Bool) → slice ≡ ties → IsAnyAnswer (λ y b. eqb y net ≡ b) slice r → r ≡ true → Contains ties net
contained slice ties net r same h e =
    let w = (contains_decides eqb Decides-eqb slice net r h).0 e in
    subst (λ (ns : List ℕ). Contains ns net) same (w.0, w.1, w.2 net)

pub not_contained : (slice ties : List ℕ) (net : ℕ) (r : Bool) → slice ≡ ties → IsAnyAnswer (λ y b. eqb y net ≡ b) slice r → r ≡ false → Contains ties net → ⊥
not_contained slice ties net r same h e among =
    let there = subst (λ (ns : List ℕ). Contains ns net) (sym same) among in
    true_false (sym ((contains_decides eqb Decides-eqb slice net r h).1 (there.0, there.1, λ d. get_or_default slice there.0 d net there.1 ∙ there.2)) ∙ e)

pub distinct_more : (ties : List ℕ) (net : ℕ) → AreDistinct ties → (Contains ties net → ⊥) → AreDistinct (ties ++ net ∷ [])
distinct_more ties net distinct without first second low1 low2 e =
    let last = get_or_push ties net 0 (length ties) refl in
    let front : (k : ℕ) → k < length ties → get_or (ties ++ net ∷ []) k 0 ≡ get_or ties k 0 = λ k l. get_or_append_left ties (net ∷ []) 0 k l in
    let fresh : (k : ℕ) → k < length ties → get_or ties k 0 ≡ net → ⊥ = λ k l same. without (subst (λ n. Contains ties n) same (Contains-get_or ties k 0 l)) in
    let l1 : first < length ties + 1 = omega (arith, low1, length_push ties net) in
    let l2 : second < length ties + 1 = omega (arith, low2, length_push ties net) in
    elim (cases_eq first (length ties)) [
      | inl f ↦ elim (cases_eq second (length ties)) [
        | inl g ↦ f ∙ sym g
        | inr m ↦
            let under : second < length ties = omega arith in
            absurd (fresh second under (sym (front second under) ∙ sym e ∙ ap (λ k. get_or (ties ++ net ∷ []) k 0) f ∙ last))
      ]
      | inr n ↦
          let under_first : first < length ties = omega arith in
          elim (cases_eq second (length ties)) [
            | inl g ↦ absurd (fresh first under_first (sym (front first under_first) ∙ e ∙ ap (λ k. get_or (ties ++ net ∷ []) k 0) g ∙ last))
            | inr m ↦
                let under : second < length ties = omega arith in
                distinct first second under_first under (sym (front first under_first) ∙ e ∙ front second under)
          ]
    ]

-- one more net is among the ties or has no other item
pub whole_more : (nets : Nets) (item index : ℕ) (touching ties after : List ℕ) → ((net : ℕ) → Contains ties net → Contains after net)
    → Contains after (get_or touching index 0) ⊎ IsAlone nets item (get_or touching index 0)
    → ((k : ℕ) → k < index → Contains ties (get_or touching k 0) ⊎ IsAlone nets item (get_or touching k 0)) → (k : ℕ) → k < index + 1
    → Contains after (get_or touching k 0) ⊎ IsAlone nets item (get_or touching k 0)
whole_more nets item index touching ties after more here before k low = elim (cases_eq k index) [
  | inl e ↦ subst (λ m. Contains after (get_or touching m 0) ⊎ IsAlone nets item (get_or touching m 0)) (sym e) here
  | inr n ↦ elim (before k (omega arith)) [
    | inl among ↦ inl (more (get_or touching k 0) among)
    | inr alone ↦ inr alone
  ]
]

pub whole_all : (nets : Nets) (item : ℕ) (touching ties : List ℕ)
    → ((k : ℕ) → k < length touching → Contains ties (get_or touching k 0) ⊎ IsAlone nets item (get_or touching k 0))
    → All (λ net. Contains ties net ⊎ IsAlone nets item net) touching
whole_all nets item touching ties h k d low = subst (λ net. Contains ties net ⊎ IsAlone nets item net) (get_or_default touching k 0 d low) (h k low)

-- ---- lists of ties one behind the other

pushed_here : (lists : List (Vec ℕ Global)) (list : Vec ℕ Global) (k : ℕ) → length lists ≡ k → numbers_of (slice_get (lists ++ list ∷ []) k) ≡ list.items
pushed_here [] list zero same = refl
pushed_here [] list (suc k) same = absurd (omega (arith, same))
pushed_here (first ∷ lists) list zero same = absurd (omega (arith, same))
pushed_here (first ∷ lists) list (suc k) same = pushed_here lists list k (omega arith)

pushed_there : (lists : List (Vec ℕ Global)) (list : Vec ℕ Global) (k : ℕ) → k < length lists
    → numbers_of (slice_get (lists ++ list ∷ []) k) ≡ numbers_of (slice_get lists k)
pushed_there [] list k low = absurd (omega (arith, low))
pushed_there (first ∷ lists) list zero low = refl
pushed_there (first ∷ lists) list (suc k) low = pushed_there lists list k (omega arith)

pub each_more : (nets : Nets) (lists : List (Vec ℕ Global)) (list : Vec ℕ Global) (count : ℕ) → length lists ≡ count → AreTies nets count list.items
    → ((item : ℕ) → item < count → AreTies nets item (numbers_of (slice_get lists item)))
    → (item : ℕ) → item < count + 1 → AreTies nets item (numbers_of (slice_get (lists ++ list ∷ []) item))
each_more nets lists list count same here before item low = elim (cases_eq item count) [
  | inl e ↦ subst (λ i. AreTies nets i (numbers_of (slice_get (lists ++ list ∷ []) i))) (sym e)
      (subst (λ (ns : List ℕ). AreTies nets count ns) (sym (pushed_here lists list count same)) here)
  | inr n ↦ let under : item < count = omega arith in subst (λ (ns : List ℕ). AreTies nets item ns) (sym (pushed_there lists list item (omega arith)))
      (before item under)
]

-- ties are nets that there are
pub ties_inside : (nets : Nets) (item : ℕ) (ties : List ℕ) (count : ℕ) → IsNets nets → item < item_count nets → count ≡ net_count nets → AreTies nets item ties
    → All (λ net. net < count) ties
ties_inside nets item ties count good inside same h k d low =
    let less = All-contains (λ n. n < net_count nets) (nets_of nets item) (get_or ties k d) (good.touched item inside) (h.touching k d low) in
    omega (arith, same, less)
