-- Walks along edges between numbers: whether there is one is decided, and where there is one there is one that passes no number twice.
use Rattle.std.proofs.Common.{◌≡◌, ◌<◌, ◌⊎◌, ℕ, zero, suc, List, [], ◌∷◌, ◌++◌, Contains, subst, arith, inl, inr}
use Rattle.std.proofs.lemmas.Bool.{cases_eq, cases_lt}
use Rattle.fab_ready_laws.proofs.Decisions.{IsDecided, both, decided_as, first_or_behind, listed_decided, one_of}

-- all of them are less
abbrev pub Below : (count : ℕ) → List ℕ → Type 0
Below count [] = Unit {0}
Below count (x ∷ xs) = (x < count) × Below count xs

-- none of them stands twice
abbrev pub Apart : List ℕ → Type 0
Apart [] = Unit {0}
Apart (x ∷ xs) = (Contains xs x → ⊥) × Apart xs

weaker : (count : ℕ) (xs : List ℕ) → Below count xs → Below (suc count) xs
weaker count [] below = tt
weaker count (x ∷ xs) below = (omega (arith, below.0), weaker count xs below.1)

below_joined : (count : ℕ) (xs ys : List ℕ) → Below count xs → Below count ys → Below count (xs ++ ys)
below_joined count [] ys first second = second
below_joined count (x ∷ xs) ys first second = (first.0, below_joined count xs ys first.1 second)

module _ (Edge : ℕ → ℕ → Type 0) where
  -- an edge from the first on to each, and from the last of them to the end
  abbrev pub On : (first : ℕ) → List ℕ → (end : ℕ) → Type 0
  On first [] end = Edge first end
  On first (second ∷ rest) end = Edge first second × On second rest end

  pub on_joined : (a : ℕ) (xs : List ℕ) (k : ℕ) (ys : List ℕ) (b : ℕ) → On a xs k → On k ys b → On a (xs ++ k ∷ ys) b
  on_joined a [] k ys b first second = (first, second)
  on_joined a (x ∷ xs) k ys b first second = (first.0, on_joined x xs k ys b first.1 second)

  -- ---- no number twice

  from_there : (m : ℕ) (rest : List ℕ) (b : ℕ) → On m rest b → Apart (m ∷ rest) → (a : ℕ) → Contains (m ∷ rest) a → (inner : List ℕ) × On a inner b × Apart (a ∷ inner)
  from_there m [] b on apart a there = elim (first_or_behind m a [] there) [
    | inl same ↦ subst (λ (x : ℕ). (inner : List ℕ) × On x inner b × Apart (x ∷ inner)) same ([], on, apart)
    | inr later ↦ absurd (omega (arith, later.1))
  ]
  from_there m (x ∷ rest) b on apart a there = elim (first_or_behind m a (x ∷ rest) there) [
    | inl same ↦ subst (λ (y : ℕ). (inner : List ℕ) × On y inner b × Apart (y ∷ inner)) same (x ∷ rest, on, apart)
    | inr later ↦ from_there x rest b on.1 apart.1 a later
  ]

  pub once_each : (a : ℕ) (rest : List ℕ) (b : ℕ) → On a rest b → (inner : List ℕ) × On a inner b × Apart (a ∷ inner)
  once_each a [] b on = ([], on, ((λ there. omega (arith, there.1)), tt))
  once_each a (m ∷ rest) b on =
      let next = once_each m rest b on.1 in
      elim (listed_decided (λ x y. cases_eq x y) (m ∷ next.0) a) [
        | inl there ↦ from_there m next.0 b next.1 next.2 a there
        | inr out ↦ (m ∷ next.0, (on.0, next.1), (out, next.2))
      ]

  -- ---- whether there is a walk

  module _ (each : (a b : ℕ) → IsDecided (Edge a b)) where
    -- a walk that passes only numbers below a count
    abbrev Reach : (count a b : ℕ) → Type 0
    Reach count a b = (inner : List ℕ) × Below count inner × On a inner b

    none_between : (a : ℕ) (inner : List ℕ) (b : ℕ) → Below zero inner → On a inner b → Edge a b
    none_between a [] b below on = on
    none_between a (x ∷ inner) b below on = absurd (omega (arith, below.0))

    -- it passes the last number, or it does not
    parted : (k a : ℕ) (inner : List ℕ) (b : ℕ) → Below (suc k) inner → On a inner b → Reach k a b ⊎ (Reach k a k × Reach k k b)
    parted k a [] b below on = inl ([], tt, on)
    parted k a (m ∷ inner) b below on = elim (cases_lt m k) [
      | inl less ↦
          elim (parted k m inner b below.1 on.1) [
            | inl past ↦ inl (m ∷ past.0, (less, past.1), (on.0, past.2))
            | inr two ↦ inr ((m ∷ two.0.0, (less, two.0.1), (on.0, two.0.2)), two.1)
          ]
      | inr not_less ↦ (
          let same : m ≡ k = omega (arith, below.0, not_less) in
          let first : Reach k a k = ([], tt, subst (Edge a) same on.0) in
          elim (parted k m inner b below.1 on.1) [
            | inl past ↦ inr (first, subst (λ (x : ℕ). Reach k x b) same past)
            | inr two ↦ inr (first, two.1)
          ])
    ]

    one_more : (k a b : ℕ) → Reach k a b ⊎ (Reach k a k × Reach k k b) → Reach (suc k) a b
    one_more k a b (inl past) = (past.0, weaker k past.0 past.1, past.2)
    one_more k a b (inr two) = (
      two.0.0 ++ k ∷ two.1.0,
      below_joined (suc k) two.0.0 (k ∷ two.1.0) (weaker k two.0.0 two.0.1) (omega arith, weaker k two.1.0 two.1.1),
      on_joined a two.0.0 k two.1.0 b two.0.2 two.1.2,
    )

    reach_decided : (count a b : ℕ) → IsDecided (Reach count a b)
    reach_decided zero a b = decided_as (λ edge. ([], tt, edge)) (λ reach. none_between a reach.0 b reach.1 reach.2) (each a b)
    reach_decided (suc k) a b =
        decided_as (one_more k a b) (λ reach. parted k a reach.0 b reach.1 reach.2)
        (one_of (reach_decided k a b) (both (reach_decided k a k) (reach_decided k k b)))

    -- where edges lead below a count
    module _ (count : ℕ) (within : (a b : ℕ) → Edge a b → b < count) where
      all_below : (a : ℕ) (inner : List ℕ) (b : ℕ) → On a inner b → Below count inner
      all_below a [] b on = tt
      all_below a (x ∷ inner) b on = (within a x on.0, all_below x inner b on.1)

      pub walk_decided : (a b : ℕ) → IsDecided ((inner : List ℕ) × On a inner b)
      walk_decided a b = decided_as (λ reach. (reach.0, reach.2)) (λ walk. (walk.0, all_below a walk.0 b walk.1, walk.1)) (reach_decided count a b)
