-- Sets of listed points that grow step by step come to rest after as many steps as there are points.
use Rattle.std.proofs.Common.{◌≡◌, ◌⊎◌, ℕ, zero, suc, ◌+◌, ◌<◌, ◌≤◌, Bool, true, false, List, [], ◌∷◌, length, Contains, if◌then◌else◌, refl, sym, subst, inl, inr, arith}
use Rattle.std.proofs.lemmas.Bool.{cases_Bool, cases_lt, false≢true}

-- each point of the one set is in the other
abbrev pub IsPart : {P : Type 0} → (some all : P → Bool) → Type 0
IsPart {P} some all = (p : P) → some p ≡ true → all p ≡ true

-- ---- how many listed points a set has

abbrev one_if : Bool → ℕ
one_if true = 1
one_if false = 0

abbrev count : {P : Type 0} → (P → Bool) → List P → ℕ
count has [] = 0
count has (p ∷ points) = one_if (has p) + count has points

one_at_most : (b : Bool) → one_if b ≤ 1
one_at_most true = omega arith
one_at_most false = omega arith

one_grows : (a b : Bool) → (a ≡ true → b ≡ true) → one_if a ≤ one_if b
one_grows true b h = subst (λ (c : Bool). 1 ≤ one_if c) (sym (h refl)) (omega arith)
one_grows false b h = omega arith

no_more : (a b : Bool) → one_if b ≤ one_if a → b ≡ true → a ≡ true
no_more true b l h = refl
no_more false true l h = absurd (omega arith)
no_more false false l h = h

count_at_most : {P : Type 0} (has : P → Bool) (points : List P) → count has points ≤ length points
count_at_most has [] = omega arith
count_at_most has (p ∷ points) = omega (arith, one_at_most (has p), count_at_most has points)

module _ {P : Type 0} (some all : P → Bool) (part : IsPart some all) where
  count_grows : (points : List P) → count some points ≤ count all points
  count_grows [] = omega arith
  count_grows (p ∷ points) = omega (arith, one_grows (some p) (all p) (part p), count_grows points)

  -- a set with no more listed points has no other listed points
  none_more : (points : List P) → count all points ≤ count some points → (p : P) → Contains points p → all p ≡ true → some p ≡ true
  none_more [] l p c h = absurd (omega (arith, c.1))
  none_more (q ∷ points) l p (zero, b, e) h =
      let at : all q ≡ true = subst (λ r. all r ≡ true) (sym e) h in
      subst (λ r. some r ≡ true) e (no_more (some q) (all q) (omega (arith, count_grows points)) at)
  none_more (q ∷ points) l p (suc n, b, e) h =
      none_more points (omega (arith, one_grows (some q) (all q) (part q))) p (n, omega (arith, b), e) h

-- ---- stages

-- the set after k steps from the empty one
abbrev pub stage : {P : Type 0} → (step : (P → Bool) → P → Bool) → ℕ → P → Bool
stage step zero p = false
stage step (suc k) p = step (stage step k) p

-- the first stage up to k that has the point
abbrev pub entry : {P : Type 0} → (step : (P → Bool) → P → Bool) → ℕ → P → ℕ
entry step zero p = 0
entry step (suc k) p = if stage step k p then entry step k p else suc k

-- more points lead to more points
abbrev pub Grows : {P : Type 0} → (step : (P → Bool) → P → Bool) → Type 0
Grows {P} step = (some all : P → Bool) → IsPart some all → IsPart (step some) (step all)

module _ {P : Type 0} (step : (P → Bool) → P → Bool) (grows : Grows step) where
  stage_grows : (k : ℕ) → IsPart (stage step k) (stage step (suc k))
  stage_grows zero p h = absurd (false≢true h)
  stage_grows (suc k) p h = grows (stage step k) (stage step (suc k)) (stage_grows k) p h

  later : (j k : ℕ) → j ≤ k → IsPart (stage step j) (stage step k)
  later j zero l p h = let e : j ≡ zero = omega arith in subst (λ n. stage step n p ≡ true) e h
  later j (suc k) l p h =
      elim (cases_lt j (suc k)) [
        | inl s ↦ stage_grows k p (later j k (omega arith) p h)
        | inr g ↦ (let e : j ≡ suc k = omega arith in subst (λ n. stage step n p ≡ true) e h)
      ]

  -- ---- the first stage that has a point

  entered : (k : ℕ) (p : P) → stage step k p ≡ true → stage step (entry step k p) p ≡ true
  entered zero p h = h
  entered (suc k) p h =
      elim (cases_Bool (stage step k p)) [
        | inl t ↦ subst (λ (b : Bool). stage step (if b then entry step k p else suc k) p ≡ true) (sym t) (entered k p t)
        | inr f ↦ subst (λ (b : Bool). stage step (if b then entry step k p else suc k) p ≡ true) (sym f) h
      ]

  pub entry_within : (k : ℕ) (p : P) → entry step k p ≤ k
  entry_within zero p = omega arith
  entry_within (suc k) p =
      elim (cases_Bool (stage step k p)) [
        | inl t ↦ subst (λ (b : Bool). (if b then entry step k p else suc k) ≤ suc k) (sym t) (omega (arith, entry_within k p))
        | inr f ↦ subst (λ (b : Bool). (if b then entry step k p else suc k) ≤ suc k) (sym f) (omega arith)
      ]

  entry_first : (k j : ℕ) (p : P) → j ≤ k → stage step j p ≡ true → entry step k p ≤ j
  entry_first zero j p l h = omega arith
  entry_first (suc k) j p l h =
      elim (cases_lt j (suc k)) [
        | inl s ↦ subst (λ (b : Bool). (if b then entry step k p else suc k) ≤ j) (sym (later j k (omega arith) p h)) (entry_first k j p (omega arith) h)
        | inr g ↦ omega (arith, entry_within (suc k) p)
      ]

  -- what a point needs has come before it
  needed_before : (k e : ℕ) (p q : P) → e ≤ k → stage step e p ≡ true → ((some : P → Bool) → step some p ≡ true → some q ≡ true) →
      (stage step k q ≡ true) × (entry step k q < e)
  needed_before k zero p q l h needs = absurd (false≢true h)
  needed_before k (suc j) p q l h needs =
      let there : stage step j q ≡ true = needs (stage step j) h in
      (later j k (omega arith) q there, omega (arith, entry_first k j q (omega arith) there))

  pub comes_before : (k : ℕ) (p q : P) → stage step k p ≡ true → ((some : P → Bool) → step some p ≡ true → some q ≡ true) →
      (stage step k q ≡ true) × (entry step k q < entry step k p)
  comes_before k p q h needs = needed_before k (entry step k p) p q (entry_within k p) (entered k p h) needs

  -- ---- the last stage

  -- the step after this stage adds nothing
  abbrev pub Rests : ℕ → Type 0
  Rests k = IsPart (stage step (suc k)) (stage step k)

  rests_from : (j k : ℕ) → j ≤ k → Rests j → Rests k
  rests_from j zero l h = let e : j ≡ zero = omega arith in subst Rests e h
  rests_from j (suc k) l h =
      elim (cases_lt j (suc k)) [
        | inl s ↦ grows (stage step (suc k)) (stage step k) (rests_from j k (omega arith) h)
        | inr g ↦ (let e : j ≡ suc k = omega arith in subst Rests e h)
      ]

  module _ (points : List P) (listed : (some : P → Bool) (p : P) → step some p ≡ true → Contains points p) where
    -- each step before the last adds a listed point
    rests_or_more : (k : ℕ) → ((j : ℕ) × (j < k) × Rests j) ⊎ (k ≤ count (stage step k) points)
    rests_or_more zero = inr (omega arith)
    rests_or_more (suc k) =
        elim (rests_or_more k) [
          | inl r ↦ inl (r.0, omega (arith, r.1), r.2)
          | inr l ↦ elim (cases_lt (count (stage step k) points) (count (stage step (suc k)) points)) [
            | inl more ↦ inr (omega arith)
            | inr same ↦ inl (
              k,
              omega arith,
              λ p h. none_more (stage step k) (stage step (suc k)) (stage_grows k) points same p (listed (stage step k) p h) h,
            )
          ]
        ]

    -- as many steps as there are points are enough
    pub rests : Rests (length points)
    rests =
        elim (rests_or_more (suc (length points))) [
          | inl r ↦ rests_from r.0 (length points) (omega (arith, r.1)) r.2
          | inr l ↦ absurd (omega (arith, count_at_most (stage step (suc (length points))) points))
        ]
