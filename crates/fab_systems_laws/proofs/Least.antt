-- Rounds that begin with an unknown set lead up to the least solution.
use Rattle.std.proofs.Common.{◌≡◌, ◌⊎◌, ℕ, zero, suc, ◌+◌, ◌<◌, ◌≤◌, Bool, true, false, List, [], ◌∷◌, length, Contains, if◌then◌else◌, refl, sym, ◌∙◌, subst, inl, inr, arith}
use Rattle.std.proofs.lemmas.Bool.{cases_Bool, cases_lt}
use Rattle.fab_systems_laws.specs.System.{AreListed, IsSettledFrom, IsSettledOn}
use Rattle.fab_systems_laws.specs.Ternary.{Tern, no, yes, unknown, known, IsBelow, AreBelow, IsMonotone, IsApproximation, IsExact, Approximates, IsLeast}
use Rattle.fab_systems_laws.proofs.Order.{below_equal, below_trans, below_both}
use Rattle.fab_systems_laws.proofs.Rounds.{rounds, round_none, round_inside, round_outside}

abbrev pub one_if_known : Tern → ℕ
one_if_known no = 1
one_if_known yes = 1
one_if_known unknown = 0

-- how many points of the list are known
abbrev pub known_count : {P : Type 0} → (P → Tern) → List P → ℕ
known_count t [] = 0
known_count t (p ∷ points) = one_if_known (t p) + known_count t points

one_at_most : (t : Tern) → one_if_known t ≤ 1
one_at_most no = omega arith
one_at_most yes = omega arith
one_at_most unknown = omega arith

one_grows : (t u : Tern) → IsBelow t u → one_if_known t ≤ one_if_known u
one_grows no u h = subst (λ (v : Tern). 1 ≤ one_if_known v) h (omega arith)
one_grows yes u h = subst (λ (v : Tern). 1 ≤ one_if_known v) h (omega arith)
one_grows unknown u h = omega arith

-- where no more is known, nothing has changed
no_more : (t u : Tern) → IsBelow t u → one_if_known u ≤ one_if_known t → IsBelow u t
no_more no u h l = below_equal u no (sym h)
no_more yes u h l = below_equal u yes (sym h)
no_more unknown no h l = absurd (omega arith)
no_more unknown yes h l = absurd (omega arith)
no_more unknown unknown h l = tt

count_at_most : {P : Type 0} (t : P → Tern) (points : List P) → known_count t points ≤ length points
count_at_most t [] = omega arith
count_at_most t (p ∷ points) = omega (arith, one_at_most (t p), count_at_most t points)

count_grows : {P : Type 0} (t u : P → Tern) (points : List P) → AreBelow t u → known_count t points ≤ known_count u points
count_grows t u [] h = omega arith
count_grows t u (p ∷ points) h = omega (arith, one_grows (t p) (u p) (h p), count_grows t u points h)

-- where no more listed points are known, the listed points are the same
none_more : {P : Type 0} (t u : P → Tern) (points : List P) → AreBelow t u → known_count u points ≤ known_count t points →
    (p : P) → Contains points p → IsBelow (u p) (t p)
none_more t u [] h l p c = absurd (omega (arith, c.1))
none_more t u (q ∷ points) h l p (zero, b, e) =
    subst (λ r. IsBelow (u r) (t r)) e (no_more (t q) (u q) (h q) (omega (arith, count_grows t u points h)))
none_more t u (q ∷ points) h l p (suc n, b, e) =
    none_more t u points h (omega (arith, one_grows (t q) (u q) (h q))) p (n, omega (arith, b), e)

-- A ternary reading that is monotone, and exact once all is known, approximates.
pub exact_approximates : {P : Type 0} (has : P → Bool) (show : P → (P → Tern) → Tern) (next : P → (P → Bool) → Bool) →
    IsMonotone has show → IsExact has show next → IsApproximation has show next
exact_approximates has show next monotone exact p t a h below =
    below_trans (show p t) (show p (λ q. known (a q))) (known (next p a)) (monotone p t (λ q. known (a q)) h below) (below_equal (show p (λ q. known (a q))) (known (next p a)) (exact p a h))

-- unknown in the set, and elsewhere as it was
abbrev pub blank : {P : Type 0} → (P → Bool) → (old : P → Tern) → P → Tern
blank has old p = if has p then unknown else old p

module _ {P : Type 0} (has : P → Bool) (show : P → (P → Tern) → Tern) (old : P → Tern) where
  abbrev pub round : ℕ → P → Tern
  round k = rounds has show (blank has old) k

  begins_unknown : (p : P) → has p ≡ true → round zero p ≡ unknown
  begins_unknown p h = round_none has show (blank has old) p ∙ rw h refl

  outside_stays : (k : ℕ) (p : P) → has p ≡ false → round k p ≡ old p
  outside_stays k p h = round_outside has show (blank has old) k p h ∙ rw h refl

  -- all rounds stay below what bounds the other points and is closed under what the set shows
  pub rounds_below : (u : P → Tern) → ((p : P) → has p ≡ false → IsBelow (old p) (u p)) →
      ((p : P) (t : P → Tern) → has p ≡ true → AreBelow t u → IsBelow (show p t) (u p)) → (k : ℕ) → AreBelow (round k) u
  rounds_below u others closed zero p =
      elim (cases_Bool (has p)) [
        | inl h ↦ subst (λ (v : Tern). IsBelow v (u p)) (sym (begins_unknown p h)) tt
        | inr f ↦ subst (λ (v : Tern). IsBelow v (u p)) (sym (outside_stays zero p f)) (others p f)
      ]
  rounds_below u others closed (suc k) p =
      elim (cases_Bool (has p)) [
        | inl h ↦ subst (λ (v : Tern). IsBelow v (u p)) (sym (round_inside has show (blank has old) k p h)) (closed p (round k) h (rounds_below u others closed k))
        | inr f ↦ subst (λ (v : Tern). IsBelow v (u p)) (sym (outside_stays (suc k) p f)) (others p f)
      ]

  module _ (monotone : IsMonotone has show) where
    below_solution : (u : P → Tern) → IsSettledFrom has show old u → (k : ℕ) → AreBelow (round k) u
    below_solution u solves k =
        rounds_below u
        (λ p f. below_equal (old p) (u p) (sym (solves.others p f)))
        (λ p t h b. subst (λ (v : Tern). IsBelow (show p t) v) (sym (solves.settled p h)) (monotone p t u h b))
        k

    outside_equal : (j k : ℕ) (p : P) → has p ≡ false → IsBelow (round j p) (round k p)
    outside_equal j k p f = below_equal (round j p) (round k p) (outside_stays j p f ∙ sym (outside_stays k p f))

    -- a step keeps the order of two rounds
    next_below : (j k : ℕ) → AreBelow (round j) (round k) → AreBelow (round (suc j)) (round (suc k))
    next_below j k b p =
        elim (cases_Bool (has p)) [
          | inl h ↦ below_trans (round (suc j) p) (show p (round j)) (round (suc k) p)
              (below_equal (round (suc j) p) (show p (round j)) (round_inside has show (blank has old) j p h))
              (subst (λ (v : Tern). IsBelow (show p (round j)) v) (sym (round_inside has show (blank has old) k p h)) (monotone p (round j) (round k) h b))
          | inr f ↦ outside_equal (suc j) (suc k) p f
        ]

    round_grows : (k : ℕ) → AreBelow (round k) (round (suc k))
    round_grows zero p =
        elim (cases_Bool (has p)) [
          | inl h ↦ subst (λ (v : Tern). IsBelow v (round (suc zero) p)) (sym (begins_unknown p h)) tt
          | inr f ↦ outside_equal zero (suc zero) p f
        ]
    round_grows (suc k) p = next_below k (suc k) (round_grows k) p

    -- the round after this one adds nothing
    abbrev IsLast : ℕ → Type 0
    IsLast k = AreBelow (round (suc k)) (round k)

    last_from : (j k : ℕ) → j ≤ k → IsLast j → IsLast k
    last_from j zero l h = let e : j ≡ zero = omega arith in subst IsLast e h
    last_from j (suc k) l h =
        elim (cases_lt j (suc k)) [
          | inl s ↦ next_below (suc k) k (last_from j k (omega arith) h)
          | inr g ↦ (let e : j ≡ suc k = omega arith in subst IsLast e h)
        ]

    module _ (points : List P) (listed : AreListed has points) where
      last_if : (k : ℕ) → known_count (round (suc k)) points ≤ known_count (round k) points → IsLast k
      last_if k l p =
          elim (cases_Bool (has p)) [
            | inl h ↦ none_more (round k) (round (suc k)) points (round_grows k) l p (listed p h)
            | inr f ↦ outside_equal (suc k) k p f
          ]

      -- each round before the last makes one more point known
      last_or_more : (k : ℕ) → ((j : ℕ) × (j < k) × IsLast j) ⊎ (k ≤ known_count (round k) points)
      last_or_more zero = inr (omega arith)
      last_or_more (suc k) =
          elim (last_or_more k) [
            | inl s ↦ inl (s.0, omega (arith, s.1), s.2)
            | inr l ↦ elim (cases_lt (known_count (round k) points) (known_count (round (suc k)) points)) [
              | inl more ↦ inr (omega arith)
              | inr same ↦ inl (k, omega arith, last_if k same)
            ]
          ]

      is_last : IsLast (length points)
      is_last =
          elim (last_or_more (suc (length points))) [
            | inl s ↦ last_from s.0 (length points) (omega (arith, s.1)) s.2
            | inr l ↦ absurd (omega (arith, count_at_most (round (suc (length points))) points))
          ]

      -- as many rounds as there are points lead to the least solution
      pub rounds_least : IsLeast has show old (round (length points))
      rounds_least = record {
        solves = record {
          settled = λ p h. below_both (round (length points) p) (round (suc (length points)) p) (round_grows (length points) p) (is_last p) ∙ round_inside has show (blank has old) (length points) p h;
          others = outside_stays (length points);
        };
        least = λ u solves. below_solution u solves (length points);
      }

      -- what the least solution knows holds in a settled assignment
      pub least_approximates : (next : P → (P → Bool) → Bool) → IsApproximation has show next → (t : P → Tern) → IsLeast has show old t →
          (a : P → Bool) → IsSettledOn has next a → ((p : P) → has p ≡ false → IsBelow (old p) (known (a p))) → Approximates t a
      least_approximates next approximation t is_least a settled others p =
          below_trans (t p) (round (length points) p) (known (a p))
          (is_least.least (round (length points)) rounds_least.solves p)
          (rounds_below (λ q. known (a q)) others (λ q u h b. subst (λ (v : Bool). IsBelow (show q u) (known v)) (sym (settled q h)) (approximation q u a h b)) (length points) p)
