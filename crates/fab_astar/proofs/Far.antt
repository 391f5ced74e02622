-- What is among the entries of greater keys after an insertion.
use Rattle.std.proofs.Common.{◌≡◌, ◌⊎◌, ℕ, ◌≤◌, length, List, [], ◌∷◌, refl, sym, ap, inl, inr, arith}
use Rattle.std.specs.declared.cmp.Ordering.{Ordering}
use Rattle.std.specs.declared.cmp.Ordering.TheVariants.{Less, Equal, Greater}
use Rattle.std.specs.Ordering.{match_ordering, nat_cmp, ordering_then}
use Rattle.std.specs.BTreeSet.{insert_key}
use Rattle.std.proofs.lemmas.Map.Lookups.{exact_unsigned, exact_pairs}
use Rattle.std.specs.Cmp.{nat_cmp_is}
use Rattle.std.proofs.lemmas.Bool.{cases_lt}
use Rattle.std.specs.BTreeMap.Range.{IsLtBy}
use Rattle.std.specs.List.{All, AllByRecursion}
use Rattle.std.proofs.lemmas.List.Elements.{recursion_from_All}
use Rattle.fab_astar.specs.Queue.{IsFar}

-- how the set compares its entries
abbrev pub pair_cmp : ℕ × ℕ → ℕ × ℕ → Ordering
pair_cmp x y = ordering_then (nat_cmp x.0 y.0) (nat_cmp x.1 y.1)

pair_exact : (x y : ℕ × ℕ) → pair_cmp x y ≡ Equal → x ≡ y
pair_exact = exact_pairs nat_cmp nat_cmp exact_unsigned exact_unsigned

-- by the three answers of a comparison
kept_by : (o : Ordering) (k e : ℕ × ℕ) (es fs : List (ℕ × ℕ)) (key node : ℕ) → (IsFar es key node → IsFar fs key node) → IsFar (e ∷ es) key node → IsFar (match_ordering o (k ∷ e ∷ es) (e ∷ es) (e ∷ fs)) key node
kept_by Less k e es fs key node more h = inr h
kept_by Equal k e es fs key node more h = h
kept_by Greater k e es fs key node more (inl h) = inl h
kept_by Greater k e es fs key node more (inr h) = inr (more h)

pub IsFar-kept : (es : List (ℕ × ℕ)) (k : ℕ × ℕ) (key node : ℕ) → IsFar es key node → IsFar (insert_key pair_cmp es k) key node
IsFar-kept [] k key node h = absurd h
IsFar-kept (e ∷ es) k key node h = kept_by (pair_cmp k e) k e es (insert_key pair_cmp es k) key node (IsFar-kept es k key node) h

here_by : (o : Ordering) (k e : ℕ × ℕ) (es fs : List (ℕ × ℕ)) → (o ≡ Equal → k ≡ e) → IsFar fs k.0 k.1 → IsFar (match_ordering o (k ∷ e ∷ es) (e ∷ es) (e ∷ fs)) k.0 k.1
here_by Less k e es fs same more = inl (refl, refl)
here_by Equal k e es fs same more = inl (ap (λ (x : ℕ × ℕ). x.0) (sym (same refl)), ap (λ (x : ℕ × ℕ). x.1) (sym (same refl)))
here_by Greater k e es fs same more = inr more

pub IsFar-here : (es : List (ℕ × ℕ)) (k : ℕ × ℕ) → IsFar (insert_key pair_cmp es k) k.0 k.1
IsFar-here [] k = inl (refl, refl)
IsFar-here (e ∷ es) k = here_by (pair_cmp k e) k e es (insert_key pair_cmp es k) (pair_exact k e) (IsFar-here es k)

cases_by : (o : Ordering) (k e : ℕ × ℕ) (es fs : List (ℕ × ℕ)) (key node : ℕ) → (IsFar fs key node → ((key ≡ k.0) × (node ≡ k.1)) ⊎ IsFar es key node) → IsFar (match_ordering o (k ∷ e ∷ es) (e ∷ es) (e ∷ fs)) key node → ((key ≡ k.0) × (node ≡ k.1)) ⊎ IsFar (e ∷ es) key node
cases_by Less k e es fs key node more (inl h) = inl (sym h.0, sym h.1)
cases_by Less k e es fs key node more (inr h) = inr h
cases_by Equal k e es fs key node more h = inr h
cases_by Greater k e es fs key node more (inl h) = inr (inl h)
cases_by Greater k e es fs key node more (inr h) = elim (more h) [ inl a ↦ inl a | inr b ↦ inr (inr b) ]

pub IsFar-cases : (es : List (ℕ × ℕ)) (k : ℕ × ℕ) (key node : ℕ) → IsFar (insert_key pair_cmp es k) key node → ((key ≡ k.0) × (node ≡ k.1)) ⊎ IsFar es key node
IsFar-cases [] k key node (inl h) = inl (sym h.0, sym h.1)
IsFar-cases [] k key node (inr h) = absurd h
IsFar-cases (e ∷ es) k key node h = cases_by (pair_cmp k e) k e es (insert_key pair_cmp es k) key node (IsFar-cases es k key node) h

below : (a b : ℕ) (o : Ordering) → ordering_then (nat_cmp a b) o ≡ Less → a ≤ b
below a b o h = elim (cases_lt b a) [
  | inl l ↦ absurd (let e = nat_cmp_is a b Greater l in let q = rw (← e) at h in cc)
  | inr l ↦ l
]

above_each : (key u : ℕ) (es : List (ℕ × ℕ)) → AllByRecursion (IsLtBy pair_cmp (key, u)) es → (k v : ℕ) → IsFar es k v → key ≤ k
above_each key u [] h k v w = absurd w
above_each key u (e ∷ es) h k v (inl w) = omega (arith, below key e.0 (nat_cmp u e.1) h.0, w.0)
above_each key u (e ∷ es) h k v (inr w) = above_each key u es h.1 k v w

-- no entry behind the first is of a lesser key
pub above_all : (key u : ℕ) (es : List (ℕ × ℕ)) → All (IsLtBy pair_cmp (key, u)) es → (k v : ℕ) → IsFar es k v → key ≤ k
above_all key u es h = above_each key u es (recursion_from_All (IsLtBy pair_cmp (key, u)) es h)

pub IsFar-none : (es : List (ℕ × ℕ)) → length es ≡ 0 → (k v : ℕ) → IsFar es k v → ⊥
IsFar-none [] h k v w = w
IsFar-none (e ∷ es) h k v w = absurd (omega arith)
