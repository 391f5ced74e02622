-- Lists in which nothing stands twice.
use Rattle.std.proofs.Common.{◌≡◌, ◌≢◌, ℕ, ◌<◌, List, [], ◌∷◌, ◌++◌, Bool, length, get_or, map, zero, suc, refl, sym, ◌∙◌, ap, subst, inl, inr, arith}
use Rattle.std.specs.List.{AllPairs, Contains, filter, flat_map}
use Rattle.std.proofs.lemmas.Bool.{cases_Bool}
use Rattle.std.proofs.lemmas.List.{get_or_default}
use Rattle.std.proofs.lemmas.List.Elements.{Contains-append_cases}
use Rattle.fab_model.specs.Tiles.{counted}
use Rattle.fab_ways_laws.proofs.fab_legal_Members.{from_mapped}
use Rattle.fab_ways_laws.proofs.fab_legal_SinkLaw.{in_flat}
use Rattle.fab_netlist.proofs.Members.{first_in, later_in}
use Rattle.fab_ways_laws.proofs.Lists.{from_counted, from_filter}

abbrev pub Once : {X : Type 0} → List X → Type 0
Once [] = Unit {0}
Once (x ∷ xs) = (Contains xs x → ⊥) × Once xs

pub once_append : {X : Type 0} (xs ys : List X) → Once xs → Once ys → ((x : X) → Contains xs x → Contains ys x → ⊥) → Once (xs ++ ys)
once_append [] ys first second apart = second
once_append {X} (x ∷ xs) ys first second apart =
    let here : Contains (xs ++ ys) x → ⊥ = λ h. elim (Contains-append_cases xs ys x h) [ inl l ↦ first.0 l | inr r ↦ apart x (0, omega arith, refl) r ] in
    (here, once_append xs ys first.1 second (λ y l r. apart y (suc l.0, omega (arith, l.1), l.2) r))

pub once_counted : {X : Type 0} (n : ℕ) (f : ℕ → X) → ((i j : ℕ) → i < n → j < n → f i ≡ f j → i ≡ j) → Once (counted n f)
unfolding counted
once_counted zero f apart = tt
once_counted {X} (suc n) f apart =
    let here : Contains (counted n (λ i. f (suc i))) (f 0) → ⊥ = λ h.
    (let found = from_counted n (λ i. f (suc i)) (f 0) h in let e = apart (suc found.0) 0 (omega (arith, found.1)) (omega arith) found.2 in omega (arith, e)) in
    (here, once_counted n (λ i. f (suc i)) (λ i j li lj e. let s = apart (suc i) (suc j) (omega (arith, li)) (omega (arith, lj)) e in omega (arith, s)))

-- equal items of a list that has each once stand at one place
pub once_at : {X : Type 0} (xs : List X) (i j : ℕ) (d : X) → Once xs → i < length xs → j < length xs → get_or xs i d ≡ get_or xs j d → i ≡ j
once_at [] i j d once li lj e = absurd (omega (arith, li))
once_at (x ∷ xs) zero zero d once li lj e = refl
once_at (x ∷ xs) zero (suc j) d once li lj e = absurd (once.0 (j, omega (arith, lj), get_or_default xs j x d (omega (arith, lj)) ∙ sym e))
once_at (x ∷ xs) (suc i) zero d once li lj e = absurd (once.0 (i, omega (arith, li), get_or_default xs i x d (omega (arith, li)) ∙ e))
once_at (x ∷ xs) (suc i) (suc j) d once li lj e = ap suc (once_at xs i j d once.1 (omega (arith, li)) (omega (arith, lj)) e)

pub once_pairs : {X : Type 0} (xs : List X) → AllPairs (λ first second. first ≢ second) xs → Once xs
once_pairs [] apart = tt
once_pairs (x ∷ xs) apart = (λ h. apart 0 (suc h.0) x (omega arith) (omega (arith, h.1)) (sym h.2), once_pairs xs (λ i j d less low. apart (suc i) (suc j) d (omega (arith, less)) (omega (arith, low))))

-- ---- lists that are filtered, mapped or joined

pub once_filter : {X : Type 0} (p : X → Bool) (xs : List X) → Once xs → Once (filter p xs)
once_filter p [] once = tt
once_filter {X} p (x ∷ xs) once =
    let rest = once_filter p xs once.1 in
    elim (cases_Bool (p x)) [
      | inl t ↦ rw t (λ h. once.0 (from_filter p xs x h).0, rest)
      | inr f ↦ rw f rest
    ]

pub once_map : {X Y : Type 0} (f : X → Y) (xs : List X) → ((a b : X) → Contains xs a → Contains xs b → f a ≡ f b → a ≡ b) → Once xs → Once (map f xs)
once_map f [] same once = tt
once_map {X} {Y} f (x ∷ xs) same once =
    let here : Contains (map f xs) (f x) → ⊥ = λ h. (
    let found = from_mapped f xs (f x) h in
    once.0 (subst (λ (z : X). Contains xs z) (same found.0 x (later_in x xs found.0 found.1) (first_in x xs x refl) found.2) found.1)) in
    (here, once_map f xs (λ a b m n e. same a b (later_in x xs a m) (later_in x xs b n) e) once.1)

-- pieces of which no two share an item
pub once_pieces : {X Y : Type 0} (n : ℕ) (at : ℕ → X) (piece : X → List Y) → ((i : ℕ) → i < n → Once (piece (at i))) → ((i j : ℕ) (y : Y) → i < n → j < n → Contains (piece (at i)) y → Contains (piece (at j)) y → i ≡ j)
    → Once (flat_map piece (counted n at))
unfolding counted
once_pieces zero at piece each apart = tt
once_pieces {X} {Y} (suc n) at piece each apart =
    once_append (piece (at 0)) (flat_map piece (counted n (λ i. at (suc i)))) (each 0 (omega arith))
    (once_pieces n (λ i. at (suc i)) piece (λ i low. each (suc i) (omega (arith, low)))
    (λ i j y li lj hi hj. (let same = apart (suc i) (suc j) y (omega (arith, li)) (omega (arith, lj)) hi hj in omega (arith, same))))
    (λ y here later.
    let found = in_flat piece (counted n (λ i. at (suc i))) y later in
    let place = from_counted n (λ i. at (suc i)) found.0 found.1 in
    let there : Contains (piece (at (suc place.0))) y = subst (λ (x : X). Contains (piece x) y) (sym place.2) found.2 in
    let same = apart 0 (suc place.0) y (omega arith) (omega (arith, place.1)) here there in
    omega (arith, same))

pub once_apart : {X : Type 0} (xs : List X) → Once xs → AllPairs (λ first second. first ≢ second) xs
once_apart xs once i j d less low same = let place = once_at xs i j d once (omega (arith, less, low)) low same in omega (arith, place, less)
