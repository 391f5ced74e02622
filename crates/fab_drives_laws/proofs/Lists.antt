-- What lists contain, and what holds of all that they contain.
use Rattle.std.proofs.Common.{◌≡◌, ℕ, zero, suc, ◌+◌, Bool, true, false, cond, List, [], ◌∷◌, filter, refl, sym, ap, subst, ◌∙◌, arith, inl, inr, ◌⊎◌, Option, Some, None, All, Contains, slice_get, find}
use Rattle.std.specs.List.{flat_map, filter_map, cons_option, enumerate_from}
use Rattle.std.proofs.lemmas.Bool.{cases_Bool, false≢true}
use Rattle.std.proofs.lemmas.List.Elements.{All-nil, All-cons, All-head, All-tail, Contains-append_left, Contains-append_right}
use Rattle.fab_tile_drives_laws.proofs.Members.{contains_first, contains_later, contains_at, get_enumerated}

-- ---- what lists contain

pub none_there : {X : Type 0} (x : X) → Contains [] x → ⊥
none_there x there = let within = there.1 in omega arith

-- the first is it, or it is among the others
pub first_or_later : {X : Type 0} (first : X) (xs : List X) (x : X) → Contains (first ∷ xs) x → (first ≡ x) ⊎ Contains xs x
first_or_later first xs x (zero, within, is) = inl is
first_or_later first xs x (suc k, within, is) = inr (k, omega arith, is)

pub contains_flat : {X Y : Type 0} (f : X → List Y) (xs : List X) (x : X) (y : Y) → Contains xs x → Contains (f x) y → Contains (flat_map f xs) y
contains_flat f [] x y there inside = absurd (none_there x there)
contains_flat f (first ∷ xs) x y there inside =
    elim (first_or_later first xs x there) [
      | inl is ↦ Contains-append_left (f first) (flat_map f xs) y (subst (λ z. Contains (f z) y) (sym is) inside)
      | inr other ↦ Contains-append_right (f first) (flat_map f xs) y (contains_flat f xs x y other inside)
    ]

kept_option : {X : Type 0} (found : Option X) (xs : List X) (x : X) → (found ≡ Some x) ⊎ Contains xs x → Contains (cons_option found xs) x
kept_option None xs x (inl is) = absurd cc
kept_option None xs x (inr other) = other
kept_option (Some first) xs x (inl is) = let same : first ≡ x = cc in subst (Contains (first ∷ xs)) same (contains_first first xs)
kept_option (Some first) xs x (inr other) = contains_later first xs x other

pub contains_found : {X Y : Type 0} (f : X → Option Y) (xs : List X) (x : X) (y : Y) → Contains xs x → f x ≡ Some y → Contains (filter_map f xs) y
contains_found f [] x y there is = absurd (none_there x there)
contains_found f (first ∷ xs) x y there is =
    elim (first_or_later first xs x there) [
      | inl same ↦ kept_option (f first) (filter_map f xs) y (inl (ap f same ∙ is))
      | inr other ↦ kept_option (f first) (filter_map f xs) y (inr (contains_found f xs x y other is))
    ]

kept_if : {X : Type 0} (passes : Bool) (first : X) (xs : List X) (x : X) → ((passes ≡ true) × (first ≡ x)) ⊎ Contains xs x → Contains (cond passes (first ∷ xs) xs) x
kept_if true first xs x (inl is) = subst (Contains (first ∷ xs)) is.1 (contains_first first xs)
kept_if true first xs x (inr other) = contains_later first xs x other
kept_if false first xs x (inl is) = absurd (false≢true is.0)
kept_if false first xs x (inr other) = other

pub contains_kept : {X : Type 0} (test : X → Bool) (xs : List X) (x : X) → Contains xs x → test x ≡ true → Contains (filter test xs) x
contains_kept test [] x there passes = absurd (none_there x there)
contains_kept test (first ∷ xs) x there passes =
    elim (first_or_later first xs x there) [
      | inl is ↦ kept_if (test first) first (filter test xs) x (inl (ap test is ∙ passes, is))
      | inr other ↦ kept_if (test first) first (filter test xs) x (inr (contains_kept test xs x other passes))
    ]

-- an element behind its number
pub contains_numbered : {X : Type 0} (xs : List X) (i : ℕ) (x : X) → slice_get xs i ≡ Some x → Contains (enumerate_from 0 xs) (i, x)
contains_numbered xs i x is =
    let same : 0 + i ≡ i = omega arith in
    contains_at (enumerate_from 0 xs) i (i, x) (get_enumerated 0 xs i x is ∙ ap (λ n. Some (n, x)) same)

-- ---- what holds of all

with_option : {X : Type 0} (P : X → Type 0) (found : Option X) (xs : List X) → ((x : X) → found ≡ Some x → P x) → All P xs → All P (cons_option found xs)
with_option P None xs is all = all
with_option P (Some x) xs is all = All-cons P x xs (is x refl) all

pub all_found : {X Y : Type 0} (P : Y → Type 0) (f : X → Option Y) (xs : List X) → All (λ x. (y : Y) → f x ≡ Some y → P y) xs → All P (filter_map f xs)
all_found P f [] each = All-nil P
all_found {X} {Y} P f (x ∷ xs) each =
    with_option P (f x) (filter_map f xs)
    (All-head (λ (x : X). (y : Y) → f x ≡ Some y → P y) x xs each)
    (all_found P f xs (All-tail (λ (x : X). (y : Y) → f x ≡ Some y → P y) x xs each))

-- what holds of all holds of them behind their numbers
pub all_numbered : {X : Type 0} (P : X → Type 0) (first : ℕ) (xs : List X) → All P xs → All (λ numbered. P numbered.1) (enumerate_from first xs)
all_numbered {X} P first [] each = All-nil (λ (numbered : ℕ × X). P numbered.1)
all_numbered {X} P first (x ∷ xs) each =
    All-cons (λ (numbered : ℕ × X). P numbered.1) (first, x) (enumerate_from (first + 1) xs) (All-head P x xs each) (all_numbered P (first + 1) xs (All-tail P x xs each))

-- whatever is there
pub all_of : {X : Type 0} (P : X → Type 0) (xs : List X) → ((x : X) → P x) → All P xs
all_of P [] each = All-nil P
all_of P (x ∷ xs) each = All-cons P x xs (each x) (all_of P xs each)

-- of either of two lists
pub all_if : {X : Type 0} (P : X → Type 0) (test : Bool) (xs ys : List X) → All P xs → All P ys → All P (cond test xs ys)
all_if P true xs ys all others = all
all_if P false xs ys all others = others

-- ---- what is found

-- the one element that passes a test is found
pub only_one_found : {X : Type 0} (test : X → Bool) (xs : List X) (x : X) → Contains xs x → test x ≡ true → All (λ other. test other ≡ true → other ≡ x) xs → find test xs ≡ Some x
only_one_found test [] x there passes only = absurd (none_there x there)
only_one_found {X} test (first ∷ xs) x there passes only =
    elim (cases_Bool (test first)) [
      | inl yes_first ↦ rw yes_first (ap Some (All-head (λ (other : X). test other ≡ true → other ≡ x) first xs only yes_first))
      | inr no_first ↦ elim (first_or_later first xs x there) [
        | inl is ↦ absurd (false≢true (sym no_first ∙ ap test is ∙ passes))
        | inr other ↦ rw no_first (only_one_found test xs x other passes (All-tail (λ (other : X). test other ≡ true → other ≡ x) first xs only))
      ]
    ]
