-- What is known of names after a write, and after all that wait have been given up.
use Rattle.std.proofs.Common.{◌≡◌, ◌≢◌, ◌⊎◌, ℕ, zero, suc, ◌<◌, ◌≤◌, List, [], ◌∷◌, length, set, slice_get, Some, refl, sym, ◌∙◌, subst, inl, inr, arith}
use Rattle.std.proofs.lemmas.Bool.{cases_eq}
use Rattle.std.proofs.lemmas.List.{length-set}
use Rattle.std.proofs.lemmas.Option.{slice_get_within}
use Rattle.fab_equations.proofs.Placing.{get_set_same, get_set_other}
use Rattle.fab_load_points.specs.inner.Search.{Waits, given_up, new_count, Opens}
use Rattle.fab_load_points.specs.declared.search.Status.{Status}
use Rattle.fab_load_points.specs.declared.search.Status.TheVariants.{New, Waiting, Inside, Outside}
use Rattle.fab_load_points.specs.declared.search.Visit.{Visit}
use Rattle.fab_load_points.specs.declared.search.Visit.TheVariants.{Enter, Leave}

-- ---- places on lists

pub set_there : {X : Type 0} (xs : List X) (i : ℕ) (x : X) → i < length xs → slice_get (set xs i x) i ≡ Some x
set_there [] i x l = absurd (omega arith)
set_there (first ∷ xs) zero x l = refl
set_there (first ∷ xs) (suc i) x l = set_there xs i x (omega arith)

-- what stands on a list after a write: the new value at its place, and elsewhere what stood there
pub set_cases : {X : Type 0} (xs : List X) (i j : ℕ) (x y : X) → slice_get (set xs i x) j ≡ Some y → ((j ≡ i) × (y ≡ x)) ⊎ ((j ≢ i) × (slice_get xs j ≡ Some y))
set_cases xs i j x y e =
    elim (cases_eq j i) [
      | inl same ↦ inl (same, get_set_same xs i x y (subst (λ k. slice_get (set xs i x) k ≡ Some y) same e))
      | inr apart ↦ inr (apart, sym (get_set_other xs i j x apart) ∙ e)
    ]

-- ---- names that wait, and names that are given up

pub given_length : (visits : List Visit) (statuses : List Status) → length (given_up visits statuses) ≡ length statuses
given_length [] statuses = refl
given_length (Enter name ∷ visits) statuses = given_length visits statuses
given_length (Leave name ∷ visits) statuses = given_length visits (set statuses name Outside) ∙ length-set statuses name Outside

pub given_each : (visits : List Visit) (statuses : List Status) (name : ℕ) (status : Status) → slice_get (given_up visits statuses) name ≡ Some status →
    (slice_get statuses name ≡ Some status) ⊎ ((status ≡ Outside) × Waits visits name)
given_each [] statuses name status e = inl e
given_each (Enter other ∷ visits) statuses name status e = given_each visits statuses name status e
given_each (Leave other ∷ visits) statuses name status e =
    elim (given_each visits (set statuses other Outside) name status e) [
      | inl there ↦ elim (set_cases statuses other name Outside status there) [
        | inl same ↦ inr (same.1, inl (sym same.0))
        | inr apart ↦ inl apart.1
      ]
      | inr more ↦ inr (more.0, inr more.1)
    ]

pub given_outside : (visits : List Visit) (statuses : List Status) (name : ℕ) → slice_get statuses name ≡ Some Outside → slice_get (given_up visits statuses) name ≡ Some Outside
given_outside [] statuses name e = e
given_outside (Enter other ∷ visits) statuses name e = given_outside visits statuses name e
given_outside (Leave other ∷ visits) statuses name e =
    given_outside visits (set statuses other Outside) name
    (elim (cases_eq name other) [
      | inl same ↦ subst (λ k. slice_get (set statuses k Outside) name ≡ Some Outside) same (set_there statuses name Outside (slice_get_within statuses name Outside e))
      | inr apart ↦ get_set_other statuses other name Outside apart ∙ e
    ])

pub given_waits : (visits : List Visit) (statuses : List Status) (name : ℕ) → name < length statuses → Waits visits name → slice_get (given_up visits statuses) name ≡ Some Outside
given_waits [] statuses name l w = absurd w
given_waits (Enter other ∷ visits) statuses name l w = given_waits visits statuses name l w
given_waits (Leave other ∷ visits) statuses name l (inl same) =
    given_outside visits (set statuses other Outside) name
    (subst (λ k. slice_get (set statuses k Outside) name ≡ Some Outside) (sym same) (set_there statuses name Outside l))
given_waits (Leave other ∷ visits) statuses name l (inr w) = given_waits visits (set statuses other Outside) name (omega (arith, length-set statuses other Outside)) w

pub given_others : (visits : List Visit) (statuses : List Status) (name : ℕ) → (Waits visits name → ⊥) → slice_get (given_up visits statuses) name ≡ slice_get statuses name
given_others [] statuses name not = refl
given_others (Enter other ∷ visits) statuses name not = given_others visits statuses name not
given_others (Leave other ∷ visits) statuses name not =
    given_others visits (set statuses other Outside) name (λ w. not (inr w)) ∙ get_set_other statuses other name Outside (λ same. not (inl (sym same)))

-- ---- counts

set_new_count : (statuses : List Status) (name : ℕ) (status : Status) → (status ≡ New → ⊥) → new_count (set statuses name status) ≤ new_count statuses
set_new_count [] name status not = omega arith
set_new_count (New ∷ statuses) zero New not = absurd (not refl)
set_new_count (Waiting ∷ statuses) zero New not = absurd (not refl)
set_new_count (Inside ∷ statuses) zero New not = absurd (not refl)
set_new_count (Outside ∷ statuses) zero New not = absurd (not refl)
set_new_count (New ∷ statuses) zero Waiting not = omega arith
set_new_count (Waiting ∷ statuses) zero Waiting not = omega arith
set_new_count (Inside ∷ statuses) zero Waiting not = omega arith
set_new_count (Outside ∷ statuses) zero Waiting not = omega arith
set_new_count (New ∷ statuses) zero Inside not = omega arith
set_new_count (Waiting ∷ statuses) zero Inside not = omega arith
set_new_count (Inside ∷ statuses) zero Inside not = omega arith
set_new_count (Outside ∷ statuses) zero Inside not = omega arith
set_new_count (New ∷ statuses) zero Outside not = omega arith
set_new_count (Waiting ∷ statuses) zero Outside not = omega arith
set_new_count (Inside ∷ statuses) zero Outside not = omega arith
set_new_count (Outside ∷ statuses) zero Outside not = omega arith
set_new_count (New ∷ statuses) (suc name) status not = omega (arith, set_new_count statuses name status not)
set_new_count (Waiting ∷ statuses) (suc name) status not = set_new_count statuses name status not
set_new_count (Inside ∷ statuses) (suc name) status not = set_new_count statuses name status not
set_new_count (Outside ∷ statuses) (suc name) status not = set_new_count statuses name status not

set_fewer : (statuses : List Status) (name : ℕ) (status : Status) → (status ≡ New → ⊥) → slice_get statuses name ≡ Some New → new_count (set statuses name status) < new_count statuses
set_fewer [] name status not is = cc
set_fewer (New ∷ statuses) zero New not is = absurd (not refl)
set_fewer (New ∷ statuses) zero Waiting not is = omega arith
set_fewer (New ∷ statuses) zero Inside not is = omega arith
set_fewer (New ∷ statuses) zero Outside not is = omega arith
set_fewer (Waiting ∷ statuses) zero status not is = cc
set_fewer (Inside ∷ statuses) zero status not is = cc
set_fewer (Outside ∷ statuses) zero status not is = cc
set_fewer (New ∷ statuses) (suc name) status not is = omega (arith, set_fewer statuses name status not is)
set_fewer (Waiting ∷ statuses) (suc name) status not is = set_fewer statuses name status not is
set_fewer (Inside ∷ statuses) (suc name) status not is = set_fewer statuses name status not is
set_fewer (Outside ∷ statuses) (suc name) status not is = set_fewer statuses name status not is

pub given_count : (visits : List Visit) (statuses : List Status) → new_count (given_up visits statuses) ≤ new_count statuses
given_count [] statuses = omega arith
given_count (Enter name ∷ visits) statuses = given_count visits statuses
given_count (Leave name ∷ visits) statuses =
    let apart : Outside ≡ New → ⊥ = λ e. cc in
    omega (arith, given_count visits (set statuses name Outside), set_new_count statuses name Outside apart)

pub set_count : (statuses : List Status) (name : ℕ) (status : Status) → (status ≡ New → ⊥) → new_count (set statuses name status) ≤ new_count statuses
set_count = set_new_count

-- no name comes to be new
pub set_new : (statuses : List Status) (name : ℕ) (status : Status) → (status ≡ New → ⊥) → (other : ℕ) → slice_get (set statuses name status) other ≡ Some New →
    (slice_get statuses other ≡ Some New) × (other ≢ name)
set_new statuses name status not other e =
    elim (set_cases statuses name other status New e) [
      | inl same ↦ absurd (not (sym same.1))
      | inr apart ↦ (apart.1, apart.0)
    ]

pub given_new : (visits : List Visit) (statuses : List Status) (other : ℕ) → slice_get (given_up visits statuses) other ≡ Some New → slice_get statuses other ≡ Some New
given_new visits statuses other e =
    elim (given_each visits statuses other New e) [ inl there ↦ there | inr more ↦ (let apart = more.0 in cc) ]

pub set_opens : (statuses : List Status) (name : ℕ) (status : Status) → (status ≡ New → ⊥) → slice_get statuses name ≡ Some New → Opens name statuses (set statuses name status)
set_opens statuses name status not is = record {
  fewer = set_fewer statuses name status not is;
  others = λ other e. (set_new statuses name status not other e).0;
  this = λ e. (set_new statuses name status not name e).1 refl;
}

pub given_opens : (visits : List Visit) (statuses : List Status) (name : ℕ) → slice_get statuses name ≡ Some New → Opens name statuses (given_up visits (set statuses name Outside))
given_opens visits statuses name is =
    let apart : Outside ≡ New → ⊥ = λ e. cc in
    let set_so = set_opens statuses name Outside apart is in
    record {
      fewer = omega (arith, given_count visits (set statuses name Outside), set_so.fewer);
      others = λ other e. set_so.others other (given_new visits (set statuses name Outside) other e);
      this = λ e. set_so.this (given_new visits (set statuses name Outside) name e);
    }
