-- Lists by their indices.
use Rattle.std.proofs.Common.{◌≡◌, ◌⊎◌, ℕ, zero, suc, ◌+◌, ◌-◌, ◌<◌, ◌≤◌, Bool, true, false, List, [], ◌∷◌, ◌++◌, None, Some, length, take, refl}
use Rattle.std.proofs.Common.{sym, ap, ◌∙◌, inl, inr, arith, length-append, slice_get, slice_set, slice_index, slice_index_or, replicate}
use Rattle.std.proofs.lemmas.Bool.{cases_eq, cases_lt}
use Rattle.std.proofs.lemmas.List.{get_or_append_left, get_or_push, get_or-take, map-id}
use Rattle.std.proofs.lemmas.List.FromFn.{fill_by_all, get_or-range_with_len}
use Rattle.std.specs.List.{range_with_len}
use Rattle.fab_systems_laws.specs.Ternary.{unknown}
use Rattle.fab_ternary.specs.declared.Tern.TheVariants.{Open}
use Rattle.fab_equations.proofs.Numbering.{some_there}
use Rattle.fab_compiled.specs.Leading.{IsMarked}
use Rattle.fab_network.specs.Passes.{kept_tern, IsListed}
use Rattle.fab_demand.specs.Search.{unset_count}

-- ---- one element

pub get_same : {X : Type 0} (xs : List X) (k : ℕ) (x : X) → k < length xs → slice_get (slice_set xs k x) k ≡ Some x
get_same [] k x l = absurd (omega arith)
get_same (y ∷ xs) zero x l = refl
get_same (y ∷ xs) (suc k) x l = get_same xs k x (omega arith)

pub get_other : {X : Type 0} (xs : List X) (k : ℕ) (x : X) (other : ℕ) → (other ≡ k → ⊥) → slice_get (slice_set xs k x) other ≡ slice_get xs other
get_other [] k x other apart = refl
get_other (y ∷ xs) zero x zero apart = absurd (apart refl)
get_other (y ∷ xs) zero x (suc other) apart = refl
get_other (y ∷ xs) (suc k) x zero apart = refl
get_other (y ∷ xs) (suc k) x (suc other) apart = get_other xs k x other (λ e. apart (ap suc e))

pub get_within : {X : Type 0} (xs : List X) (k : ℕ) (x : X) → slice_get xs k ≡ Some x → k < length xs
get_within [] k x e = cc
get_within (y ∷ xs) zero x e = omega arith
get_within (y ∷ xs) (suc k) x e = let l : k < length xs = get_within xs k x e in omega arith

pub index_is : (xs : List ℕ) (k r : ℕ) → slice_get xs k ≡ Some r → slice_index xs k ≡ r
index_is [] k r e = cc
index_is (x ∷ xs) zero r e = cc
index_is (x ∷ xs) (suc k) r e = index_is xs k r e

pub set_index_same : (xs : List ℕ) (k x : ℕ) → k < length xs → slice_index (slice_set xs k x) k ≡ x
set_index_same [] k x l = absurd (omega arith)
set_index_same (y ∷ xs) zero x l = refl
set_index_same (y ∷ xs) (suc k) x l = set_index_same xs k x (omega arith)

pub set_index_other : (xs : List ℕ) (k x other : ℕ) → (other ≡ k → ⊥) → slice_index (slice_set xs k x) other ≡ slice_index xs other
set_index_other [] k x other apart = refl
set_index_other (y ∷ xs) zero x zero apart = absurd (apart refl)
set_index_other (y ∷ xs) zero x (suc other) apart = refl
set_index_other (y ∷ xs) (suc k) x zero apart = refl
set_index_other (y ∷ xs) (suc k) x (suc other) apart = set_index_other xs k x other (λ e. apart (ap suc e))

-- ---- marks

pub bool_there : (xs : List Bool) (k : ℕ) → k < length xs → (slice_get xs k ≡ Some true) ⊎ (slice_get xs k ≡ Some false)
bool_there [] k l = absurd (omega arith)
bool_there (true ∷ xs) zero l = inl refl
bool_there (false ∷ xs) zero l = inr refl
bool_there (x ∷ xs) (suc k) l = bool_there xs k (omega arith)

-- what a read gives
pub bool_read : (xs : List Bool) (k : ℕ) (read b : Bool) → read ≡ slice_index_or xs k read → read ≡ b → k < length xs → slice_get xs k ≡ Some b
bool_read [] k read b e is l = absurd (omega arith)
bool_read (x ∷ xs) zero read b e is l = ap Some (sym e ∙ is)
bool_read (x ∷ xs) (suc k) read b e is l = bool_read xs k read b e is (omega arith)

pub not_both : (xs : List Bool) (k : ℕ) → slice_get xs k ≡ Some true → slice_get xs k ≡ Some false → ⊥
not_both xs k set unset = let e : Some true ≡ Some false = sym set ∙ unset in cc

pub mark_stays : (marks : List Bool) (point q : ℕ) → IsMarked marks q → IsMarked (slice_set marks point true) q
mark_stays marks point q marked =
    elim (cases_eq q point) [
      | inl e ↦ (let l : point < length marks = omega (arith, get_within marks q true marked, e) in ap (slice_get (slice_set marks point true)) e
          ∙ get_same marks point true l)
      | inr n ↦ get_other marks point true q n ∙ marked
    ]

pub unset_fewer : (marks : List Bool) (k : ℕ) → slice_get marks k ≡ Some false → unset_count marks ≡ 1 + unset_count (slice_set marks k true)
unset_fewer [] k e = cc
unset_fewer (false ∷ marks) zero e = refl
unset_fewer (true ∷ marks) zero e = cc
unset_fewer (true ∷ marks) (suc k) e = unset_fewer marks k e
unset_fewer (false ∷ marks) (suc k) e = ap (λ n. 1 + n) (unset_fewer marks k e)

pub unset_most : (old new : List Bool) → length new ≡ length old → ((q : ℕ) → IsMarked old q → IsMarked new q) → unset_count new ≤ unset_count old
unset_most [] [] l rise = omega arith
unset_most [] (n ∷ new) l rise = absurd (omega (arith, l))
unset_most (o ∷ old) [] l rise = absurd (omega (arith, l))
unset_most (true ∷ old) (true ∷ new) l rise = unset_most old new (omega (arith, l)) (λ q. rise (suc q))
unset_most (true ∷ old) (false ∷ new) l rise = let e : Some false ≡ Some true = rise 0 refl in cc
unset_most (false ∷ old) (true ∷ new) l rise = let fewer : unset_count new ≤ unset_count old = unset_most old new (omega (arith, l)) (λ q. rise (suc q)) in
    omega arith
unset_most (false ∷ old) (false ∷ new) l rise = let fewer : unset_count new ≤ unset_count old = unset_most old new (omega (arith, l)) (λ q. rise (suc q)) in
    omega arith

-- a mark that is new
pub unset_less : (old new : List Bool) → length new ≡ length old → ((q : ℕ) → IsMarked old q → IsMarked new q) → (k : ℕ) → slice_get old k ≡ Some false →
    IsMarked new k →
    unset_count new < unset_count old
unset_less [] new l rise k none now = cc
unset_less (o ∷ old) [] l rise k none now = absurd (omega (arith, l))
unset_less (true ∷ old) (n ∷ new) l rise zero none now = cc
unset_less (false ∷ old) (false ∷ new) l rise zero none now = cc
unset_less (false ∷ old) (true ∷ new) l rise zero none now = let fewer : unset_count new ≤ unset_count old = unset_most old new (omega (arith, l))
    (λ q. rise (suc q)) in omega arith
unset_less (true ∷ old) (true ∷ new) l rise (suc k) none now = unset_less old new (omega (arith, l)) (λ q. rise (suc q)) k none now
unset_less (true ∷ old) (false ∷ new) l rise (suc k) none now = let e : Some false ≡ Some true = rise 0 refl in cc
unset_less (false ∷ old) (true ∷ new) l rise (suc k) none now = let less : unset_count new < unset_count old = unset_less old new (omega (arith, l))
    (λ q. rise (suc q)) k none now in omega arith
unset_less (false ∷ old) (false ∷ new) l rise (suc k) none now = let less : unset_count new < unset_count old = unset_less old new (omega (arith, l))
    (λ q. rise (suc q)) k none now in omega arith

-- ---- lists that grow and shrink at their end

pub index_left : (xs ys : List ℕ) (k : ℕ) → k < length xs → slice_index (xs ++ ys) k ≡ slice_index xs k
index_left xs ys k l = get_or_append_left xs ys 0 k l

pub index_last : (xs : List ℕ) (y : ℕ) → slice_index (xs ++ y ∷ []) (length xs) ≡ y
index_last xs y = get_or_push xs y 0 (length xs) refl

pub none_last : (xs : List ℕ) → None ≡ slice_get xs (length xs - 1) → xs ≡ []
none_last [] e = refl
none_last (x ∷ xs) e =
    let there = some_there (x ∷ xs) (length (x ∷ xs) - 1) (omega arith) in
    let absent : None ≡ Some there.0 = e ∙ there.1 in
    cc

pub index_take : (n : ℕ) (xs : List ℕ) (k : ℕ) → k < n → slice_index (take n xs) k ≡ slice_index xs k
index_take n xs k l = get_or-take n xs k 0 l

pub listed_left : (xs ys : List ℕ) (point : ℕ) → IsListed xs point → IsListed (xs ++ ys) point
listed_left xs ys point (place, l, is) = (place, omega (arith, l, length-append xs ys), index_left xs ys place l ∙ is)

pub listed_last : (xs : List ℕ) (point : ℕ) → IsListed (xs ++ point ∷ []) point
listed_last xs point = (length xs, omega (arith, length-append xs (point ∷ [])), index_last xs point)

pub listed_either : (xs : List ℕ) (point q : ℕ) → IsListed (xs ++ point ∷ []) q → IsListed xs q ⊎ (q ≡ point)
listed_either xs point q (place, l, is) =
    elim (cases_lt place (length xs)) [
      | inl before ↦ inl (place, before, sym (index_left xs (point ∷ []) place before) ∙ is)
      | inr after ↦ (let e : place ≡ length xs = omega (arith, l, length-append xs (point ∷ [])) in
          inr (sym is ∙ ap (slice_index (xs ++ point ∷ [])) e ∙ index_last xs point))
    ]

not_first : (x : ℕ) (xs : List ℕ) (point : ℕ) → (x ≡ point → ⊥) → (IsListed xs point → ⊥) → IsListed (x ∷ xs) point → ⊥
not_first x xs point n none (zero, l, is) = n is
not_first x xs point n none (suc place, l, is) = none (place, omega arith, is)

pub listed_or_not : (xs : List ℕ) (point : ℕ) → IsListed xs point ⊎ (IsListed xs point → ⊥)
listed_or_not [] point = inr (λ (place, l, is). absurd (omega arith))
listed_or_not (x ∷ xs) point =
    elim (cases_eq x point) [
      | inl e ↦ inl (0, omega arith, e)
      | inr n ↦ elim (listed_or_not xs point) [
        | inl listed ↦ inl (suc listed.0, omega (arith, listed.1), listed.2)
        | inr none ↦ inr (not_first x xs point n none)
      ]
    ]

-- ---- lists of one value, and numbers in their order

pub numbered : (xs : List ℕ) → ((k : ℕ) → k < length xs → slice_index xs k ≡ k) → xs ≡ range_with_len 0 (length xs)
numbered xs each = fill_by_all (λ k. k) xs (length xs) 0 refl each ∙ map-id (range_with_len 0 (length xs))

pub number_at : (count k : ℕ) → k < count → slice_index (range_with_len 0 count) k ≡ k
number_at count k l = get_or-range_with_len 0 count k 0 l ∙ omega arith

pub unset_all : (count : ℕ) → unset_count (replicate count false) ≡ count
unset_all zero = refl
unset_all (suc count) = let before : unset_count (replicate count false) ≡ count = unset_all count in omega arith

pub none_marked : (count k : ℕ) → slice_get (replicate count false) k ≡ Some true → ⊥
none_marked zero k e = cc
none_marked (suc count) zero e = cc
none_marked (suc count) (suc k) e = none_marked count k e

pub all_open : (count k : ℕ) → kept_tern (replicate count Open) k ≡ unknown
all_open zero k = refl
all_open (suc count) zero = refl
all_open (suc count) (suc k) = all_open count k
