-- Pairs of elements of lists that are joined from others.
use Rattle.std.proofs.Common.{◌≡◌, ◌≢◌, ℕ, ◌+◌, ◌<◌, ◌≤◌, Bool, true, false, cond, filter, List, [], ◌∷◌, ◌++◌, map, length, Option, Some, None, refl, subst₂, arith, All, AllPairs}
use Rattle.std.specs.List.{flat_map, filter_map, cons_option, enumerate_from}
use Rattle.std.proofs.lemmas.List.{length-map, get_or-map}
use Rattle.std.proofs.lemmas.List.Elements.{All-nil, All-cons, All-head, All-tail, All-map, All-filter, All-weaker}
use Rattle.std.proofs.lemmas.List.Kept.{AllPairs-cons}
use Rattle.fab_drives_laws.proofs.Lists.{all_found, all_numbered}
use Rattle.fab_tiles_sound_laws.proofs.fab_parts_sound_laws_Lists.{all_flat_map, all_right, pairs_none, pairs_head, pairs_tail, pairs_append, pairs_right, pairs_across}

-- each of one list against each of another
abbrev pub Between : {X : Type 0} → (R : X → X → Type 0) → List X → List X → Type 0
Between R xs ys = All (λ x. All (R x) ys) xs

pub pairs_weaker : {X : Type 0} (P : X → Type 0) (R S : X → X → Type 0) (xs : List X) → ((a b : X) → P a → P b → R a b → S a b) → All P xs → AllPairs R xs → AllPairs S xs
pairs_weaker P R S xs weaker all pairs i j d before within = weaker _ _ (all i d (omega arith)) (all j d within) (pairs i j d before within)

pub between : {X : Type 0} (P Q : X → Type 0) (R : X → X → Type 0) (xs ys : List X) → ((a b : X) → P a → Q b → R a b) → All P xs → All Q ys → Between R xs ys
between P Q R xs ys both of_xs of_ys k d within i e few = both _ _ (of_xs k d within) (of_ys i e few)

-- one against one
pub one_each_way : {X : Type 0} (R : X → X → Type 0) (x y : X) → R x y → Between R (x ∷ []) (y ∷ [])
one_each_way R x y holds = All-cons (λ z. All (R z) (y ∷ [])) x [] (All-cons (R x) y [] holds (All-nil (R x))) (All-nil (λ z. All (R z) (y ∷ [])))

pub one_alone : {X : Type 0} (R : X → X → Type 0) (x : X) → AllPairs R (x ∷ [])
one_alone R x = AllPairs-cons R x [] (All-nil (R x)) (pairs_none R)

-- ---- parts of joined lists

pub all_left : {X : Type 0} (P : X → Type 0) (xs ys : List X) → All P (xs ++ ys) → All P xs
all_left P [] ys all = All-nil P
all_left P (x ∷ xs) ys all = All-cons P x xs (All-head P x (xs ++ ys) all) (all_left P xs ys (All-tail P x (xs ++ ys) all))

pub all_of_flat : {X Y : Type 0} (P : Y → Type 0) (f : X → List Y) (xs : List X) → All P (flat_map f xs) → All (λ x. All P (f x)) xs
all_of_flat P f [] all = All-nil (λ x. All P (f x))
all_of_flat P f (x ∷ xs) all =
    All-cons (λ z. All P (f z)) x xs (all_left P (f x) (flat_map f xs) all) (all_of_flat P f xs (all_right P (f x) (flat_map f xs) all))

pub pairs_flat : {X Y : Type 0} (R : Y → Y → Type 0) (f : X → List Y) (xs : List X) → All (λ x. AllPairs R (f x)) xs → AllPairs (λ a b. Between R (f a) (f b)) xs →
    AllPairs R (flat_map f xs)
pairs_flat R f [] each apart = pairs_none R
pairs_flat {X} {Y} R f (x ∷ xs) each apart =
    pairs_append R (f x) (flat_map f xs) (All-head (λ (z : X). AllPairs R (f z)) x xs each)
    (pairs_flat R f xs (All-tail (λ (z : X). AllPairs R (f z)) x xs each) (pairs_tail (λ (a b : X). Between R (f a) (f b)) x xs apart))
    (λ k d within. all_flat_map (R _) f xs (λ i e few. pairs_head (λ (a b : X). Between R (f a) (f b)) x xs apart i e few k d within))

pub pairs_of_flat : {X Y : Type 0} (R : Y → Y → Type 0) (f : X → List Y) (xs : List X) → AllPairs R (flat_map f xs) → AllPairs (λ a b. Between R (f a) (f b)) xs
pairs_of_flat {X} {Y} R f [] pairs = pairs_none (λ (a b : X). Between R (f a) (f b))
pairs_of_flat {X} {Y} R f (x ∷ xs) pairs =
    AllPairs-cons (λ (a b : X). Between R (f a) (f b)) x xs
    (λ i e few k d within. all_of_flat (R _) f xs (pairs_across R (f x) (flat_map f xs) pairs k d within) i e few)
    (pairs_of_flat R f xs (pairs_right R (f x) (flat_map f xs) pairs))

-- ---- lists of images

pub pairs_of_map : {X Y : Type 0} (R : Y → Y → Type 0) (f : X → Y) (xs : List X) → AllPairs R (map f xs) → AllPairs (λ a b. R (f a) (f b)) xs
pairs_of_map R f xs pairs i j d before within =
    let few : i < length xs = omega arith in
    subst₂ R (get_or-map f xs i d (f d) few) (get_or-map f xs j d (f d) within) (pairs i j (f d) before (rw length-map within))

pub pairs_map : {X Y : Type 0} (R : Y → Y → Type 0) (f : X → Y) (xs : List X) → AllPairs (λ a b. R (f a) (f b)) xs → AllPairs R (map f xs)
pairs_map R f [] pairs = pairs_none R
pairs_map {X} R f (x ∷ xs) pairs =
    AllPairs-cons R (f x) (map f xs) (All-map (R (f x)) f xs (pairs_head (λ (a b : X). R (f a) (f b)) x xs pairs))
    (pairs_map R f xs (pairs_tail (λ (a b : X). R (f a) (f b)) x xs pairs))

-- ---- what is found

with_pairs : {X : Type 0} (R : X → X → Type 0) (found : Option X) (xs : List X) → ((x : X) → found ≡ Some x → All (R x) xs) → AllPairs R xs → AllPairs R (cons_option found xs)
with_pairs R None xs first pairs = pairs
with_pairs R (Some x) xs first pairs = AllPairs-cons R x xs (first x refl) pairs

pub pairs_found : {X Y : Type 0} (R : Y → Y → Type 0) (f : X → Option Y) (xs : List X) → AllPairs (λ a b. (p q : Y) → f a ≡ Some p → f b ≡ Some q → R p q) xs →
    AllPairs R (filter_map f xs)
pairs_found R f [] apart = pairs_none R
pairs_found {X} {Y} R f (x ∷ xs) apart =
    with_pairs R (f x) (filter_map f xs)
    (λ p is. all_found (R p) f xs (λ i e few q found. pairs_head (λ (a b : X). (p q : Y) → f a ≡ Some p → f b ≡ Some q → R p q) x xs apart i e few p q is found))
    (pairs_found R f xs (pairs_tail (λ (a b : X). (p q : Y) → f a ≡ Some p → f b ≡ Some q → R p q) x xs apart))

-- ---- numbers before elements

numbered_from : {X : Type 0} (low first : ℕ) (xs : List X) → low ≤ first → All (λ numbered. low ≤ numbered.0) (enumerate_from first xs)
numbered_from {X} low first [] few = All-nil (λ (numbered : ℕ × X). low ≤ numbered.0)
numbered_from {X} low first (x ∷ xs) few =
    All-cons (λ (numbered : ℕ × X). low ≤ numbered.0) (first, x) (enumerate_from (first + 1) xs) few (numbered_from low (first + 1) xs (omega arith))

pub numbers_apart : {X : Type 0} (first : ℕ) (xs : List X) → AllPairs (λ a b. a.0 ≢ b.0) (enumerate_from first xs)
numbers_apart {X} first [] = pairs_none (λ (a b : ℕ × X). a.0 ≢ b.0)
numbers_apart {X} first (x ∷ xs) =
    AllPairs-cons (λ (a b : ℕ × X). a.0 ≢ b.0) (first, x) (enumerate_from (first + 1) xs)
    (All-weaker (λ (b : ℕ × X). first + 1 ≤ b.0) (λ (b : ℕ × X). first ≢ b.0) (λ b above same. omega (arith, above, same)) (enumerate_from (first + 1) xs)
    (numbered_from (first + 1) (first + 1) xs (omega arith)))
    (numbers_apart (first + 1) xs)

-- pairs of elements behind their numbers
pub pairs_numbered : {X : Type 0} (R : X → X → Type 0) (first : ℕ) (xs : List X) → AllPairs R xs → AllPairs (λ a b. R a.1 b.1) (enumerate_from first xs)
pairs_numbered {X} R first [] pairs = pairs_none (λ (a b : ℕ × X). R a.1 b.1)
pairs_numbered {X} R first (x ∷ xs) pairs =
    AllPairs-cons (λ (a b : ℕ × X). R a.1 b.1) (first, x) (enumerate_from (first + 1) xs) (all_numbered (R x) (first + 1) xs (pairs_head R x xs pairs))
    (pairs_numbered R (first + 1) xs (pairs_tail R x xs pairs))

-- ---- what is kept

kept_pairs : {X : Type 0} (R : X → X → Type 0) (passes : Bool) (x : X) (xs : List X) → All (R x) xs → AllPairs R xs → AllPairs R (cond passes (x ∷ xs) xs)
kept_pairs R true x xs first pairs = AllPairs-cons R x xs first pairs
kept_pairs R false x xs first pairs = pairs

pub pairs_kept : {X : Type 0} (R : X → X → Type 0) (test : X → Bool) (xs : List X) → AllPairs R xs → AllPairs R (filter test xs)
pairs_kept R test [] pairs = pairs_none R
pairs_kept R test (x ∷ xs) pairs =
    kept_pairs R (test x) x (filter test xs) (All-filter test (R x) xs (pairs_head R x xs pairs)) (pairs_kept R test xs (pairs_tail R x xs pairs))
