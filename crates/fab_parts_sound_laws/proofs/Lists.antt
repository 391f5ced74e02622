-- Lists whose elements are apart, and lists that are joined from others.
use Rattle.std.proofs.Common.{◌≡◌, ℕ, zero, suc, ◌-◌, ◌<◌, List, [], ◌∷◌, ◌++◌, reverse, refl, sym, ◌∙◌, subst, arith, All, AllPairs, length}
use Rattle.std.specs.List.{flat_map}
use Rattle.std.proofs.lemmas.List.{length-reverse, get_or-reverse}
use Rattle.std.proofs.lemmas.List.Concat.{flat_map-cons}
use Rattle.std.proofs.lemmas.List.Elements.{All-nil, All-cons, All-append, All-head, All-tail}
use Rattle.std.proofs.lemmas.List.Kept.{AllPairs-cons}
use Rattle.fab_tile_drives_laws.specs.fab_model_Tiles.{counted}
pub use Rattle.fab_gen_loader.proofs.Counted.{length-counted}
pub use Rattle.fab_tile_drives_laws.proofs.Endings.{all_counted, all_flat_map}
pub use Rattle.fab_tile_drives_laws.proofs.Members.{contains_first, contains_later, contains_map, contains_counted}

-- ---- pairs of elements

pub pairs_none : {X : Type 0} (R : X → X → Type 0) → AllPairs R []
pairs_none R i j d before within = absurd (omega arith)

pub pairs_head : {X : Type 0} (R : X → X → Type 0) (x : X) (xs : List X) → AllPairs R (x ∷ xs) → All (R x) xs
pairs_head R x xs pairs k d within = pairs 0 (suc k) d (omega arith) (omega arith)

pub pairs_tail : {X : Type 0} (R : X → X → Type 0) (x : X) (xs : List X) → AllPairs R (x ∷ xs) → AllPairs R xs
pairs_tail R x xs pairs i j d before within = pairs (suc i) (suc j) d (omega arith) (omega arith)

pub pairs_append : {X : Type 0} (R : X → X → Type 0) (xs ys : List X) → AllPairs R xs → AllPairs R ys → All (λ x. All (R x) ys) xs → AllPairs R (xs ++ ys)
pairs_append R [] ys of_xs of_ys across = of_ys
pairs_append R (x ∷ xs) ys of_xs of_ys across =
    AllPairs-cons R x (xs ++ ys) (All-append (R x) xs ys (pairs_head R x xs of_xs) (All-head (λ z. All (R z) ys) x xs across))
    (pairs_append R xs ys (pairs_tail R x xs of_xs) of_ys (All-tail (λ z. All (R z) ys) x xs across))

-- of a joined list, the pairs within each part and those across
pub pairs_left : {X : Type 0} (R : X → X → Type 0) (xs ys : List X) → AllPairs R (xs ++ ys) → AllPairs R xs
pairs_left R [] ys pairs = pairs_none R
pairs_left R (x ∷ xs) ys pairs =
    AllPairs-cons R x xs (front_all (R x) xs ys (pairs_head R x (xs ++ ys) pairs)) (pairs_left R xs ys (pairs_tail R x (xs ++ ys) pairs))
  where
    front_all : {X : Type 0} (P : X → Type 0) (xs ys : List X) → All P (xs ++ ys) → All P xs
    front_all P [] ys all = All-nil P
    front_all P (x ∷ xs) ys all = All-cons P x xs (All-head P x (xs ++ ys) all) (front_all P xs ys (All-tail P x (xs ++ ys) all))

pub pairs_right : {X : Type 0} (R : X → X → Type 0) (xs ys : List X) → AllPairs R (xs ++ ys) → AllPairs R ys
pairs_right R [] ys pairs = pairs
pairs_right R (x ∷ xs) ys pairs = pairs_right R xs ys (pairs_tail R x (xs ++ ys) pairs)

pub all_right : {X : Type 0} (P : X → Type 0) (xs ys : List X) → All P (xs ++ ys) → All P ys
all_right P [] ys all = all
all_right P (x ∷ xs) ys all = all_right P xs ys (All-tail P x (xs ++ ys) all)

pub pairs_across : {X : Type 0} (R : X → X → Type 0) (xs ys : List X) → AllPairs R (xs ++ ys) → All (λ x. All (R x) ys) xs
pairs_across R [] ys pairs = All-nil (λ x. All (R x) ys)
pairs_across R (x ∷ xs) ys pairs =
    All-cons (λ z. All (R z) ys) x xs (all_right (R x) xs ys (pairs_head R x (xs ++ ys) pairs)) (pairs_across R xs ys (pairs_tail R x (xs ++ ys) pairs))

pub pairs_counted : {X : Type 0} (R : X → X → Type 0) (n : ℕ) (f : ℕ → X) → ((i j : ℕ) → i < j → j < n → R (f i) (f j)) → AllPairs R (counted n f)
unfolding counted
pairs_counted R zero f each = pairs_none R
pairs_counted R (suc n) f each =
    AllPairs-cons R (f 0) (counted n (λ i. f (suc i))) (all_counted (R (f 0)) n (λ i. f (suc i)) (λ i few. each 0 (suc i) (omega arith) (omega arith)))
    (pairs_counted R n (λ i. f (suc i)) (λ i j before few. each (suc i) (suc j) (omega arith) (omega arith)))

-- ---- lists in reverse, and joined from counted parts

pub all_reverse : {X : Type 0} (P : X → Type 0) (xs : List X) → All P xs → All P (reverse xs)
all_reverse P xs all k d within =
    let few : k < length xs = omega (arith, length-reverse xs) in
    subst P (sym (get_or-reverse xs k d few)) (all (length xs - 1 - k) d (omega arith))

pub none_each : {X Y : Type 0} (g : X → List Y) (n : ℕ) (f : ℕ → X) → ((i : ℕ) → g (f i) ≡ []) → flat_map g (counted n f) ≡ []
unfolding counted
none_each g zero f none = refl
none_each g (suc n) f none = flat_map-cons g (f 0) (counted n (λ i. f (suc i))) ∙ (λ j. none 0 j ++ none_each g n (λ i. f (suc i)) (λ i. none (suc i)) j)

pub one_each : {X Y : Type 0} (g : X → List Y) (n : ℕ) (f : ℕ → X) (h : ℕ → Y) → ((i : ℕ) → g (f i) ≡ h i ∷ []) → flat_map g (counted n f) ≡ counted n h
unfolding counted
one_each g zero f h one = refl
one_each g (suc n) f h one =
    flat_map-cons g (f 0) (counted n (λ i. f (suc i))) ∙ (λ j. one 0 j ++ one_each g n (λ i. f (suc i)) (λ i. h (suc i)) (λ i. one (suc i)) j)
