-- Lists as counted ones.
use Rattle.std.proofs.Common.{◌≡◌, ℕ, ◌+◌, ◌<◌, List, [], ◌∷◌, ◌++◌, length, get_or, map, zero, suc, refl, ◌∙◌, ap, arith}
use Rattle.std.specs.List.{enumerate_from, sum_by}
use Rattle.std.proofs.lemmas.List.Sums.{sum_by-cons}
use Rattle.fab_model.specs.Tiles.{counted}

pub length_counted : {X : Type 0} (n : ℕ) (f : ℕ → X) → length (counted n f) ≡ n
unfolding counted
length_counted zero f = refl
length_counted (suc n) f = ap suc (length_counted n (λ i. f (suc i)))

pub at_counted : {X : Type 0} (n : ℕ) (f : ℕ → X) (k : ℕ) (d : X) → k < n → get_or (counted n f) k d ≡ f k
unfolding counted
at_counted zero f k d low = absurd (omega (arith, low))
at_counted (suc n) f zero d low = refl
at_counted (suc n) f (suc k) d low = at_counted n (λ i. f (suc i)) k d (omega (arith, low))

pub map_counted : {X Y : Type 0} (g : X → Y) (n : ℕ) (f : ℕ → X) → map g (counted n f) ≡ counted n (λ i. g (f i))
unfolding counted
map_counted g zero f = refl
map_counted g (suc n) f = ap (λ rest. g (f 0) ∷ rest) (map_counted g n (λ i. f (suc i)))

pub counted_same : {X : Type 0} (n : ℕ) (f g : ℕ → X) → ((i : ℕ) → i < n → f i ≡ g i) → counted n f ≡ counted n g
unfolding counted
counted_same zero f g same = refl
counted_same (suc n) f g same =
    ap (λ x. x ∷ counted n (λ i. f (suc i))) (same 0 (omega arith))
    ∙ ap (λ rest. g 0 ∷ rest) (counted_same n (λ i. f (suc i)) (λ i. g (suc i)) (λ i low. same (suc i) (omega (arith, low))))

pub counted_split : {X : Type 0} (m n : ℕ) (f : ℕ → X) → counted (m + n) f ≡ counted m f ++ counted n (λ i. f (m + i))
unfolding counted
counted_split zero n f = ap (λ k. counted k f) (let e : 0 + n ≡ n = omega arith in e) ∙ counted_same n f (λ i. f (0 + i)) (λ i low. ap f (let e : i ≡ 0 + i = omega arith in e))
counted_split (suc m) n f =
    ap (λ k. counted k f) (let e : suc m + n ≡ suc (m + n) = omega arith in e)
    ∙ ap (λ rest. f 0 ∷ rest) (counted_split m n (λ i. f (suc i)) ∙ ap (λ back. counted m (λ i. f (suc i)) ++ back) (counted_same n (λ i. f (suc (m + i))) (λ i. f (suc m + i)) (λ i low. ap f (let e : suc (m + i) ≡ suc m + i = omega arith in e))))

-- a list is counted by its places
pub counted_list : {X : Type 0} (xs : List X) (d : X) → xs ≡ counted (length xs) (λ k. get_or xs k d)
unfolding counted
counted_list [] d = refl
counted_list (x ∷ xs) d = ap (λ rest. x ∷ rest) (counted_list xs d)

numbered_from : {X : Type 0} (start : ℕ) (xs : List X) (d : X) → enumerate_from start xs ≡ counted (length xs) (λ k. (start + k, get_or xs k d))
unfolding counted
numbered_from start [] d = refl
numbered_from {X} start (x ∷ xs) d =
    ap (λ (n : ℕ). (n, x) ∷ enumerate_from (start + 1) xs) (let e : start ≡ start + 0 = omega arith in e)
    ∙ ap (λ (rest : List (ℕ × X)). (start + 0, x) ∷ rest) (numbered_from (start + 1) xs d
    ∙ counted_same (length xs) (λ k. ((start + 1) + k, get_or xs k d)) (λ k. (start + suc k, get_or xs k d)) (λ k low. ap (λ (n : ℕ). (n, get_or xs k d)) (let e : (start + 1) + k ≡ start + suc k = omega arith in e)))

pub numbered_counted : {X : Type 0} (xs : List X) (d : X) → enumerate_from 0 xs ≡ counted (length xs) (λ k. (k, get_or xs k d))
numbered_counted xs d = numbered_from 0 xs d ∙ counted_same (length xs) (λ k. (0 + k, get_or xs k d)) (λ k. (k, get_or xs k d)) (λ k low. ap (λ (n : ℕ). (n, get_or xs k d)) (let e : 0 + k ≡ k = omega arith in e))

-- ---- sums

pub sum_counted : {X Y : Type 0} (n : ℕ) (f : X → ℕ) (at : ℕ → X) (g : Y → ℕ) (place : ℕ → Y) → ((i : ℕ) → i < n → f (at i) ≡ g (place i)) → sum_by f (counted n at) ≡ sum_by g (counted n place)
unfolding counted
sum_counted zero f at g place same = refl
sum_counted (suc n) f at g place same = omega (
  arith,
  same 0 (omega arith),
  sum_counted n f (λ i. at (suc i)) g (λ i. place (suc i)) (λ i low. same (suc i) (omega (arith, low))),
  sum_by-cons f (at 0) (counted n (λ i. at (suc i))),
  sum_by-cons g (place 0) (counted n (λ i. place (suc i))),
)

pub sum_two : {X : Type 0} (f g : X → ℕ) (xs : List X) → sum_by f xs + sum_by g xs ≡ sum_by (λ x. f x + g x) xs
sum_two f g [] = refl
sum_two {X} f g (x ∷ xs) = omega (arith, sum_two f g xs, sum_by-cons f x xs, sum_by-cons g x xs, sum_by-cons (λ y. f y + g y) x xs)
