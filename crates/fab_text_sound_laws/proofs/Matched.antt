-- Lists that match element by element.
use Rattle.std.proofs.Common.{◌≡◌, ℕ, zero, suc, ◌+◌, ◌<◌, List, [], ◌∷◌, slice_get, Some, refl, ap, ◌∙◌, arith, All}
use Rattle.std.specs.List.{AllZip, flat_map, enumerate_from}
use Rattle.std.proofs.lemmas.List.Elements.{All-nil, All-cons, All-head, All-tail, All-weaker}
use Rattle.fab_model.specs.Tiles.{counted}
use Rattle.fab_tiles_sound_laws.proofs.Joins.{zip_append}

module _ {X Y : Type 0} (R : X → Y → Type 0) where
  pub matched_counted : (n : ℕ) (f : ℕ → X) (g : ℕ → Y) → ((i : ℕ) → i < n → R (f i) (g i)) → AllZip R (counted n f) (counted n g)
  unfolding counted
  matched_counted zero f g each = tt
  matched_counted (suc n) f g each = (each 0 (omega arith), matched_counted n (λ i. f (suc i)) (λ i. g (suc i)) (λ i few. each (suc i) (omega arith)))

  pub matched_flat : {Z : Type 0} (f : Z → List X) (g : Z → List Y) (zs : List Z) → All (λ z. AllZip R (f z) (g z)) zs → AllZip R (flat_map f zs) (flat_map g zs)
  matched_flat f g [] each = tt
  matched_flat {Z} f g (z ∷ zs) each =
      zip_append R (f z) (flat_map f zs) (g z) (flat_map g zs) (All-head (λ (w : Z). AllZip R (f w) (g w)) z zs each)
      (matched_flat f g zs (All-tail (λ (w : Z). AllZip R (f w) (g w)) z zs each))

  -- of elements behind their numbers, and of the elements alone
  pub matched_numbered : {Z : Type 0} (f : ℕ × Z → List X) (g : Z → List Y) (first : ℕ) (zs : List Z) → All (λ numbered. AllZip R (f numbered) (g numbered.1)) (enumerate_from first zs) →
      AllZip R (flat_map f (enumerate_from first zs)) (flat_map g zs)
  matched_numbered f g first [] each = tt
  matched_numbered {Z} f g first (z ∷ zs) each =
      zip_append R (f (first, z)) (flat_map f (enumerate_from (first + 1) zs)) (g z) (flat_map g zs)
      (All-head (λ (numbered : ℕ × Z). AllZip R (f numbered) (g numbered.1)) (first, z) (enumerate_from (first + 1) zs) each)
      (matched_numbered f g (first + 1) zs (All-tail (λ (numbered : ℕ × Z). AllZip R (f numbered) (g numbered.1)) (first, z) (enumerate_from (first + 1) zs) each))

  -- what each matched element has
  pub matched_all : (P : X → Type 0) → ((x : X) (y : Y) → R x y → P x) → (xs : List X) (ys : List Y) → AllZip R xs ys → All P xs
  matched_all P has [] [] matched = All-nil P
  matched_all P has [] (y ∷ ys) matched = absurd matched
  matched_all P has (x ∷ xs) [] matched = absurd matched
  matched_all P has (x ∷ xs) (y ∷ ys) matched = All-cons P x xs (has x y matched.0) (matched_all P has xs ys matched.1)

pub matched_weaker : {X Y : Type 0} (R S : X → Y → Type 0) → ((x : X) (y : Y) → R x y → S x y) → (xs : List X) (ys : List Y) → AllZip R xs ys → AllZip S xs ys
matched_weaker R S weaker [] [] matched = tt
matched_weaker R S weaker [] (y ∷ ys) matched = absurd matched
matched_weaker R S weaker (x ∷ xs) [] matched = absurd matched
matched_weaker R S weaker (x ∷ xs) (y ∷ ys) matched = (weaker x y matched.0, matched_weaker R S weaker xs ys matched.1)

-- ---- numbers before elements

record IsNumbered {Z : Type 0} (first : ℕ) (zs : List Z) (numbered : ℕ × Z) : Type 0 where
  number : ℕ
  is : numbered.0 ≡ first + number
  found : slice_get zs number ≡ Some numbered.1

all_are_numbered : {Z : Type 0} (first : ℕ) (zs : List Z) → All (IsNumbered first zs) (enumerate_from first zs)
all_are_numbered {Z} first [] = λ k d within. absurd (omega arith)
all_are_numbered {Z} first (z ∷ zs) =
    All-cons (IsNumbered first (z ∷ zs)) (first, z) (enumerate_from (first + 1) zs) (record { number = 0; is = omega arith; found = refl })
    (All-weaker (IsNumbered (first + 1) zs) (IsNumbered first (z ∷ zs))
    (λ numbered is. record { number = suc is.number; is = omega (arith, is.is); found = is.found }) (enumerate_from (first + 1) zs) (all_are_numbered (first + 1) zs))

pub numbers_find : {Z : Type 0} (zs : List Z) → All (λ numbered. slice_get zs numbered.0 ≡ Some numbered.1) (enumerate_from 0 zs)
numbers_find {Z} zs =
    All-weaker (IsNumbered 0 zs) (λ (numbered : ℕ × Z). slice_get zs numbered.0 ≡ Some numbered.1)
    (λ numbered is. let same : numbered.0 ≡ is.number = omega (arith, is.is) in ap (slice_get zs) same ∙ is.found) (enumerate_from 0 zs) (all_are_numbered 0 zs)
