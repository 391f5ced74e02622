-- Sums over lists that are made in parts.
use Rattle.std.proofs.Common.{◌≡◌, ℕ, suc, ◌+◌, ◌*◌, ◌≤◌, List, [], ◌∷◌, map, length, refl, sym, subst, arith, Option, Some, None, All}
use Rattle.std.specs.List.{flat_map, filter_map, cons_option, sum_by}
use Rattle.std.proofs.lemmas.List.{length-map}
use Rattle.std.proofs.lemmas.List.Concat.{flat_map-cons}
use Rattle.std.proofs.lemmas.List.Elements.{All-map}
use Rattle.std.proofs.lemmas.List.Sums.{sum_by-cons, sum_by-append, sum_by-le}
use Rattle.fab_model.specs.Tiles.{counted}
use Rattle.fab_gen_loader.proofs.Counted.{length-counted}
use Rattle.fab_tile_drives_laws.proofs.Endings.{all_counted}

module _ {X : Type 0} (f : X → ℕ) where
  pub of_counted : (most n : ℕ) (g : ℕ → X) → ((i : ℕ) → f (g i) ≤ most) → sum_by f (counted n g) ≤ n * most
  of_counted most n g each =
      let all = all_counted (λ (x : X). f x ≤ most) n g (λ i few. each i) in
      subst (λ (many : ℕ). sum_by f (counted n g) ≤ many * most) (length-counted n g) (sum_by-le f most (counted n g) all)

  pub of_map : {Y : Type 0} (most : ℕ) (g : Y → X) (ys : List Y) → All (λ y. f (g y) ≤ most) ys → sum_by f (map g ys) ≤ length ys * most
  of_map most g ys each =
      let all = All-map (λ (x : X). f x ≤ most) g ys each in
      subst (λ (many : ℕ). sum_by f (map g ys) ≤ many * most) (length-map ys g) (sum_by-le f most (map g ys) all)

  flat_sum : {Y : Type 0} (g : Y → List X) (ys : List Y) → sum_by f (flat_map g ys) ≡ sum_by (λ y. sum_by f (g y)) ys
  flat_sum g [] = refl
  flat_sum g (y ∷ ys) =
      let parts : sum_by f (flat_map g (y ∷ ys)) ≡ sum_by f (g y) + sum_by f (flat_map g ys) = rw flat_map-cons (sum_by-append f (g y) (flat_map g ys)) in
      omega (arith, parts, flat_sum g ys, sum_by-cons (λ z. sum_by f (g z)) y ys)

  pub of_flat_map : {Y : Type 0} (most : ℕ) (g : Y → List X) (ys : List Y) → All (λ y. sum_by f (g y) ≤ most) ys →
      sum_by f (flat_map g ys) ≤ length ys * most
  of_flat_map most g ys each = subst (λ (sum : ℕ). sum ≤ length ys * most) (sym (flat_sum g ys)) (sum_by-le (λ y. sum_by f (g y)) most ys each)

-- ---- how many there are

one_more : {Y : Type 0} (found : Option Y) (ys : List Y) (most : ℕ) → length ys ≤ most → length (cons_option found ys) ≤ suc most
one_more None ys most few = omega (arith, few)
one_more (Some y) ys most few = omega (arith, few)

pub length_found : {X Y : Type 0} (f : X → Option Y) (xs : List X) → length (filter_map f xs) ≤ length xs
length_found f [] = omega arith
length_found f (x ∷ xs) = one_more (f x) (filter_map f xs) (length xs) (length_found f xs)
