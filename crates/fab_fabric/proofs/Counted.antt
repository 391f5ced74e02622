-- How many sites of a kind a fabric has.
use Rattle.std.proofs.Common.{◌≡◌, ℕ, suc, ◌+◌, Bool, true, false, cond, List, [], ◌∷◌, ◌++◌, length, map, Option, Some, refl, ap, ◌∙◌, inl, inr, arith, length-append}
use Rattle.std.specs.List.{count_by, enumerate_from, filter, flat_map}
use Rattle.std.proofs.lemmas.Bool.{cases_Bool}
use Rattle.std.proofs.lemmas.List.{append-nil}
use Rattle.std.proofs.lemmas.List.Sums.{sum_by-cons}
use Rattle.std.proofs.lemmas.List.Concat.{flat_map-append}
use Rattle.fab_model.specs.fab_kinds.specs.declared.kind.Kind.{Kind}
use Rattle.fab_fabric.specs.declared.wire.Site.{Site}
use Rattle.fab_model.specs.Tiles.{PlainTile, counted}
use Rattle.fab_model.proofs.Inserts.{counted_more}
use Rattle.fab_fabric.specs.Sites.{same_kind, tile_sites}

-- the first item counts if it passes the test
count_first : {X : Type 0} (test : X → Bool) (x : X) (xs : List X) → count_by test (x ∷ xs) ≡ cond (test x) 1 0 + count_by test xs
count_first test x xs = sum_by-cons (λ y. cond (test y) 1 0) x xs

count_yes : {X : Type 0} (test : X → Bool) (x : X) (xs : List X) → test x ≡ true → count_by test (x ∷ xs) ≡ 1 + count_by test xs
count_yes test x xs is = count_first test x xs ∙ ap (λ (b : Bool). cond {A = ℕ} b 1 0 + count_by test xs) is

count_no : {X : Type 0} (test : X → Bool) (x : X) (xs : List X) → test x ≡ false → count_by test (x ∷ xs) ≡ 0 + count_by test xs
count_no test x xs is = count_first test x xs ∙ ap (λ (b : Bool). cond {A = ℕ} b 1 0 + count_by test xs) is

-- as many items of a numbered list are kept as pass the test
kept_count : {X Y : Type 0} (test : X → Bool) (made : ℕ × X → Y) (start : ℕ) (xs : List X) → length (map made (filter (λ at. test at.1) (enumerate_from start xs))) ≡ count_by test xs
kept_count test made start [] = refl
kept_count {X} test made start (x ∷ xs) =
    let rest = kept_count test made (start + 1) xs in
    let kept : List X → ℕ → ℕ = λ ys n. length (map made (filter (λ at. test at.1) (enumerate_from n ys))) in
    elim (cases_Bool (test x)) [
      | inl t ↦ let more : kept (x ∷ xs) start ≡ suc (kept xs (start + 1)) = rw t in omega (arith, more, rest, count_yes test x xs t)
      | inr f ↦ let same : kept (x ∷ xs) start ≡ kept xs (start + 1) = rw f in omega (arith, same, rest, count_no test x xs f)
    ]

-- the sites of a tile
pub tile_count : (kind : Kind) (x y : ℕ) (found : Option PlainTile) (tile : PlainTile) → found ≡ Some tile → length (tile_sites kind x y found) ≡ count_by (λ bel. same_kind bel.kind kind) tile.bels
tile_count kind x y found tile is =
    ap (λ given. length (tile_sites kind x y given)) is ∙ kept_count (λ bel. same_kind bel.kind kind) (λ bel. record { x = x; y = y; bel = bel.0 }) 0 tile.bels

-- so many sites of the first places, and those of one place more
pub pieces_count : (g : ℕ → List Site) (n before here : ℕ) → before ≡ length (flat_map g (counted n (λ i. i))) → here ≡ length (g n) → before + here ≡ length (flat_map g (counted (n + 1) (λ i. i)))
pieces_count g n before here is also =
    let more : flat_map g (counted (n + 1) (λ i. i)) ≡ flat_map g (counted n (λ i. i)) ++ g n =
    ap (flat_map g) (counted_more n (λ i. i)) ∙ flat_map-append g (counted n (λ i. i)) (n ∷ []) ∙ ap (λ last. flat_map g (counted n (λ i. i)) ++ last) (append-nil (g n)) in
    omega (arith, is, also, ap length more, length-append (flat_map g (counted n (λ i. i))) (g n))

pub no_count : (g : ℕ → List Site) → 0 ≡ length (flat_map g (counted 0 (λ i. i)))
unfolding counted
no_count g = refl
