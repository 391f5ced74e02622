-- Features are added, and their line numbers go on.
use Rattle.std.proofs.Common.{◌≡◌, ℕ, suc, ◌+◌, List, [], ◌∷◌, ◌++◌, length, take, Option, Some, None, sym, refl, ap, ◌∙◌, append-nil, append_assoc, arith}
use Rattle.std.specs.List.{flat_map, filter_map}
use Rattle.std.proofs.lemmas.List.Concat.{flat_map-append, flat_map-cons}
use Rattle.std.proofs.lemmas.List.Elements.{filter_map-append}
use Rattle.std.proofs.lemmas.List.{length-append}
use Rattle.fab_model.specs.Tiles.{counted}
use Rattle.fab_model.proofs.Inserts.{counted_more}
use Rattle.fab_netlist.specs.Plain.{IsAt}
use Rattle.fab_legal.proofs.Members.{taken_more}
use Rattle.fab_fasm.specs.declared.feature.Feature.{Feature}
use Rattle.fab_fasm.specs.Printing.{line_by_line}
use Rattle.fab_features.specs.inner.Listing.{Pushes}

pub pushes_none : (old : List Feature) → Pushes old old []
pushes_none old = sym (append-nil old)

numbered_append : (n : ℕ) (xs ys : List Feature) → line_by_line n (xs ++ ys) ≡ line_by_line n xs ++ line_by_line (n + length xs) ys
numbered_append n [] ys = ap (λ k. line_by_line k ys) (omega arith)
numbered_append n (x ∷ xs) ys =
    ap (λ more. record x { line = n } ∷ more) (numbered_append (n + 1) xs ys ∙ ap (λ k. line_by_line (n + 1) xs ++ line_by_line k ys) (omega arith))

length_numbered : (n : ℕ) (xs : List Feature) → length (line_by_line n xs) ≡ length xs
length_numbered n [] = refl
length_numbered n (x ∷ xs) = ap suc (length_numbered (n + 1) xs)

pub pushes_both : (a b c xs ys : List Feature) → Pushes a b xs → Pushes b c ys → Pushes a c (xs ++ ys)
pushes_both a b c xs ys first second =
    let many : length b + 1 ≡ length a + 1 + length xs = omega (arith, ap length first, length-append a (line_by_line (length a + 1) xs), length_numbered (length a + 1) xs) in
    second
    ∙ ap (λ front. front ++ line_by_line (length b + 1) ys) first
    ∙ append_assoc a (line_by_line (length a + 1) xs) (line_by_line (length b + 1) ys)
    ∙ ap (λ n. a ++ (line_by_line (length a + 1) xs ++ line_by_line n ys)) many
    ∙ ap (λ more. a ++ more) (sym (numbered_append (length a + 1) xs ys))

pub pushes_same : (a b xs ys : List Feature) → xs ≡ ys → Pushes a b xs → Pushes a b ys
pushes_same a b xs ys same pushes = pushes ∙ ap (λ more. a ++ line_by_line (length a + 1) more) same

-- ---- in loops

flat_one : {X Y : Type 0} (f : X → List Y) (x : X) → flat_map f (x ∷ []) ≡ f x
flat_one f x = flat_map-cons f x [] ∙ append-nil (f x)

pub flat_more : {Y : Type 0} (f : ℕ → List Y) (n : ℕ) → flat_map f (counted n (λ i. i)) ++ f n ≡ flat_map f (counted (n + 1) (λ i. i))
flat_more f n =
    sym (ap (flat_map f) (counted_more n (λ i. i)) ∙ flat_map-append f (counted n (λ i. i)) (n ∷ []) ∙ ap (λ more. flat_map f (counted n (λ i. i)) ++ more) (flat_one f n))

-- one more that is there, or is not
pub some_more : {X Y : Type 0} (f : X → Option Y) (xs : List X) (n : ℕ) (x : X) (y : Y) → IsAt xs n x → f x ≡ Some y → filter_map f (take n xs) ++ y ∷ [] ≡ filter_map f (take (n + 1) xs)
some_more f xs n x y at is =
    sym (ap (filter_map f) (taken_more xs n x at) ∙ filter_map-append f (take n xs) (x ∷ []) ∙ ap (λ more. filter_map f (take n xs) ++ more) (rw is refl))

pub none_more : {X Y : Type 0} (f : X → Option Y) (xs : List X) (n : ℕ) (x : X) → IsAt xs n x → f x ≡ None → filter_map f (take n xs) ≡ filter_map f (take (n + 1) xs)
none_more f xs n x at is =
    sym (ap (filter_map f) (taken_more xs n x at) ∙ filter_map-append f (take n xs) (x ∷ []) ∙ ap (λ more. filter_map f (take n xs) ++ more) (rw is refl) ∙ append-nil (filter_map f (take n xs)))

-- the same of counted items, and what stands for each
pub some_counted : {Y Z : Type 0} (g : Y → List Z) (f : ℕ → Option Y) (n : ℕ) (y : Y) → f n ≡ Some y →
    flat_map g (filter_map f (counted n (λ i. i))) ++ g y ≡ flat_map g (filter_map f (counted (n + 1) (λ i. i)))
some_counted g f n y is =
    sym (
    ap (λ is. flat_map g (filter_map f is)) (counted_more n (λ i. i))
    ∙ ap (flat_map g) (filter_map-append f (counted n (λ i. i)) (n ∷ []))
    ∙ flat_map-append g (filter_map f (counted n (λ i. i))) (filter_map f (n ∷ []))
    ∙ ap (λ more. flat_map g (filter_map f (counted n (λ i. i))) ++ more) (rw is (flat_one g y)))

pub none_counted : {Y Z : Type 0} (g : Y → List Z) (f : ℕ → Option Y) (n : ℕ) → f n ≡ None →
    flat_map g (filter_map f (counted n (λ i. i))) ≡ flat_map g (filter_map f (counted (n + 1) (λ i. i)))
none_counted g f n is =
    sym (
    ap (λ is. flat_map g (filter_map f is)) (counted_more n (λ i. i))
    ∙ ap (flat_map g) (filter_map-append f (counted n (λ i. i)) (n ∷ []) ∙ ap (λ more. filter_map f (counted n (λ i. i)) ++ more) (rw is refl) ∙ append-nil (filter_map f (counted n (λ i. i)))))

pub lists_more : {Y Z : Type 0} (g : Y → List Z) (f : ℕ → List Y) (n : ℕ) → flat_map g (flat_map f (counted n (λ i. i))) ++ flat_map g (f n) ≡ flat_map g (flat_map f (counted (n + 1) (λ i. i)))
lists_more g f n = sym (ap (flat_map g) (sym (flat_more f n)) ∙ flat_map-append g (flat_map f (counted n (λ i. i))) (f n))

counted_none : {X : Type 0} (f : ℕ → X) → counted 0 f ≡ []
unfolding counted
counted_none f = refl

pub none_flat : (old : List Feature) (f : ℕ → List Feature) → Pushes old old (flat_map f (counted 0 (λ i. i)))
none_flat old f = pushes_same old old [] (flat_map f (counted 0 (λ i. i))) (sym (ap (flat_map f) (counted_none (λ i. i)))) (pushes_none old)

pub none_filtered : {Y : Type 0} (old : List Feature) (g : Y → List Feature) (f : ℕ → Option Y) → Pushes old old (flat_map g (filter_map f (counted 0 (λ i. i))))
none_filtered old g f = pushes_same old old [] (flat_map g (filter_map f (counted 0 (λ i. i)))) (sym (ap (λ is. flat_map g (filter_map f is)) (counted_none (λ i. i)))) (pushes_none old)

pub none_listed : {Y : Type 0} (old : List Feature) (g : Y → List Feature) (f : ℕ → List Y) → Pushes old old (flat_map g (flat_map f (counted 0 (λ i. i))))
none_listed old g f = pushes_same old old [] (flat_map g (flat_map f (counted 0 (λ i. i)))) (sym (ap (λ is. flat_map g (flat_map f is)) (counted_none (λ i. i)))) (pushes_none old)

pub more_flat : (old middle new : List Feature) (f : ℕ → List Feature) (n : ℕ) → Pushes old middle (flat_map f (counted n (λ i. i))) → Pushes middle new (f n) → Pushes old new (flat_map f (counted (n + 1) (λ i. i)))
more_flat old middle new f n first second =
    pushes_same old new (flat_map f (counted n (λ i. i)) ++ f n) (flat_map f (counted (n + 1) (λ i. i))) (flat_more f n) (pushes_both old middle new (flat_map f (counted n (λ i. i))) (f n) first second)
