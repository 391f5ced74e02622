-- Sites that are listed one after the other.
use Rattle.std.proofs.Common.{◌≡◌, ℕ, ◌+◌, ◌<◌, ◌≤◌, Bool, true, false, List, [], ◌∷◌, ◌++◌, length, get_or, take, map, zero, suc, refl, sym, ◌∙◌, ap, inl, inr, arith}
use Rattle.std.specs.List.{flat_map, enumerate_from, filter}
use Rattle.std.proofs.lemmas.Bool.{cases_Bool}
use Rattle.std.proofs.lemmas.List.{append-nil, append_assoc, map-append, length-take-le, take_more}
use Rattle.std.proofs.lemmas.List.Concat.{flat_map-append}
use Rattle.fab_model.specs.Tiles.{counted}

-- ---- counted lists

pub counted_last : {X : Type 0} (n : ℕ) (f : ℕ → X) → counted (suc n) f ≡ counted n f ++ f n ∷ []
unfolding counted
counted_last zero f = refl
counted_last (suc n) f = ap (λ rest. f 0 ∷ rest) (counted_last n (λ i. f (suc i)))

pub pieces_more : {Y : Type 0} (g : ℕ → List Y) (n : ℕ) → flat_map g (counted (n + 1) (λ i. i)) ≡ flat_map g (counted n (λ i. i)) ++ g n
pieces_more g n =
    ap (λ m. flat_map g (counted m (λ i. i))) (let e : n + 1 ≡ suc n = omega arith in e) ∙ ap (flat_map g) (counted_last n (λ i. i)) ∙ flat_map-append g (counted n (λ i. i)) (n ∷ []) ∙ ap (λ last. flat_map g (counted n (λ i. i)) ++ last) (append-nil (g n))

pub no_pieces : {Y : Type 0} (g : ℕ → List Y) → flat_map g (counted 0 (λ i. i)) ≡ []
unfolding counted
no_pieces g = refl

-- a piece more behind others
pub behind_more : {Y : Type 0} (old before after : List Y) (g : ℕ → List Y) (n : ℕ) → before ≡ old ++ flat_map g (counted n (λ i. i)) → after ≡ before ++ g n → after ≡ old ++ flat_map g (counted (n + 1) (λ i. i))
behind_more old before after g n is more =
    more ∙ ap (λ front. front ++ g n) is ∙ append_assoc old (flat_map g (counted n (λ i. i))) (g n) ∙ ap (λ back. old ++ back) (sym (pieces_more g n))

pub behind_none : {Y : Type 0} (old : List Y) (g : ℕ → List Y) → old ≡ old ++ flat_map g (counted 0 (λ i. i))
behind_none old g = sym (ap (λ back. old ++ back) (no_pieces g) ∙ append-nil old)

-- ---- what is kept of a numbered list

abbrev pub kept_from : {X Y : Type 0} → (test : X → Bool) → (made : ℕ → Y) → (start : ℕ) → List X → List Y
kept_from {X} test made start xs = map (λ (at : ℕ × X). made at.0) (filter (λ (at : ℕ × X). test at.1) (enumerate_from start xs))

cons_yes : {X Y : Type 0} (test : X → Bool) (made : ℕ → Y) (start : ℕ) (x : X) (xs : List X) → test x ≡ true → kept_from test made start (x ∷ xs) ≡ made start ∷ kept_from test made (start + 1) xs
cons_yes test made start x xs is = rw is

cons_no : {X Y : Type 0} (test : X → Bool) (made : ℕ → Y) (start : ℕ) (x : X) (xs : List X) → test x ≡ false → kept_from test made start (x ∷ xs) ≡ kept_from test made (start + 1) xs
cons_no test made start x xs is = rw is

push_yes : {X Y : Type 0} (test : X → Bool) (made : ℕ → Y) (start : ℕ) (xs : List X) (x : X) → test x ≡ true → kept_from test made start (xs ++ x ∷ []) ≡ kept_from test made start xs ++ made (start + length xs) ∷ []
push_yes test made start [] x is = cons_yes test made start x [] is ∙ ap (λ n. made n ∷ []) (let e : start ≡ start + 0 = omega arith in e)
push_yes test made start (y ∷ ys) x is =
    let later = push_yes test made (start + 1) ys x is ∙ ap (λ n. kept_from test made (start + 1) ys ++ made n ∷ []) (let e : (start + 1) + length ys ≡ start + suc (length ys) = omega arith in e) in
    elim (cases_Bool (test y)) [
      | inl t ↦ cons_yes test made start y (ys ++ x ∷ []) t ∙ ap (λ rest. made start ∷ rest) later ∙ sym (ap (λ front. front ++ made (start + suc (length ys)) ∷ []) (cons_yes test made start y ys t))
      | inr f ↦ cons_no test made start y (ys ++ x ∷ []) f ∙ later ∙ sym (ap (λ front. front ++ made (start + suc (length ys)) ∷ []) (cons_no test made start y ys f))
    ]

push_no : {X Y : Type 0} (test : X → Bool) (made : ℕ → Y) (start : ℕ) (xs : List X) (x : X) → test x ≡ false → kept_from test made start (xs ++ x ∷ []) ≡ kept_from test made start xs
push_no test made start [] x is = cons_no test made start x [] is
push_no test made start (y ∷ ys) x is =
    let later = push_no test made (start + 1) ys x is in
    elim (cases_Bool (test y)) [
      | inl t ↦ cons_yes test made start y (ys ++ x ∷ []) t ∙ ap (λ rest. made start ∷ rest) later ∙ sym (cons_yes test made start y ys t)
      | inr f ↦ cons_no test made start y (ys ++ x ∷ []) f ∙ later ∙ sym (cons_no test made start y ys f)
    ]

-- one more of the list
pub kept_yes : {X Y : Type 0} (test : X → Bool) (made : ℕ → Y) (n : ℕ) (xs : List X) (d : X) → n < length xs → test (get_or xs n d) ≡ true
    → kept_from test made 0 (take (n + 1) xs) ≡ kept_from test made 0 (take n xs) ++ made n ∷ []
kept_yes test made n xs d low is =
    ap (kept_from test made 0) (take_more xs n d low) ∙ push_yes test made 0 (take n xs) (get_or xs n d) is
    ∙ ap (λ m. kept_from test made 0 (take n xs) ++ made m ∷ []) (let inside : n ≤ length xs = omega arith in let e : 0 + length (take n xs) ≡ n = omega (arith, length-take-le n xs inside) in e)

pub kept_no : {X Y : Type 0} (test : X → Bool) (made : ℕ → Y) (n : ℕ) (xs : List X) (d : X) → n < length xs → test (get_or xs n d) ≡ false
    → kept_from test made 0 (take (n + 1) xs) ≡ kept_from test made 0 (take n xs)
kept_no test made n xs d low is = ap (kept_from test made 0) (take_more xs n d low) ∙ push_no test made 0 (take n xs) (get_or xs n d) is

-- ---- more of a list behind others

pub none_behind : {X : Type 0} (old : List X) (f : ℕ → X) → old ≡ old ++ counted 0 f
unfolding counted
none_behind old f = sym (append-nil old)

pub counted_behind : {X : Type 0} (old before after : List X) (f : ℕ → X) (n : ℕ) → before ≡ old ++ counted n f → after ≡ before ++ f n ∷ [] → after ≡ old ++ counted (n + 1) f
counted_behind old before after f n is more =
    more ∙ ap (λ front. front ++ f n ∷ []) is ∙ append_assoc old (counted n f) (f n ∷ [])
    ∙ ap (λ back. old ++ back) (sym (counted_last n f) ∙ ap (λ m. counted m f) (let e : suc n ≡ n + 1 = omega arith in e))

-- the pieces of one item more
pub mapped_behind : {X Y : Type 0} (old before after : List Y) (g : X → List Y) (xs : List X) (n : ℕ) (d : X) → n < length xs → before ≡ old ++ flat_map g (take n xs) → after ≡ before ++ g (get_or xs n d)
    → after ≡ old ++ flat_map g (take (n + 1) xs)
mapped_behind old before after g xs n d low is more =
    more ∙ ap (λ front. front ++ g (get_or xs n d)) is ∙ append_assoc old (flat_map g (take n xs)) (g (get_or xs n d))
    ∙ ap (λ back. old ++ back) (sym (ap (flat_map g) (take_more xs n d low) ∙ flat_map-append g (take n xs) (get_or xs n d ∷ []) ∙ ap (λ last. flat_map g (take n xs) ++ last) (append-nil (g (get_or xs n d)))))

numbered_push : {X : Type 0} (start : ℕ) (xs : List X) (x : X) → enumerate_from start (xs ++ x ∷ []) ≡ enumerate_from start xs ++ (start + length xs, x) ∷ []
numbered_push start [] x = ap (λ n. (n, x) ∷ []) (let e : start ≡ start + 0 = omega arith in e)
numbered_push start (y ∷ ys) x =
    ap (λ rest. (start, y) ∷ rest) (numbered_push (start + 1) ys x ∙ ap (λ n. enumerate_from (start + 1) ys ++ (n, x) ∷ []) (let e : (start + 1) + length ys ≡ start + suc (length ys) = omega arith in e))

pub numbered_more : {X : Type 0} (xs : List X) (n : ℕ) (d : X) → n < length xs → enumerate_from 0 (take (n + 1) xs) ≡ enumerate_from 0 (take n xs) ++ (n, get_or xs n d) ∷ []
numbered_more xs n d low =
    ap (enumerate_from 0) (take_more xs n d low) ∙ numbered_push 0 (take n xs) (get_or xs n d)
    ∙ ap (λ m. enumerate_from 0 (take n xs) ++ (m, get_or xs n d) ∷ []) (let inside : n ≤ length xs = omega arith in let e : 0 + length (take n xs) ≡ n = omega (arith, length-take-le n xs inside) in e)

pub numbered_behind : {X Y : Type 0} (old before after : List Y) (g : ℕ × X → List Y) (xs : List X) (n : ℕ) (d : X) → n < length xs → before ≡ old ++ flat_map g (enumerate_from 0 (take n xs)) → after ≡ before ++ g (n, get_or xs n d)
    → after ≡ old ++ flat_map g (enumerate_from 0 (take (n + 1) xs))
numbered_behind old before after g xs n d low is more =
    more ∙ ap (λ front. front ++ g (n, get_or xs n d)) is ∙ append_assoc old (flat_map g (enumerate_from 0 (take n xs))) (g (n, get_or xs n d))
    ∙ ap (λ back. old ++ back) (sym (ap (flat_map g) (numbered_more xs n d low) ∙ flat_map-append g (enumerate_from 0 (take n xs)) ((n, get_or xs n d) ∷ [])
    ∙ ap (λ last. flat_map g (enumerate_from 0 (take n xs)) ++ last) (append-nil (g (n, get_or xs n d)))))

pub numbered_map_more : {X Y : Type 0} (before after : List Y) (g : ℕ × X → Y) (xs : List X) (n : ℕ) (d : X) → n < length xs → before ≡ map g (enumerate_from 0 (take n xs)) → after ≡ before ++ g (n, get_or xs n d) ∷ []
    → after ≡ map g (enumerate_from 0 (take (n + 1) xs))
numbered_map_more before after g xs n d low is more =
    more ∙ ap (λ front. front ++ g (n, get_or xs n d) ∷ []) is
    ∙ sym (ap (map g) (numbered_more xs n d low) ∙ map-append g (enumerate_from 0 (take n xs)) ((n, get_or xs n d) ∷ []))

-- one item more that is mapped
pub pushed_map : {X Y : Type 0} (old before after : List Y) (f : X → Y) (xs : List X) (n : ℕ) (d : X) → n < length xs → before ≡ old ++ map f (take n xs) → after ≡ before ++ f (get_or xs n d) ∷ [] → after ≡ old ++ map f (take (n + 1) xs)
pushed_map old before after f xs n d low is more =
    more ∙ ap (λ front. front ++ f (get_or xs n d) ∷ []) is ∙ append_assoc old (map f (take n xs)) (f (get_or xs n d) ∷ [])
    ∙ ap (λ back. old ++ back) (sym (ap (map f) (take_more xs n d low) ∙ map-append f (take n xs) (get_or xs n d ∷ [])))
