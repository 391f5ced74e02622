-- Items of joined lists and of counted lists.
use Rattle.std.proofs.Common.{◌≡◌, ℕ, zero, suc, ◌+◌, ◌-◌, ◌*◌, ◌<◌, ◌≤◌, List, [], ◌∷◌, ◌++◌, Some, None, length, reverse, slice_get, refl, sym, ap, ◌∙◌, arith, inl, inr, length-append, append_assoc}
use Rattle.std.specs.List.{flat_map}
use Rattle.std.proofs.lemmas.Bool.{cases_lt}
use Rattle.std.proofs.lemmas.List.{append-nil, reverse-append}
use Rattle.std.proofs.lemmas.List.Concat.{flat_map-append}
use Rattle.std.proofs.lemmas.Option.{slice_get_within, same_Some}
use Rattle.fab_model.specs.Tiles.{counted}

-- ---- joined lists

pub get_left : {X : Type 0} (xs ys : List X) (i : ℕ) → i < length xs → slice_get (xs ++ ys) i ≡ slice_get xs i
get_left [] ys i few = absurd (omega (arith, few))
get_left (x ∷ xs) ys zero few = refl
get_left (x ∷ xs) ys (suc i) few = get_left xs ys i (omega (arith, few))

pub get_right : {X : Type 0} (xs ys : List X) (i j : ℕ) → i ≡ length xs + j → slice_get (xs ++ ys) i ≡ slice_get ys j
get_right [] ys i j is = ap (slice_get ys) (omega (arith, is))
get_right (x ∷ xs) ys zero j is = absurd (omega (arith, is))
get_right (x ∷ xs) ys (suc i) j is = get_right xs ys i j (omega (arith, is))

-- ---- counted lists

pub length_counted : {X : Type 0} (n : ℕ) (f : ℕ → X) → length (counted n f) ≡ n
unfolding counted
length_counted zero f = refl
length_counted (suc n) f = omega (arith, length_counted n (λ i. f (suc i)))

pub get_counted : {X : Type 0} (n : ℕ) (f : ℕ → X) (i : ℕ) → i < n → slice_get (counted n f) i ≡ Some (f i)
unfolding counted
get_counted zero f i few = absurd (omega (arith, few))
get_counted (suc n) f zero few = refl
get_counted (suc n) f (suc i) few = get_counted n (λ i. f (suc i)) i (omega (arith, few))

pub no_counted : {X : Type 0} (f : ℕ → X) → counted 0 f ≡ []
unfolding counted
no_counted f = refl

counted_last : {X : Type 0} (n : ℕ) (f : ℕ → X) → counted (suc n) f ≡ counted n f ++ f n ∷ []
unfolding counted
counted_last zero f = refl
counted_last (suc n) f = ap (λ rest. f 0 ∷ rest) (counted_last n (λ i. f (suc i)))

pub counted_more : {X : Type 0} (n : ℕ) (f : ℕ → X) → counted (n + 1) f ≡ counted n f ++ f n ∷ []
counted_more n f = ap (λ m. counted m f) (omega arith) ∙ counted_last n f

-- an item is that of its place
pub counted_item : {X : Type 0} (n : ℕ) (f : ℕ → X) (i : ℕ) (x : X) → slice_get (counted n f) i ≡ Some x → (i < n) × (f i ≡ x)
counted_item n f i x is =
    let within : i < length (counted n f) = slice_get_within (counted n f) i x is in
    let few : i < n = omega (arith, within, length_counted n f) in
    (few, same_Some (f i) x (sym (get_counted n f i few) ∙ is))

-- ---- counted lists turned round

pub reversed_last : {X : Type 0} (n : ℕ) (f : ℕ → X) → reverse (counted (n + 1) f) ≡ f n ∷ reverse (counted n f)
reversed_last n f = ap reverse (counted_more n f) ∙ reverse-append (counted n f) (f n ∷ [])

-- the item that has i items behind it is that of i
pub get_reversed : {X : Type 0} (n : ℕ) (f : ℕ → X) (i k : ℕ) → k + suc i ≡ n → slice_get (reverse (counted n f)) k ≡ Some (f i)
get_reversed zero f i k at = absurd (omega (arith, at))
get_reversed (suc n) f i zero at =
    let next : suc n ≡ n + 1 = omega arith in
    let last : n ≡ i = omega (arith, at) in
    ap (λ m. slice_get (reverse (counted m f)) 0) next ∙ ap (λ xs. slice_get xs 0) (reversed_last n f) ∙ ap (λ m. Some (f m)) last
get_reversed (suc n) f i (suc k) at =
    let next : suc n ≡ n + 1 = omega arith in
    ap (λ m. slice_get (reverse (counted m f)) (suc k)) next ∙ ap (λ xs. slice_get xs (suc k)) (reversed_last n f) ∙ get_reversed n f i k (omega (arith, at))

pub reversed_item : {X : Type 0} (n : ℕ) (f : ℕ → X) (k : ℕ) (x : X) → slice_get (reverse (counted n f)) k ≡ Some x → (i : ℕ) × (k + suc i ≡ n) × (f i ≡ x)
reversed_item zero f k x is =
    let none : None ≡ Some x = ap (λ xs. slice_get (reverse xs) k) (sym (no_counted f)) ∙ is in
    cc
reversed_item (suc n) f zero x is =
    let next : suc n ≡ n + 1 = omega arith in
    let there : Some (f n) ≡ Some x = sym (ap (λ m. slice_get (reverse (counted m f)) 0) next ∙ ap (λ xs. slice_get xs 0) (reversed_last n f)) ∙ is in
    (n, omega arith, same_Some (f n) x there)
reversed_item (suc n) f (suc k) x is =
    let next : suc n ≡ n + 1 = omega arith in
    let there : slice_get (reverse (counted n f)) k ≡ Some x =
    sym (ap (λ m. slice_get (reverse (counted m f)) (suc k)) next ∙ ap (λ xs. slice_get xs (suc k)) (reversed_last n f)) ∙ is in
    let found = reversed_item n f k x there in
    (found.0, omega (arith, found.1), found.2)

-- one item less of the rest
pub reversed_more : {X : Type 0} (n : ℕ) (f : ℕ → X) (items whole : List X) (item : X) → items ++ reverse (counted (n + 1) f) ≡ whole → item ≡ f n →
    (items ++ item ∷ []) ++ reverse (counted n f) ≡ whole
reversed_more n f items whole item so_far is =
    append_assoc items (item ∷ []) (reverse (counted n f))
    ∙ ap (λ x. items ++ x ∷ reverse (counted n f)) is
    ∙ ap (λ rest. items ++ rest) (sym (reversed_last n f))
    ∙ so_far

-- ---- lists of counted pieces

pub pieces_more : {X Y : Type 0} (g : X → List Y) (n : ℕ) (f : ℕ → X) → flat_map g (counted (n + 1) f) ≡ flat_map g (counted n f) ++ g (f n)
pieces_more g n f =
    ap (flat_map g) (counted_more n f) ∙ flat_map-append g (counted n f) (f n ∷ []) ∙ ap (λ last. flat_map g (counted n f) ++ last) (append-nil (g (f n)))

pub no_pieces : {X Y : Type 0} (g : X → List Y) (f : ℕ → X) → flat_map g (counted 0 f) ≡ []
no_pieces g f = ap (flat_map g) (no_counted f)

-- as a list grows behind others

pub none_behind : {X : Type 0} (items : List X) (f : ℕ → X) → items ≡ items ++ counted 0 f
none_behind items f = sym (ap (λ more. items ++ more) (no_counted f) ∙ append-nil items)

pub one_behind : {X : Type 0} (items last new : List X) (n : ℕ) (f : ℕ → X) → last ≡ items ++ counted n f → new ≡ last ++ f n ∷ [] → new ≡ items ++ counted (n + 1) f
one_behind items last new n f so_far new_is =
    new_is ∙ ap (λ xs. xs ++ f n ∷ []) so_far ∙ append_assoc items (counted n f) (f n ∷ []) ∙ ap (λ more. items ++ more) (sym (counted_more n f))

pub no_piece_behind : {Y : Type 0} (items : List Y) (g : ℕ → List Y) → items ≡ items ++ flat_map g (counted 0 (λ i. i))
no_piece_behind items g = sym (ap (λ more. items ++ more) (no_pieces g (λ i. i)) ∙ append-nil items)

pub one_piece_behind : {Y : Type 0} (items last new : List Y) (n : ℕ) (g : ℕ → List Y) → last ≡ items ++ flat_map g (counted n (λ i. i)) → new ≡ last ++ g n →
    new ≡ items ++ flat_map g (counted (n + 1) (λ i. i))
one_piece_behind items last new n g so_far new_is =
    new_is ∙ ap (λ xs. xs ++ g n) so_far ∙ append_assoc items (flat_map g (counted n (λ i. i))) (g n) ∙ ap (λ more. items ++ more) (sym (pieces_more g n (λ i. i)))

-- ---- lists of counted pieces of any lengths

-- where the piece of a number begins
abbrev pub before_piece : {Y : Type 0} → (g : ℕ → List Y) → (n : ℕ) → ℕ
before_piece g n = length (flat_map g (counted n (λ i. i)))

next_piece_is : {Y : Type 0} (g : ℕ → List Y) (n : ℕ) → flat_map g (counted (suc n) (λ i. i)) ≡ flat_map g (counted n (λ i. i)) ++ g n
next_piece_is g n = (let next : suc n ≡ n + 1 = omega arith in ap (λ m. flat_map g (counted m (λ i. i))) next) ∙ pieces_more g n (λ i. i)

pub get_in_piece : {Y : Type 0} (g : ℕ → List Y) (n i j : ℕ) (y : Y) → i < n → slice_get (g i) j ≡ Some y → slice_get (flat_map g (counted n (λ i. i))) (before_piece g i + j) ≡ Some y
get_in_piece g zero i j y few is = absurd (omega (arith, few))
get_in_piece g (suc n) i j y few is =
    let front = flat_map g (counted n (λ i. i)) in
    ap (λ xs. slice_get xs (before_piece g i + j)) (next_piece_is g n)
    ∙ elim (cases_lt i n) [
      | inl less ↦ (
          let there = get_in_piece g n i j y less is in
          get_left front (g n) (before_piece g i + j) (slice_get_within front (before_piece g i + j) y there) ∙ there)
      | inr past ↦ (
          let last : i ≡ n = omega (arith, few, past) in
          get_right front (g n) (before_piece g i + j) j (ap (λ k. before_piece g k + j) last) ∙ ap (λ k. slice_get (g k) j) (sym last) ∙ is)
    ]

-- the piece of an item, and where it stands in it
pub record IsOfPiece {Y : Type 0} (g : ℕ → List Y) (n k : ℕ) (y : Y) : Type 0 where
  pub i : ℕ
  pub j : ℕ
  pub few : i < n
  pub item : slice_get (g i) j ≡ Some y
  pub at : k ≡ before_piece g i + j

of_earlier_piece : {Y : Type 0} (g : ℕ → List Y) (n k : ℕ) (y : Y) → IsOfPiece g n k y → IsOfPiece g (suc n) k y
of_earlier_piece g n k y found = record {
  i = found.i;
  j = found.j;
  few = omega (arith, found.few);
  item = found.item;
  at = found.at;
}

pub of_piece : {Y : Type 0} (g : ℕ → List Y) (n k : ℕ) (y : Y) → slice_get (flat_map g (counted n (λ i. i))) k ≡ Some y → IsOfPiece g n k y
of_piece g zero k y is = let none : None ≡ Some y = ap (λ xs. slice_get xs k) (sym (no_pieces g (λ i. i))) ∙ is in cc
of_piece g (suc n) k y is =
    let front = flat_map g (counted n (λ i. i)) in
    let there : slice_get (front ++ g n) k ≡ Some y = ap (λ xs. slice_get xs k) (sym (next_piece_is g n)) ∙ is in
    elim (cases_lt k (length front)) [
      | inl less ↦ of_earlier_piece g n k y (of_piece g n k y (sym (get_left front (g n) k less) ∙ there))
      | inr past ↦ record {
        i = n;
        j = k - length front;
        few = omega arith;
        item = sym (get_right front (g n) k (k - length front) (omega (arith, past))) ∙ there;
        at = omega (arith, past);
      }
    ]

-- ---- pieces that all have one length

first_piece : {X Y : Type 0} (g : X → List Y) (n : ℕ) (f : ℕ → X) → flat_map g (counted (suc n) f) ≡ g (f 0) ++ flat_map g (counted n (λ i. f (suc i)))
unfolding counted
first_piece g n f = refl

-- how long they are together
pub length_pieces : {X Y : Type 0} (g : X → List Y) (m n : ℕ) (f : ℕ → X) → ((i : ℕ) → length (g (f i)) ≡ m) → length (flat_map g (counted n f)) ≡ n * m
length_pieces g m zero f long = ap length (no_pieces g f) ∙ omega arith
length_pieces g m (suc n) f long =
    let rest : length (flat_map g (counted n (λ i. f (suc i)))) ≡ n * m = length_pieces g m n (λ i. f (suc i)) (λ i. long (suc i)) in
    let here : length (g (f 0)) ≡ m = long 0 in
    ap length (first_piece g n f) ∙ length-append (g (f 0)) (flat_map g (counted n (λ i. f (suc i)))) ∙ omega (arith, rest, here)

-- the item of a piece
pub get_piece : {X Y : Type 0} (g : X → List Y) (m n : ℕ) (f : ℕ → X) (i j : ℕ) → ((i : ℕ) → length (g (f i)) ≡ m) → i < n → j < m →
    slice_get (flat_map g (counted n f)) (i * m + j) ≡ slice_get (g (f i)) j
get_piece g m zero f i j long few low = absurd (omega (arith, few))
get_piece g m (suc n) f zero j long few low =
    let here : 0 * m + j < length (g (f 0)) = omega (arith, long 0, low) in
    let at : 0 * m + j ≡ j = omega arith in
    ap (λ xs. slice_get xs (0 * m + j)) (first_piece g n f) ∙ get_left (g (f 0)) (flat_map g (counted n (λ i. f (suc i)))) (0 * m + j) here ∙ ap (slice_get (g (f 0))) at
get_piece g m (suc n) f (suc i) j long few low =
    let past : suc i * m + j ≡ length (g (f 0)) + (i * m + j) = omega (arith, long 0) in
    ap (λ xs. slice_get xs (suc i * m + j)) (first_piece g n f)
    ∙ get_right (g (f 0)) (flat_map g (counted n (λ i. f (suc i)))) (suc i * m + j) (i * m + j) past
    ∙ get_piece g m n (λ i. f (suc i)) i j (λ i. long (suc i)) (omega (arith, few)) low

-- the piece of an item, and where it stands in it
pub record IsInPiece {X Y : Type 0} (g : X → List Y) (m n : ℕ) (f : ℕ → X) (k : ℕ) (y : Y) : Type 0 where
  pub i : ℕ
  pub j : ℕ
  pub few : i < n
  pub low : j < m
  pub item : slice_get (g (f i)) j ≡ Some y
  pub at : k ≡ i * m + j

next_piece : {X Y : Type 0} (g : X → List Y) (m n : ℕ) (f : ℕ → X) (k : ℕ) (y : Y) → m ≤ k → IsInPiece g m n (λ i. f (suc i)) (k - m) y → IsInPiece g m (suc n) f k y
next_piece g m n f k y past found = record {
  i = suc found.i;
  j = found.j;
  few = omega (arith, found.few);
  low = found.low;
  item = found.item;
  at = omega (arith, found.at, past);
}

pub piece_found : {X Y : Type 0} (g : X → List Y) (m n : ℕ) (f : ℕ → X) (k : ℕ) (y : Y) → ((i : ℕ) → length (g (f i)) ≡ m) →
    slice_get (flat_map g (counted n f)) k ≡ Some y → IsInPiece g m n f k y
piece_found g m zero f k y long is = let none : None ≡ Some y = ap (λ xs. slice_get xs k) (sym (no_pieces g f)) ∙ is in cc
piece_found g m (suc n) f k y long is =
    let rest = flat_map g (counted n (λ i. f (suc i))) in
    let there : slice_get (g (f 0) ++ rest) k ≡ Some y = ap (λ xs. slice_get xs k) (sym (first_piece g n f)) ∙ is in
    elim (cases_lt k m) [
      | inl less ↦ (
          let here : slice_get (g (f 0)) k ≡ Some y = sym (get_left (g (f 0)) rest k (omega (arith, long 0, less))) ∙ there in
          record { i = 0; j = k; few = omega arith; low = less; item = here; at = omega arith })
      | inr past ↦ (
          let behind : slice_get rest (k - m) ≡ Some y = sym (get_right (g (f 0)) rest k (k - m) (omega (arith, long 0, past))) ∙ there in
          next_piece g m n f k y past (piece_found g m n (λ i. f (suc i)) (k - m) y (λ i. long (suc i)) behind))
    ]
