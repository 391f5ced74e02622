-- The stream of some columns is put together of slices of the whole stream.
use Rattle.std.proofs.Common.{◌≡◌, ℕ, zero, suc, ◌+◌, ◌*◌, ◌-◌, ◌<◌, ◌≤◌, ◌∙◌, List, [], ◌∷◌, ◌++◌, length, map, drop, slice_range, nat_le, true, refl, sym, ap, ap₂, arith, inl, inr}
use Rattle.std.specs.List.{flat_map}
use Rattle.std.proofs.Math.Seq.{drop-append_seam, drop-append-add}
use Rattle.std.proofs.Math.Nat.{add-mul}
use Rattle.std.proofs.lemmas.Bool.{lt-leb}
use Rattle.std.proofs.lemmas.Bool.Decides.{leb_tells}
use Rattle.std.proofs.lemmas.List.{map-append, append-nil, append_assoc, append_cancel_right, length-append, length-map}
use Rattle.std.proofs.lemmas.List.Folds.{drop_split}
use Rattle.std.proofs.lemmas.Grind.{flat_map-append}
use Rattle.fab_implementation.specs.fab_model.specs.declared.mode.Mode.TheVariants as modes
use Rattle.fab_implementation.specs.fab_model.specs.Tiles.{counted}
use Rattle.fab_implementation.specs.fab_model.specs.Grid.{PlainFabric}
use Rattle.fab_implementation.specs.fab_model.specs.Drive.{PlainBits}
use Rattle.fab_frames.specs.Stream.{stream_mode, Part, fixed, of_row, header, waiting_word, waiting_words, frame_parts, column_parts, word_of, stream}
use Rattle.fab_frames.proofs.Lists.{length_counted, length_pieces}
use Rattle.fab_frames.proofs.Modes.{frames_parts}
use Rattle.fab_partial.specs.Columns.{chosen_parts, partial_parts, partial_stream}

-- ---- lists

-- the slice that stands between two others
between : (a b c : List ℕ) → slice_range (a ++ (b ++ c)) (length a) (length a + length b) ≡ b
between a b c =
    let all = a ++ (b ++ c) in
    let split : drop (length a) all ≡ slice_range all (length a) (length a + length b) ++ drop (length a + length b) all = drop_split all (length a) (length a + length b) (omega arith) in
    let first : drop (length a) all ≡ b ++ c = drop-append_seam a (b ++ c) in
    let rest : drop (length a + length b) all ≡ c = drop-append-add a (b ++ c) (length b) ∙ drop-append_seam b c in
    append_cancel_right (slice_range all (length a) (length a + length b)) b c (ap (λ back. slice_range all (length a) (length a + length b) ++ back) (sym rest) ∙ sym split ∙ first)

counted_same : {X : Type 0} (n : ℕ) (f g : ℕ → X) → ((i : ℕ) → f i ≡ g i) → counted n f ≡ counted n g
unfolding counted
counted_same zero f g each = refl
counted_same (suc n) f g each = (let rest = counted_same n (λ i. f (suc i)) (λ i. g (suc i)) (λ i. each (suc i)) in λ j. each 0 j ∷ rest j)

-- what is counted in two turns
counted_both : {X : Type 0} (a b : ℕ) (f : ℕ → X) → counted (a + b) f ≡ counted a f ++ counted b (λ i. f (a + i))
unfolding counted
counted_both zero b f =
    let e : 0 + b ≡ b = omega arith in
    ap (λ n. counted n f) e ∙ counted_same b f (λ i. f (0 + i)) (λ i. let same : i ≡ 0 + i = omega arith in ap f same)
counted_both (suc a) b f =
    let e : suc a + b ≡ suc (a + b) = omega arith in
    ap (λ n. counted n f) e
    ∙ ap (λ rest. f 0 ∷ rest) (counted_both a b (λ i. f (suc i))
    ∙ ap (λ back. counted a (λ i. f (suc i)) ++ back) (counted_same b (λ i. f (suc (a + i))) (λ i. f (suc a + i)) (λ i. let same : suc (a + i) ≡ suc a + i = omega arith in ap f same)))

pieces_alike : {X : Type 0} (g h : ℕ → List X) (n : ℕ) (f : ℕ → ℕ) → ((i : ℕ) → i < n → g (f i) ≡ h (f i)) → flat_map g (counted n f) ≡ flat_map h (counted n f)
unfolding counted
pieces_alike g h zero f each = refl
pieces_alike g h (suc n) f each = ap₂ (λ front back. front ++ back) (each 0 (omega arith)) (pieces_alike g h n (λ i. f (suc i)) (λ i few. each (suc i) (omega arith)))

pieces_none : {X : Type 0} (g : ℕ → List X) (n : ℕ) (f : ℕ → ℕ) → ((i : ℕ) → i < n → g (f i) ≡ []) → flat_map g (counted n f) ≡ []
unfolding counted
pieces_none g zero f each = refl
pieces_none g (suc n) f each = ap₂ (λ front back. front ++ back) (each 0 (omega arith)) (pieces_none g n (λ i. f (suc i)) (λ i few. each (suc i) (omega arith)))

le_leb : (a b : ℕ) → a ≤ b → nat_le a b ≡ true
le_leb a b le = elim (leb_tells a b) [ inl holds ↦ holds.0 | inr fails ↦ absurd (omega (arith, le, fails.1)) ]

-- ---- columns

module _ (fabric : PlainFabric) (bits : PlainBits) (first last : ℕ) (mode : stream_mode fabric ≡ modes.Frames) (order : first ≤ last) (within : last < fabric.columns) where
  abbrev count : ℕ
  count = suc last - first

  abbrev more : ℕ
  more = fabric.columns - suc last

  abbrev all : List ℕ
  all = counted fabric.columns (λ x. x)

  -- the columns before the first, those that are chosen, and those behind the last
  abbrev front : List ℕ
  front = counted first (λ x. x)

  abbrev middle : List ℕ
  middle = counted count (λ i. first + i)

  abbrev back : List ℕ
  back = counted more (λ i. first + (count + i))

  columns_are : all ≡ front ++ (middle ++ back)
  columns_are =
      let e : fabric.columns ≡ first + (count + more) = omega (arith, order, within) in
      ap (λ n. counted n (λ x. x)) e ∙ counted_both first (count + more) (λ x. x) ∙ ap (λ rest. front ++ rest) (counted_both count more (λ i. first + i))

  split : (g : ℕ → List Part) → flat_map g all ≡ flat_map g front ++ (flat_map g middle ++ flat_map g back)
  split g = ap (flat_map g) columns_are ∙ flat_map-append g front (middle ++ back) ∙ ap (λ rest. flat_map g front ++ rest) (flat_map-append g middle back)

  abbrev chosen : ℕ → List Part
  chosen = chosen_parts fabric first last

  before_none : flat_map chosen front ≡ []
  before_none = pieces_none chosen first (λ x. x) (λ i few. let e = lt-leb first i few in rw e refl)

  behind_none : flat_map chosen back ≡ []
  behind_none =
      pieces_none chosen more (λ i. first + (count + i)) (λ i few.
      let low = le_leb first (first + (count + i)) (omega arith) in
      let high = lt-leb (first + (count + i)) last (omega (arith, order)) in
      rw (low, high) refl)

  middle_all : flat_map chosen middle ≡ flat_map (column_parts fabric) middle
  middle_all =
      pieces_alike chosen (column_parts fabric) count (λ i. first + i) (λ i few.
      let low = le_leb first (first + i) (omega arith) in
      let high = le_leb (first + i) last (omega (arith, order, few)) in
      rw (low, high) refl)

  chosen_are : flat_map chosen all ≡ flat_map (column_parts fabric) middle
  chosen_are = split chosen ∙ (λ j. before_none j ++ (middle_all j ++ behind_none j)) ∙ append-nil (flat_map (column_parts fabric) middle)

  -- ---- the words of these parts

  abbrev words_of : List Part → List ℕ
  words_of found = map (word_of fabric bits) found

  abbrev heading : List ℕ
  heading = words_of (map fixed header)

  abbrev passed : List ℕ
  passed = words_of (flat_map (column_parts fabric) front)

  abbrev kept : List ℕ
  kept = words_of (flat_map (column_parts fabric) middle)

  abbrev ending : List ℕ
  ending = words_of (flat_map (column_parts fabric) back ++ fixed waiting_word ∷ [])

  partial_is : partial_stream fabric bits first last ≡ heading ++ (kept ++ waiting_word ∷ [])
  unfolding partial_stream partial_parts
  partial_is =
      ap (λ found. words_of (map fixed header ++ (found ++ fixed waiting_word ∷ []))) chosen_are
      ∙ map-append (word_of fabric bits) (map fixed header) (flat_map (column_parts fabric) middle ++ fixed waiting_word ∷ [])
      ∙ ap (λ rest. heading ++ rest) (map-append (word_of fabric bits) (flat_map (column_parts fabric) middle) (fixed waiting_word ∷ []))

  stream_is : stream fabric bits ≡ (heading ++ passed) ++ (kept ++ ending)
  unfolding stream
  stream_is =
      let a = flat_map (column_parts fabric) front in
      let b = flat_map (column_parts fabric) middle in
      let c = flat_map (column_parts fabric) back in
      let d = fixed waiting_word ∷ [] in
      ap words_of (frames_parts fabric mode)
      ∙ ap (λ found. words_of (map fixed header ++ (found ++ d))) (split (column_parts fabric))
      ∙ ap (λ found. words_of (map fixed header ++ found)) (append_assoc a (b ++ c) d ∙ ap (λ rest. a ++ rest) (append_assoc b c d))
      ∙ map-append (word_of fabric bits) (map fixed header) (a ++ (b ++ (c ++ d)))
      ∙ ap (λ rest. heading ++ rest) (map-append (word_of fabric bits) a (b ++ (c ++ d)) ∙ ap (λ rest. passed ++ rest) (map-append (word_of fabric bits) b (c ++ d)))
      ∙ sym (append_assoc heading passed (kept ++ ending))

  -- ---- how long they are

  abbrev size : ℕ
  size = 20 * (fabric.rows + 1)

  -- a frame has its address and a word for each row
  frame_long : (x frame : ℕ) → length (frame_parts fabric x frame) ≡ fabric.rows + 1
  frame_long x frame = (let many = length_counted fabric.rows (λ y. of_row x y frame) in omega (arith, many))

  column_long : (x : ℕ) → length (column_parts fabric x) ≡ size
  column_long x = length_pieces (frame_parts fabric x) (fabric.rows + 1) 20 (λ frame. frame) (frame_long x)

  words_long : (n : ℕ) (f : ℕ → ℕ) → length (words_of (flat_map (column_parts fabric) (counted n f))) ≡ n * size
  words_long n f =
      length-map (flat_map (column_parts fabric) (counted n f)) (word_of fabric bits)
      ∙ length_pieces (column_parts fabric) size n f (λ i. column_long (f i))

  heading_long : length heading ≡ 38
  unfolding waiting_words
  heading_long = refl

  abbrev begin : ℕ
  begin = 38 + first * size

  abbrev end : ℕ
  end = 38 + suc last * size

  front_long : length (heading ++ passed) ≡ begin
  front_long = length-append heading passed ∙ ap₂ (λ a b. a + b) heading_long (words_long first (λ x. x))

  ends : length (heading ++ passed) + length kept ≡ end
  ends =
      let sum : first + count ≡ suc last = omega (arith, order) in
      let both : first * size + count * size ≡ suc last * size = sym (add-mul first count size) ∙ ap (λ n. n * size) sum in
      ap₂ (λ a b. a + b) front_long (words_long count (λ i. first + i)) ∙ omega (arith, both)

  -- ---- the slices

  kept_slice : slice_range (stream fabric bits) begin end ≡ kept
  kept_slice =
      (λ j. slice_range (stream_is j) (sym front_long j) (sym ends j)) ∙ between (heading ++ passed) kept ending

  heading_slice : slice_range (stream fabric bits) 0 38 ≡ heading
  heading_slice =
      let all_is : stream fabric bits ≡ heading ++ (passed ++ (kept ++ ending)) = stream_is ∙ append_assoc heading passed (kept ++ ending) in
      let ends_at : 38 ≡ 0 + length heading = omega (arith, heading_long) in
      (λ j. slice_range (all_is j) 0 (ends_at j)) ∙ between [] heading (passed ++ (kept ++ ending))

  -- what the code puts together
  pub by_slices : slice_range (stream fabric bits) 0 38 ++ (slice_range (stream fabric bits) begin end ++ waiting_word ∷ []) ≡ partial_stream fabric bits first last
  by_slices = (λ j. heading_slice j ++ (kept_slice j ++ waiting_word ∷ [])) ∙ sym partial_is

  pub long_enough : end ≤ length (stream fabric bits)
  long_enough =
      let whole = ap length stream_is ∙ length-append (heading ++ passed) (kept ++ ending) in
      let rest = length-append kept ending in
      omega (arith, whole, rest, ends)
