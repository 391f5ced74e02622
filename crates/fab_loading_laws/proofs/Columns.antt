-- What the frames of columns leave in a latch: the bit of its own frame.
use Rattle.std.proofs.Common.{◌≡◌, ◌≢◌, ℕ, zero, suc, ◌<◌, ◌∙◌, Bool, true, false, ◌&&◌, List, [], ◌∷◌, ◌++◌, map, get_or, slice_range, nat_eq, refl, sym, ap, ap₂, arith, if◌then◌else◌}
use Rattle.std.specs.List.{flat_map}
use Rattle.std.proofs.lemmas.Bool.{ne_eqb, eq-eqb}
use Rattle.std.proofs.lemmas.List.{map-append}
use Rattle.fab_bits.specs.Bits.{number, digits}
use Rattle.fab_gen_loader.specs.fab_model.specs.Tiles.{counted}
use Rattle.fab_gen_loader.specs.fab_model.specs.Grid.{PlainFabric}
use Rattle.fab_gen_loader.specs.fab_model.specs.Drive.{PlainBits}
use Rattle.fab_gen_loader.specs.fab_meaning.specs.Value.{bit_at}
use Rattle.fab_frames.specs.fab_fabric.specs.Fabric.{IsFabric}
use Rattle.fab_gen_loader.specs.Machine.{Machine, Word}
use Rattle.fab_frames.specs.Stream.{Part, of_row, address_word, row_word, frame_parts, column_parts, word_of}
use Rattle.fab_loading_laws.specs.Latches.{LatchPlace, is_open, latch_shows}
use Rattle.fab_loading_laws.specs.Streams.{IsLatchPlace}
use Rattle.fab_loading_laws.proofs.Addresses.{address_column, address_bit, address_goes_on}
use Rattle.fab_loading_laws.proofs.Runs.{after_words, latch_after_words, after_both, latch_after_both}
use Rattle.fab_loading_laws.proofs.Frames.{HasFrame, has_frame, frame_holds}

abbrev pub part_word : PlainFabric → PlainBits → Part → Word
part_word fabric bits part = digits 32 (word_of fabric bits part)

-- The parts leave a loader that takes an address as one that takes an address, and change what a latch shows.
pub record Leaves (fabric : PlainFabric) (bits : PlainBits) (place : LatchPlace) (change : Bool → Bool) (parts : List Part) : Type 0 where
  pub returns : (machine : Machine) → machine.state ≡ 1 → (after_words fabric.rows machine (map (part_word fabric bits) parts)).state ≡ 1
  pub shows : (machine : Machine) (held : Bool) → machine.state ≡ 1 →
      latch_shows (after_words fabric.rows machine (map (part_word fabric bits) parts)) place (latch_after_words fabric.rows machine place held (map (part_word fabric bits) parts))
      ≡ change (latch_shows machine place held)

abbrev pub Keeps : PlainFabric → PlainBits → LatchPlace → List Part → Type 0
Keeps fabric bits place parts = Leaves fabric bits place (λ shown. shown) parts

abbrev pub Sets : PlainFabric → PlainBits → LatchPlace → (value : Bool) → List Part → Type 0
Sets fabric bits place value parts = Leaves fabric bits place (λ shown. value) parts

pub map_counted : {X Y : Type 0} (h : X → Y) (n : ℕ) (f : ℕ → X) → map h (counted n f) ≡ counted n (λ i. h (f i))
unfolding counted
map_counted h zero f = refl
map_counted h (suc n) f = ap (λ rest. h (f 0) ∷ rest) (map_counted h n (λ i. f (suc i)))

-- ---- parts one after the other

module _ (fabric : PlainFabric) (bits : PlainBits) (place : LatchPlace) where
  pub none_keep : Keeps fabric bits place []
  none_keep = record { returns = λ machine is. is; shows = λ machine held is. refl }

  pub both_leave : (first second : Bool → Bool) (front back : List Part) → Leaves fabric bits place first front → Leaves fabric bits place second back →
      Leaves fabric bits place (λ shown. second (first shown)) (front ++ back)
  both_leave first second front back one other =
      let front_words = map (part_word fabric bits) front in
      let back_words = map (part_word fabric bits) back in
      let words : map (part_word fabric bits) (front ++ back) ≡ front_words ++ back_words = map-append (part_word fabric bits) front back in
      let between = λ (machine : Machine). after_words fabric.rows machine front_words in
      record {
        returns = λ machine is.
            ap (λ ws. (after_words fabric.rows machine ws).state) words
            ∙ ap (λ next. next.state) (after_both fabric.rows machine front_words back_words)
            ∙ other.returns (between machine) (one.returns machine is);
        shows = λ machine held is.
            let now = latch_after_words fabric.rows machine place held front_words in
            ap (λ ws. latch_shows (after_words fabric.rows machine ws) place (latch_after_words fabric.rows machine place held ws)) words
            ∙ ap₂ (λ next h. latch_shows next place h) (after_both fabric.rows machine front_words back_words) (latch_after_both fabric.rows machine place held front_words back_words)
            ∙ other.shows (between machine) now (one.returns machine is)
            ∙ ap second (one.shows machine held is);
      }

  pub pieces_keep : (g : ℕ → List Part) (n : ℕ) (f : ℕ → ℕ) → ((i : ℕ) → i < n → Keeps fabric bits place (g (f i))) → Keeps fabric bits place (flat_map g (counted n f))
  unfolding counted
  pieces_keep g zero f each = none_keep
  pieces_keep g (suc n) f each =
      both_leave (λ shown. shown) (λ shown. shown) (g (f 0)) (flat_map g (counted n (λ i. f (suc i)))) (each 0 (omega arith)) (pieces_keep g n (λ i. f (suc i)) (λ i low. each (suc i) (omega arith)))

  -- one of the pieces sets the latch
  pub pieces_set : (value : Bool) (g : ℕ → List Part) (n : ℕ) (f : ℕ → ℕ) (one : ℕ) → one < n → Sets fabric bits place value (g (f one)) →
      ((i : ℕ) → i < n → i ≢ one → Keeps fabric bits place (g (f i))) → Sets fabric bits place value (flat_map g (counted n f))
  unfolding counted
  pieces_set value g zero f one few sets others = absurd (omega arith)
  pieces_set value g (suc n) f zero few sets others =
      both_leave (λ shown. value) (λ shown. shown) (g (f 0)) (flat_map g (counted n (λ i. f (suc i)))) sets
      (pieces_keep g n (λ i. f (suc i)) (λ i low. others (suc i) (omega arith) (λ e. omega (arith, e))))
  pieces_set value g (suc n) f (suc one) few sets others =
      both_leave (λ shown. shown) (λ shown. value) (g (f 0)) (flat_map g (counted n (λ i. f (suc i)))) (others 0 (omega arith) (λ e. omega (arith, e)))
      (pieces_set value g n (λ i. f (suc i)) one (omega arith) sets (λ i low other. others (suc i) (omega arith) (λ e. other (omega (arith, e)))))

-- ---- a frame

-- whether it is the frame of the latch
abbrev is_own : (x frame : ℕ) → LatchPlace → Bool
is_own x frame place = nat_eq x place.x && nat_eq place.frame frame

abbrev frame_rows : PlainFabric → PlainBits → (x frame : ℕ) → ℕ → Word
frame_rows fabric bits x frame y = digits 32 (row_word fabric bits x y frame)

-- the bit that the words of the fabric have for the latch
abbrev pub own_bit : PlainFabric → PlainBits → LatchPlace → Bool
own_bit fabric bits place = bit_at (frame_rows fabric bits place.x place.frame place.y) place.bit

module _ (fabric : PlainFabric) (bits : PlainBits) (place : LatchPlace) (is_fabric : IsFabric fabric) (within : IsLatchPlace fabric place) where
  module _ (x frame : ℕ) (in_columns : x < 32) (in_frames : frame < 20) where
    pub frame_words : map (part_word fabric bits) (frame_parts fabric x frame) ≡ digits 32 (address_word x frame) ∷ counted fabric.rows (frame_rows fabric bits x frame)
    frame_words = ap (λ words. digits 32 (address_word x frame) ∷ words) (map_counted (part_word fabric bits) fabric.rows (λ y. of_row x y frame))

    open_if_own : (next : Machine) → HasFrame fabric.rows (digits 32 (address_word x frame)) (frame_rows fabric bits x frame) next → is_open next place ≡ is_own x frame place
    open_if_own next frame_is =
        (λ i. frame_is.strobe i && (nat_eq (number (slice_range (frame_is.address i) 27 32)) place.x && bit_at (frame_is.address i) place.frame))
        ∙ ap₂ (λ column bit. nat_eq column place.x && bit) (address_column x frame in_columns in_frames) (address_bit x frame in_columns in_frames place.frame (omega (arith, within.frame)))

    frame_leaves : (change : Bool → Bool) → ((next : Machine) (held : Bool) → HasFrame fabric.rows (digits 32 (address_word x frame)) (frame_rows fabric bits x frame) next →
        latch_shows next place held ≡ change held) → Leaves fabric bits place change (frame_parts fabric x frame)
    frame_leaves change shown =
        let few : fabric.rows < 32 = omega (arith, is_fabric.few_rows) in
        let address = digits 32 (address_word x frame) in
        let rows = frame_rows fabric bits x frame in
        let words = address ∷ counted fabric.rows rows in
        let goes_on = address_goes_on x frame in_columns in_frames in
        record {
          returns = λ machine is.
              let frame_is = has_frame fabric.rows few is_fabric.some_rows machine is address goes_on rows in
              ap (λ ws. (after_words fabric.rows machine ws).state) frame_words ∙ frame_is.state;
          shows = λ machine held is.
              let frame_is = has_frame fabric.rows few is_fabric.some_rows machine is address goes_on rows in
              ap (λ ws. latch_shows (after_words fabric.rows machine ws) place (latch_after_words fabric.rows machine place held ws)) frame_words
              ∙ shown (after_words fabric.rows machine words) (latch_after_words fabric.rows machine place held words) frame_is
              ∙ ap change (frame_holds fabric.rows few is_fabric.some_rows machine is address goes_on rows place held);
        }

    frame_keeps : is_own x frame place ≡ false → Keeps fabric bits place (frame_parts fabric x frame)
    frame_keeps other =
        frame_leaves (λ shown. shown) (λ next held frame_is.
        ap (λ opened. if opened then bit_at (get_or next.rows place.y []) place.bit else held) (open_if_own next frame_is ∙ other))

    frame_sets : is_own x frame place ≡ true → Sets fabric bits place (bit_at (frame_rows fabric bits x frame place.y) place.bit) (frame_parts fabric x frame)
    frame_sets own =
        frame_leaves (λ shown. bit_at (frame_rows fabric bits x frame place.y) place.bit) (λ next held frame_is.
        ap (λ opened. if opened then bit_at (get_or next.rows place.y []) place.bit else held) (open_if_own next frame_is ∙ own)
        ∙ ap (λ word. bit_at word place.bit) (frame_is.row_words place.y within.row))

  -- ---- columns

  other_column : (x frame : ℕ) → x ≢ place.x → is_own x frame place ≡ false
  other_column x frame other = ap (λ same. same && nat_eq place.frame frame) (ne_eqb x place.x other)

  other_frame : (frame : ℕ) → frame ≢ place.frame → is_own place.x frame place ≡ false
  other_frame frame other =
      let same : nat_eq place.x place.x ≡ true = eq-eqb place.x place.x refl in
      let apart : nat_eq place.frame frame ≡ false = ne_eqb place.frame frame (λ e. other (sym e)) in
      rw (same, apart) refl

  own_frame : is_own place.x place.frame place ≡ true
  own_frame = ap₂ (λ a b. a && b) (eq-eqb place.x place.x refl) (eq-eqb place.frame place.frame refl)

  pub column_keeps : (x : ℕ) → x < 32 → x ≢ place.x → Keeps fabric bits place (column_parts fabric x)
  column_keeps x low other =
      pieces_keep fabric bits place (frame_parts fabric x) 20 (λ frame. frame) (λ frame few. frame_keeps x frame low few (other_column x frame other))

  pub column_sets : place.x < 32 → Sets fabric bits place (own_bit fabric bits place) (column_parts fabric place.x)
  column_sets low =
      pieces_set fabric bits place (own_bit fabric bits place) (frame_parts fabric place.x) 20 (λ frame. frame) place.frame within.frame
      (frame_sets place.x place.frame low within.frame own_frame)
      (λ frame few other. frame_keeps place.x frame low few (other_frame frame other))

  pub columns_set : Sets fabric bits place (own_bit fabric bits place) (flat_map (column_parts fabric) (counted fabric.columns (λ x. x)))
  columns_set =
      let few = is_fabric.few_columns in
      let column = within.column in
      pieces_set fabric bits place (own_bit fabric bits place) (column_parts fabric) fabric.columns (λ x. x) place.x within.column
      (column_sets (omega arith))
      (λ x low other. column_keeps x (omega arith) other)
