-- Words are the bitstream of some configuration bits of a fabric, or one of them is the first that is refused.
use Rattle.std.proofs.Common.{◌≡◌, ◌<◌, ◌≤◌, ◌+◌, ◌^◌, ◌⊎◌, ℕ, zero, suc, Bool, false, List, [], ◌∷◌, Option, Some, None, All, length, get_or, refl, sym, ap, ◌∙◌, arith, inl, inr}
use Rattle.std.specs.Prelude.{slice_get}
use Rattle.std.proofs.lemmas.Bool.{cases_lt}
use Rattle.std.proofs.lemmas.Option.{slice_get_past, slice_get-get_or, get_or_from_slice_get}
use Rattle.fab_base.specs.declared.problem.Problem.TheVariants as problems
use Rattle.fab_base.specs.declared.words.Reason.{Reason}
use Rattle.fab_base.specs.declared.words.Reason.TheVariants as reasons
use Rattle.fab_base.specs.Reading.{fault_at}
use Rattle.fab_model.specs.Tiles.{counted}
use Rattle.fab_model.specs.Grid.{PlainFabric}
use Rattle.fab_fabric.specs.Fabric.{IsFabric}
use Rattle.fab_fabric.specs.Bits.{plain_bits, column_bits, place_bits, bits_at, AreBitsOf}
use Rattle.fab_frames.specs.declared.positions.BitPlace.{BitPlace}
use Rattle.fab_frames.specs.Positions.{bit_place, bit_in}
use Rattle.fab_frames.specs.Stream.{Part, parts, stream, word_bit, problem_of, problem_at, IsFirstWrong}
use Rattle.fab_frames.specs.Refusals.{IsStreamRefusal}
use Rattle.fab_frames.specs.inner.Taking.{placed_by}
use Rattle.fab_frames.proofs.ByteWords.{all_fit}
use Rattle.fab_frames.proofs.Chains.{IsBitOf}
use Rattle.fab_frames.proofs.Lists.{length_counted}
use Rattle.fab_frames.proofs.Standing.{Stands, part_within, placed_is_bit, placed_once, part_once, each_stands}
use Rattle.fab_frames.proofs.Streams.{HasBits, HaveTaken, words_are}
use Rattle.fab_judged_laws.specs.Judged.{IsSpelledOrRefused}
use Rattle.fab_judged_laws.proofs.Counted.{counted_at}

-- ---- whether a configuration bit is one of the fabric

is_bit : (fabric : PlainFabric) (at : BitPlace) → IsBitOf fabric at ⊎ (IsBitOf fabric at → ⊥)
is_bit fabric at =
    elim (cases_lt at.x fabric.columns) [
      | inr far ↦ inr (λ of. omega (arith, far, of.column))
      | inl column ↦ elim (cases_lt at.y fabric.rows) [
        | inr low ↦ inr (λ of. omega (arith, low, of.row))
        | inl row ↦ elim (cases_lt at.bit (bits_at fabric at.x at.y)) [
          | inr past ↦ inr (λ of. omega (arith, past, of.number))
          | inl number ↦ inl (record { column = column; row = row; number = number })
        ]
      ]
    ]

module _ (fabric : PlainFabric) (words : List ℕ) where
  -- ---- the first word that is refused, if one is

  abbrev AreFine : (n : ℕ) → Type 0
  AreFine n = (k : ℕ) → k < n → problem_at fabric words k ≡ None

  abbrev SomeIsWrong : Type 0
  SomeIsWrong = (place : ℕ) × (reason : Reason) × IsFirstWrong fabric words place reason

  one_more : (n : ℕ) → AreFine n → (why : Option Reason) → problem_at fabric words n ≡ why → AreFine (suc n) ⊎ SomeIsWrong
  one_more n fine (Some reason) is = inr (n, reason, record { wrong = is; before = fine })
  one_more n fine None is = inl (λ k below.
      elim (cases_lt k n) [
        | inl less ↦ fine k less
        | inr past ↦ (let same : k ≡ n = omega (arith, below, past) in ap (problem_at fabric words) same ∙ is)
      ])

  are_fine_or_wrong : (n : ℕ) → AreFine n ⊎ SomeIsWrong
  are_fine_or_wrong zero = inl (no_word)
    where
      no_word : AreFine zero
      no_word k below = absurd (omega (arith, below))
  are_fine_or_wrong (suc n) = elim (are_fine_or_wrong n) [
    | inl fine ↦ one_more n fine (problem_at fabric words n) refl
    | inr wrong ↦ inr wrong
  ]

  -- where none is, there are as many words as parts
  no_part_behind : (n : ℕ) → AreFine n → length words < n → length (parts fabric) ≤ length words
  no_part_behind n fine enough = elim (cases_lt (length words) (length (parts fabric))) [
    | inr few ↦ few
    | inl more ↦ (
        let part = get_part (parts fabric) (length words) more in
        let past : slice_get words (length words) ≡ None = slice_get_past words (length words) (omega arith) in
        let none : Some reasons.Stream ≡ None = sym (λ i. problem_of fabric (part.1 i) (past i)) ∙ fine (length words) enough in
        absurd cc)
  ]
    where
      get_part : {X : Type 0} (xs : List X) (k : ℕ) → k < length xs → (x : X) × (slice_get xs k ≡ Some x)
      get_part [] k below = absurd (omega (arith, below))
      get_part (x ∷ xs) zero below = (x, refl)
      get_part (x ∷ xs) (suc k) below = get_part xs k (omega (arith, below))

  no_word_behind : (n : ℕ) → AreFine n → length words < n → length words ≤ length (parts fabric)
  no_word_behind n fine enough = elim (cases_lt (length (parts fabric)) (length words)) [
    | inr few ↦ few
    | inl more ↦ (
        let past : slice_get (parts fabric) (length (parts fabric)) ≡ None = slice_get_past (parts fabric) (length (parts fabric)) (omega arith) in
        let word : slice_get words (length (parts fabric)) ≡ Some (get_or words (length (parts fabric)) 0) = slice_get-get_or words (length (parts fabric)) 0 more in
        let none : Some reasons.Stream ≡ None = sym (λ i. problem_of fabric (past i) (word i)) ∙ fine (length (parts fabric)) (omega (arith, more, enough)) in
        absurd cc)
  ]

  -- ---- the configuration bits of the words

  -- what the words have at the place of a configuration bit
  abbrev WordBit : (at : BitPlace) → Stands fabric at → Bool
  WordBit at found = word_bit (get_or words found.place 0) found.bit

  -- which place it is told by does not matter
  one_word_bit : (at : BitPlace) (found other : Stands fabric at) → WordBit at found ≡ WordBit at other
  one_word_bit at found other =
      let within = part_within fabric found.place found.part found.stands in
      let also = part_within fabric other.place other.part other.stands in
      let once = placed_once fabric found.part other.part found.bit other.bit at within also found.small other.small found.there other.there in
      let place : found.place ≡ other.place =
      part_once fabric found.place other.place found.part found.bit at found.stands (other.stands ∙ ap Some (sym once.0)) found.there in
      λ j. word_bit (get_or words (place j) 0) (once.1 j)

  module _ (is : IsFabric fabric) where
    value_of : (at : BitPlace) → IsBitOf fabric at ⊎ (IsBitOf fabric at → ⊥) → Bool
    value_of at (inl of) = WordBit at (each_stands fabric at is of)
    value_of at (inr none) = false

    value_is : (at : BitPlace) (found : Stands fabric at) → IsBitOf fabric at → (known : IsBitOf fabric at ⊎ (IsBitOf fabric at → ⊥)) → value_of at known ≡ WordBit at found
    unfolding value_of
    value_is at found of (inl here) = one_word_bit at (each_stands fabric at is here) found
    value_is at found of (inr none) = absurd (none of)

    bit_at : (x y number : ℕ) → Bool
    bit_at x y number = value_of (bit_place x y number) (is_bit fabric (bit_place x y number))

    bits_of_place : (x y : ℕ) → List Bool
    bits_of_place x y = counted (bits_at fabric x y) (bit_at x y)

    bits : List (List (List Bool))
    bits = counted fabric.columns (λ x. counted fabric.rows (bits_of_place x))

    column_is : (x : ℕ) → x < fabric.columns → column_bits bits x ≡ counted fabric.rows (bits_of_place x)
    unfolding bits
    column_is x few = counted_at fabric.columns (λ x. counted fabric.rows (bits_of_place x)) x [] few

    place_is : (x y : ℕ) → x < fabric.columns → y < fabric.rows → place_bits bits x y ≡ counted (bits_at fabric x y) (bit_at x y)
    unfolding bits_of_place
    place_is x y few low = ap (λ column. get_or column y []) (column_is x few) ∙ counted_at fabric.rows (bits_of_place x) y [] low

    are_bits : AreBitsOf fabric bits
    unfolding bits
    are_bits = record {
      columns = length_counted fabric.columns (λ x. counted fabric.rows (bits_of_place x));
      rows = λ x few. ap length (column_is x few) ∙ length_counted fabric.rows (bits_of_place x);
      tiles = λ x y few low. ap length (place_is x y few low) ∙ length_counted (bits_at fabric x y) (bit_at x y);
    }

    -- a bit that is placed has what its word has there
    placed_has : (at : BitPlace) (found : Stands fabric at) → IsBitOf fabric at → bit_in (plain_bits bits) at ≡ WordBit at found
    unfolding bit_at
    placed_has at found of =
        ap (λ list. get_or list at.bit false) (place_is at.x at.y of.column of.row)
        ∙ counted_at (bits_at fabric at.x at.y) (bit_at at.x at.y) at.bit false of.number
        ∙ value_is at found of (is_bit fabric at)

    part_has : (k : ℕ) (part : Part) (word : ℕ) → slice_get (parts fabric) k ≡ Some part → slice_get words k ≡ Some word → HasBits (placed_by fabric part) bits word
    part_has k part word stands read bit at small there =
        let found : Stands fabric at = record {
          place = k;
          part = part;
          bit = bit;
          small = small;
          stands = stands;
          there = there;
        } in
        placed_has at found (placed_is_bit fabric part bit at is (part_within fabric k part stands) there)
        ∙ ap (λ w. word_bit w bit) (get_or_from_slice_get words k word 0 read)

  -- ---- the words are the stream of these bits

  have_taken : (n : ℕ) (is : IsFabric fabric) → AreFine n → length words < n → HaveTaken fabric words (length (parts fabric)) (bits is)
  have_taken n is fine enough = record {
    are_bits = are_bits is;
    present = no_part_behind n fine enough;
    fine = λ k below. fine k (omega (arith, below, enough, no_part_behind n fine enough));
    taken = λ k part word below stands read. part_has is k part word stands read;
  }

  pub words_judged : (file : List ℕ) → IsFabric fabric → All (λ word. word < 2 ^ 32) words
      → IsSpelledOrRefused (λ bits. AreBitsOf fabric bits × (words ≡ stream fabric (plain_bits bits))) (IsStreamRefusal fabric file words)
  words_judged file is fit = elim (are_fine_or_wrong (suc (length words))) [
    | inr wrong ↦ inr (fault_at file (wrong.0 + 1) (problems.Malformed wrong.1), record { place = wrong.0; reason = wrong.1; first = wrong.2; told = refl })
    | inl fine ↦ (
        let enough : length words < suc (length words) = omega arith in
        let taken = have_taken (suc (length words)) is fine enough in
        inl (bits is, (are_bits is, words_are fabric words (length (parts fabric)) (bits is) (all_fit words fit) (omega arith) (no_word_behind (suc (length words)) fine enough) taken)))
  ]
