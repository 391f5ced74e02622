-- What all words of a bitstream leave that come one a tick.
use Rattle.std.proofs.Common.{◌≡◌, ℕ, ◌<◌, ◌∙◌, Bool, true, false, List, [], ◌∷◌, ◌++◌, Some, map, refl, ap, ap₂, arith}
use Rattle.std.specs.List.{flat_map}
use Rattle.std.specs.Option.{option_map_or}
use Rattle.std.proofs.lemmas.List.{map-append}
use Rattle.fab_bits.specs.Bits.{digits}
use Rattle.fab_gen_loader.specs.fab_model.specs.declared.mode.Mode.TheVariants as modes
use Rattle.fab_gen_loader.specs.fab_model.specs.Tiles.{counted}
use Rattle.fab_gen_loader.specs.fab_model.specs.Grid.{PlainFabric}
use Rattle.fab_gen_loader.specs.fab_model.specs.Drive.{PlainBits}
use Rattle.fab_frames.specs.fab_fabric.specs.Fabric.{IsFabric}
use Rattle.fab_gen_loader.specs.Machine.{Machine, Word, tick}
use Rattle.fab_frames.specs.Stream.{stream_mode, Part, fixed, waiting_word, header, column_parts, word_of, stream, bit_placed_at, word_bit}
use Rattle.fab_frames.proofs.Modes.{frames_parts}
use Rattle.fab_frames.proofs.Words.{bit_of_word}
use Rattle.fab_loading_laws.specs.Latches.{LatchPlace, IsMachine, latch_shows}
use Rattle.fab_loading_laws.specs.Streams.{stream_words, IsLatchPlace}
use Rattle.fab_loading_laws.proofs.Ticks.{address_tick}
use Rattle.fab_loading_laws.proofs.Runs.{after_words, latch_after_words, after_both, latch_after_both}
use Rattle.fab_loading_laws.proofs.Header.{header_wakes}
use Rattle.fab_loading_laws.proofs.Columns.{part_word, own_bit, columns_set}

-- ---- the words

pub words_of_parts : (fabric : PlainFabric) (bits : PlainBits) (found : List Part) → map (digits 32) (map (word_of fabric bits) found) ≡ map (part_word fabric bits) found
words_of_parts fabric bits [] = refl
words_of_parts fabric bits (part ∷ found) = ap (λ words. part_word fabric bits part ∷ words) (words_of_parts fabric bits found)

pub fixed_words : (fabric : PlainFabric) (bits : PlainBits) (words : List ℕ) → map (part_word fabric bits) (map fixed words) ≡ map (digits 32) words
fixed_words fabric bits [] = refl
fixed_words fabric bits (word ∷ words) = ap (λ rest. digits 32 word ∷ rest) (fixed_words fabric bits words)

abbrev pub header_words : List Word
header_words = map (digits 32) header

abbrev pub last_word : Word
last_word = digits 32 waiting_word

abbrev all_columns : PlainFabric → List Part
all_columns fabric = flat_map (column_parts fabric) (counted fabric.columns (λ x. x))

abbrev column_words : PlainFabric → PlainBits → List Word
column_words fabric bits = map (part_word fabric bits) (all_columns fabric)

words_are : (fabric : PlainFabric) (bits : PlainBits) → stream_mode fabric ≡ modes.Frames → stream_words fabric bits ≡ header_words ++ (column_words fabric bits ++ last_word ∷ [])
unfolding stream
words_are fabric bits mode =
    ap (λ parts. map (digits 32) (map (word_of fabric bits) parts)) (frames_parts fabric mode)
    ∙ words_of_parts fabric bits (map fixed header ++ (all_columns fabric ++ fixed waiting_word ∷ []))
    ∙ map-append (part_word fabric bits) (map fixed header) (all_columns fabric ++ fixed waiting_word ∷ [])
    ∙ ap₂ (λ front back. front ++ back) (fixed_words fabric bits header) (map-append (part_word fabric bits) (all_columns fabric) (fixed waiting_word ∷ []))

-- ---- the bit of a latch

pub own_bit_is : (fabric : PlainFabric) (bits : PlainBits) (place : LatchPlace) (number : ℕ) → place.bit < 32 →
    bit_placed_at fabric place.x place.y place.frame place.bit ≡ Some number → own_bit fabric bits place ≡ bits place.x place.y number
unfolding word_bit
own_bit_is fabric bits place number low placed =
    bit_of_word (bit_placed_at fabric place.x place.y place.frame) (bits place.x place.y) place.bit low
    ∙ ap (λ found. option_map_or (bits place.x place.y) found false) placed

-- ---- the loader and a latch after all words

pub record IsLoadedByWords (fabric : PlainFabric) (bits : PlainBits) (machine : Machine) : Type 0 where
  pub state : (after_words fabric.rows machine (stream_words fabric bits)).state ≡ 0
  pub strobe : (after_words fabric.rows machine (stream_words fabric bits)).strobe ≡ false
  pub latches : (place : LatchPlace) (number : ℕ) (held : Bool) → IsLatchPlace fabric place →
      bit_placed_at fabric place.x place.y place.frame place.bit ≡ Some number →
      latch_after_words fabric.rows machine place held (stream_words fabric bits) ≡ bits place.x place.y number

-- each fabric has this one
abbrev first_place : LatchPlace
first_place = record { x = 0; y = 0; frame = 0; bit = 0 }

module _ (fabric : PlainFabric) (bits : PlainBits) (machine : Machine) (mode : stream_mode fabric ≡ modes.Frames) (is_fabric : IsFabric fabric) (is : IsMachine fabric.rows machine) where
  abbrev woken : Machine
  woken = after_words fabric.rows machine header_words

  abbrev filled : Machine
  filled = after_words fabric.rows woken (column_words fabric bits)

  takes_address : woken.state ≡ 1
  takes_address = header_wakes fabric.rows machine is.count

  takes_last : filled.state ≡ 1
  takes_last =
      let some_columns = is_fabric.some_columns in
      let some_rows = is_fabric.some_rows in
      let within : IsLatchPlace fabric first_place = record { column = omega arith; row = omega arith; frame = omega arith; bit = omega arith } in
      (columns_set fabric bits first_place is_fabric within).returns woken takes_address

  after_last : tick fabric.rows filled true last_word ≡ record filled { state = 0; strobe = false }
  after_last = address_tick fabric.rows filled last_word takes_last

  after_all : after_words fabric.rows machine (stream_words fabric bits) ≡ record filled { state = 0; strobe = false }
  after_all =
      ap (after_words fabric.rows machine) (words_are fabric bits mode)
      ∙ after_both fabric.rows machine header_words (column_words fabric bits ++ last_word ∷ [])
      ∙ after_both fabric.rows woken (column_words fabric bits) (last_word ∷ [])
      ∙ after_last

  latch_after_all : (place : LatchPlace) (held : Bool) → latch_after_words fabric.rows machine place held (stream_words fabric bits)
      ≡ latch_shows filled place (latch_after_words fabric.rows woken place (latch_after_words fabric.rows machine place held header_words) (column_words fabric bits))
  latch_after_all place held =
      let before = latch_after_words fabric.rows machine place held header_words in
      ap (latch_after_words fabric.rows machine place held) (words_are fabric bits mode)
      ∙ latch_after_both fabric.rows machine place held header_words (column_words fabric bits ++ last_word ∷ [])
      ∙ latch_after_both fabric.rows woken place before (column_words fabric bits) (last_word ∷ [])

  pub loaded_by_words : IsLoadedByWords fabric bits machine
  loaded_by_words = record {
    state = ap (λ next. next.state) after_all;
    strobe = ap (λ next. next.strobe) after_all;
    latches = λ place number held within placed.
        let sets = columns_set fabric bits place is_fabric within in
        latch_after_all place held
        ∙ sets.shows woken (latch_after_words fabric.rows machine place held header_words) takes_address
        ∙ own_bit_is fabric bits place number within.bit placed;
  }
