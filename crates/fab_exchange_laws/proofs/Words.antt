-- What the words of the stream of some columns lead to, one a tick.
use Rattle.std.proofs.Common.{◌≡◌, ℕ, ◌∙◌, Bool, true, false, List, [], ◌∷◌, ◌++◌, Some, map, sym, ap, ap₂, subst}
use Rattle.std.specs.List.{All}
use Rattle.std.proofs.lemmas.List.{map-append}
use Rattle.std.proofs.lemmas.List.Elements.{All-nil, All-cons}
use Rattle.fab_bits.specs.Bits.{digits}
use Rattle.fab_gen_loader.specs.fab_model.specs.Grid.{PlainFabric}
use Rattle.fab_gen_loader.specs.fab_model.specs.Drive.{PlainBits}
use Rattle.fab_frames.specs.fab_fabric.specs.Fabric.{IsFabric}
use Rattle.fab_gen_loader.specs.Machine.{Machine, Word}
use Rattle.fab_frames.specs.Stream.{fixed, waiting_word, header, bit_placed_at}
use Rattle.fab_loading_laws.specs.Latches.{IsWord, IsMachine, LatchPlace, latch_shows}
use Rattle.fab_loading_laws.specs.Streams.{IsLatchPlace}
use Rattle.fab_loading_laws.proofs.Ticks.{address_tick}
use Rattle.fab_loading_laws.proofs.Runs.{after_words, latch_after_words, after_both, latch_after_both}
use Rattle.fab_loading_laws.proofs.Header.{header_wakes}
use Rattle.fab_loading_laws.proofs.Columns.{part_word}
use Rattle.fab_loading_laws.proofs.Loads.{words_of_parts, fixed_words, header_words, last_word, own_bit_is}
use Rattle.fab_text_loads_laws.proofs.Ticks.{digits_long}
use Rattle.fab_partial.specs.Columns.{lies_within, partial_parts, partial_stream}
use Rattle.fab_exchange_laws.specs.Exchanges.{StrobesWithin, partial_words}
use Rattle.fab_exchange_laws.proofs.Within.{StaysWithin, Waits, both_stay, at_last, header_within, last_within}
use Rattle.fab_exchange_laws.proofs.Chosen.{all_chosen, chosen_within, chosen_set}

-- what a latch shows behind words
abbrev pub shows_behind : (rows : ℕ) → LatchPlace → Machine → (held : Bool) → List Word → Bool
shows_behind rows place machine held words = latch_shows (after_words rows machine words) place (latch_after_words rows machine place held words)

-- The words come to a loader that strobes no other column, and whatever it holds: it strobes no other column, waits at last, and each latch of
-- these columns shows its bit then.
pub record WordsExchange (fabric : PlainFabric) (first last : ℕ) (others : PlainBits) : Type 0 where
  pub long : All IsWord (partial_words fabric others first last)
  pub within : (machine : Machine) → IsMachine fabric.rows machine → StrobesWithin first last machine →
      StaysWithin fabric.rows first last machine (partial_words fabric others first last)
  pub ends : (machine : Machine) → IsMachine fabric.rows machine → Waits (after_words fabric.rows machine (partial_words fabric others first last))
  pub sets : (machine : Machine) (place : LatchPlace) (number : ℕ) (held : Bool) → IsMachine fabric.rows machine → IsLatchPlace fabric place →
      lies_within first last place.x ≡ true → bit_placed_at fabric place.x place.y place.frame place.bit ≡ Some number →
      shows_behind fabric.rows place machine held (partial_words fabric others first last) ≡ others place.x place.y number

all_words : (numbers : List ℕ) → All IsWord (map (digits 32) numbers)
all_words [] = All-nil IsWord
all_words (first ∷ numbers) = All-cons IsWord (digits 32 first) (map (digits 32) numbers) (digits_long 32 first) (all_words numbers)

module _ (fabric : PlainFabric) (first last : ℕ) (others : PlainBits) (is_fabric : IsFabric fabric) where
  abbrev words : List Word
  words = partial_words fabric others first last

  abbrev frame_words : List Word
  frame_words = map (part_word fabric others) (all_chosen fabric first last)

  words_are : words ≡ header_words ++ (frame_words ++ last_word ∷ [])
  unfolding partial_stream partial_parts
  words_are =
      words_of_parts fabric others (map fixed header ++ (all_chosen fabric first last ++ fixed waiting_word ∷ []))
      ∙ map-append (part_word fabric others) (map fixed header) (all_chosen fabric first last ++ fixed waiting_word ∷ [])
      ∙ ap₂ (λ front back. front ++ back) (fixed_words fabric others header) (map-append (part_word fabric others) (all_chosen fabric first last) (fixed waiting_word ∷ []))

  module _ (machine : Machine) (is : IsMachine fabric.rows machine) where
    abbrev woken : Machine
    woken = after_words fabric.rows machine header_words

    abbrev filled : Machine
    filled = after_words fabric.rows woken frame_words

    takes : woken.state ≡ 1
    takes = header_wakes fabric.rows machine is.count

    takes_last : filled.state ≡ 1
    takes_last = (chosen_within fabric others first last is_fabric).returns woken takes

    after_all : after_words fabric.rows machine words ≡ record filled { state = 0; strobe = false }
    after_all =
        ap (after_words fabric.rows machine) words_are
        ∙ after_both fabric.rows machine header_words (frame_words ++ last_word ∷ [])
        ∙ after_both fabric.rows woken frame_words (last_word ∷ [])
        ∙ address_tick fabric.rows filled last_word takes_last

    ends_waiting : Waits (after_words fabric.rows machine words)
    ends_waiting = record { state = ap (λ (m : Machine). m.state) after_all; strobe = ap (λ (m : Machine). m.strobe) after_all }

    stays_within : StrobesWithin first last machine → StaysWithin fabric.rows first last machine words
    stays_within within =
        let front = header_within fabric.rows first last machine is.count within in
        let middle = (chosen_within fabric others first last is_fabric).within woken takes (at_last fabric.rows first last machine header_words front) in
        let back = last_within fabric.rows first last filled takes_last (at_last fabric.rows first last woken frame_words middle) in
        subst (StaysWithin fabric.rows first last machine) (sym words_are)
        (both_stay fabric.rows first last machine header_words (frame_words ++ last_word ∷ []) front
        (both_stay fabric.rows first last woken frame_words (last_word ∷ []) middle back))

    sets_latch : (place : LatchPlace) (number : ℕ) (held : Bool) → IsLatchPlace fabric place → lies_within first last place.x ≡ true →
        bit_placed_at fabric place.x place.y place.frame place.bit ≡ Some number →
        shows_behind fabric.rows place machine held words ≡ others place.x place.y number
    sets_latch place number held within inside placed =
        let before = latch_after_words fabric.rows machine place held header_words in
        let sets = chosen_set fabric others first last is_fabric place inside within in
        ap (λ (m : Machine). latch_shows m place (latch_after_words fabric.rows machine place held words)) after_all
        ∙ ap (latch_after_words fabric.rows machine place held) words_are
        ∙ latch_after_both fabric.rows machine place held header_words (frame_words ++ last_word ∷ [])
        ∙ latch_after_both fabric.rows woken place before frame_words (last_word ∷ [])
        ∙ sets.shows woken before takes
        ∙ own_bit_is fabric others place number within.bit placed

  pub words_exchange : WordsExchange fabric first last others
  words_exchange = record {
    long = all_words (partial_stream fabric others first last);
    within = stays_within;
    ends = ends_waiting;
    sets = λ machine place number held is within inside placed. sets_latch machine is place number held within inside placed;
  }
