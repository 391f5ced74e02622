-- Words that are a stream, and words that are none.
use Rattle.std.proofs.Common.{◌≡◌, ℕ, zero, suc, ◌+◌, ◌^◌, ◌<◌, ◌≤◌, Bool, true, false, nat_eq, if◌then◌else◌, List, [], ◌∷◌, Option, Some, None, Result, Ok, Err, IfOk, IfErr, ◌⊎◌, length, slice_get, option_map, get_or, refl, sym, ap, ◌∙◌, arith, subst, inl, inr}
use Rattle.std.specs.Option.{option_map_or}
use Rattle.std.proofs.lemmas.Bool.{cases_lt, eqb-true}
use Rattle.std.proofs.lemmas.Bool.Decides.{nat_tests}
use Rattle.std.proofs.lemmas.List.{length-map, ext_get_or}
use Rattle.std.proofs.lemmas.Option.{slice_get_within, slice_get_past, slice_get-map, slice_get-get_or, get_or_from_slice_get, same_Some}
use Rattle.std.specs.Result.{MatchResult}
use Rattle.fab_base.specs.declared.fault.Fault.{Fault}
use Rattle.fab_base.specs.declared.fault.Fault.TheVariants as faults
use Rattle.fab_base.specs.declared.problem.Problem.TheVariants as problems
use Rattle.fab_base.specs.Reading.{fault_at, IsFaultOr}
use Rattle.fab_base.specs.declared.words.Reason.{Reason}
use Rattle.fab_base.specs.declared.words.Reason.TheVariants as reasons
use Rattle.fab_model.specs.Grid.{PlainFabric}
use Rattle.fab_model.specs.Drive.{PlainBits}
use Rattle.fab_fabric.specs.Fabric.{IsFabric}
use Rattle.fab_fabric.specs.Bits.{plain_bits, place_bits, column_bits, AreBitsOf}
use Rattle.fab_frames.specs.Positions.{bit_place, bit_in, placed_in_chain}
use Rattle.fab_frames.specs.Stream.{Part, fixed, of_row, of_chain, parts, word_of, stream, bit_placed_at, placed_word, word_bit, has_spare, part_problem, problem_of, problem_at, IsFirstWrong}
use Rattle.fab_frames.specs.Refusals.{IsStreamRefusal}
use Rattle.fab_frames.specs.inner.Taking.{placed_by, TakesBits, TakesWord}
use Rattle.fab_frames.specs.declared.positions.BitPlace.{BitPlace}
use Rattle.fab_frames.proofs.Chains.{IsBitOf}
use Rattle.fab_frames.proofs.PlacedWords.{PlacesBits, places_bits, word_by_places, problem_by_places}
use Rattle.fab_frames.proofs.Standing.{part_within, placed_once, part_once, each_stands}
use Rattle.fab_frames.proofs.Words.{bit_there, placed_word_is, bit_of_word, zero_there, placed_word_fine}

-- ---- words of a stream

stream_at : (fabric : PlainFabric) (bits : PlainBits) (k : ℕ) → slice_get (stream fabric bits) k ≡ option_map (word_of fabric bits) (slice_get (parts fabric) k)
unfolding stream
stream_at fabric bits k = slice_get-map (word_of fabric bits) (parts fabric) k

length_stream : (fabric : PlainFabric) (bits : PlainBits) → length (stream fabric bits) ≡ length (parts fabric)
unfolding stream
length_stream fabric bits = length-map (parts fabric) (word_of fabric bits)

same_number : (n : ℕ) → nat_eq n n ≡ true
same_number n = grind (arith, nat_tests)

part_fine : (fabric : PlainFabric) (bits : PlainBits) (part : Part) → part_problem fabric part (word_of fabric bits part) ≡ None
part_fine fabric bits (fixed word) = ap (λ b. if b then None else Some reasons.Stream) (same_number word)
part_fine fabric bits (of_row x y frame) = ap (λ b. if b then Some reasons.SpareBit else None) (placed_word_fine (bit_placed_at fabric x y frame) (bits x y))
part_fine fabric bits (of_chain number) = ap (λ b. if b then Some reasons.SpareBit else None) (placed_word_fine (placed_in_chain fabric number) (bit_in bits))

problem_of_part : (fabric : PlainFabric) (bits : PlainBits) (part : Option Part) → problem_of fabric part (option_map (word_of fabric bits) part) ≡ None
problem_of_part fabric bits None = refl
problem_of_part fabric bits (Some part) = part_fine fabric bits part

-- no word of a stream is refused
pub stream_fine : (fabric : PlainFabric) (bits : PlainBits) (place : ℕ) → problem_at fabric (stream fabric bits) place ≡ None
stream_fine fabric bits place = ap (problem_of fabric (slice_get (parts fabric) place)) (stream_at fabric bits place) ∙ problem_of_part fabric bits (slice_get (parts fabric) place)

-- ---- words that are taken

-- the configuration bits that are placed are the bits of a word
abbrev pub HasBits : (placed : ℕ → Option BitPlace) → (bits : List (List (List Bool))) → (word : ℕ) → Type 0
HasBits placed bits word = (bit : ℕ) (at : BitPlace) → bit < 32 → placed bit ≡ Some at → bit_in (plain_bits bits) at ≡ word_bit word bit

-- the first n words are taken
pub record HaveTaken (fabric : PlainFabric) (words : List ℕ) (n : ℕ) (bits : List (List (List Bool))) : Type 0 where
  pub are_bits : AreBitsOf fabric bits
  pub present : n ≤ length words
  pub fine : (k : ℕ) → k < n → problem_at fabric words k ≡ None
  pub taken : (k : ℕ) (part : Part) (word : ℕ) → k < n → slice_get (parts fabric) k ≡ Some part → slice_get words k ≡ Some word → HasBits (placed_by fabric part) bits word

-- bits that were taken before stay as they are
bits_stay : (fabric : PlainFabric) (n k : ℕ) (part part2 : Part) (word word2 : ℕ) (old new : List (List (List Bool))) → k < n → slice_get (parts fabric) n ≡ Some part → slice_get (parts fabric) k ≡ Some part2 →
    TakesBits (placed_by fabric part) word old new → HasBits (placed_by fabric part2) old word2 → HasBits (placed_by fabric part2) new word2
bits_stay fabric n k part part2 word word2 old new less at at2 takes has bit2 place small2 there2 =
    let other : (bit : ℕ) → bit < 32 → placed_by fabric part bit ≡ Some place → ⊥ = λ bit small there. (
    let once = placed_once fabric part part2 bit bit2 place (part_within fabric n part at) (part_within fabric k part2 at2) small small2 there there2 in
    let same : n ≡ k = part_once fabric n k part bit place at (at2 ∙ ap Some (sym once.0)) there in
    omega (arith, same, less)) in
    takes.kept place other ∙ has bit2 place small2 there2

-- whatever the part is
stays : (fabric : PlainFabric) (n k : ℕ) (part part2 : Part) (given : Option ℕ) (word2 : ℕ) (old new : List (List (List Bool))) → k < n → slice_get (parts fabric) n ≡ Some part →
    slice_get (parts fabric) k ≡ Some part2 → TakesWord fabric part given old new → HasBits (placed_by fabric part2) old word2 → HasBits (placed_by fabric part2) new word2
stays fabric n k part part2 None word2 old new less at at2 takes has = absurd takes
stays fabric n k (fixed expected) part2 (Some word) word2 old new less at at2 takes has = subst (λ (bits : List (List (List Bool))). HasBits (placed_by fabric part2) bits word2) (sym takes) has
stays fabric n k (of_row x y frame) part2 (Some word) word2 old new less at at2 takes has = bits_stay fabric n k (of_row x y frame) part2 word word2 old new less at at2 takes has
stays fabric n k (of_chain number) part2 (Some word) word2 old new less at at2 takes has = bits_stay fabric n k (of_chain number) part2 word word2 old new less at at2 takes has

-- the word in the last place
last_has : (fabric : PlainFabric) (part : Part) (given : Option ℕ) (word : ℕ) (old new : List (List (List Bool))) → given ≡ Some word → TakesWord fabric part given old new → HasBits (placed_by fabric part) new word
last_has fabric part None word old new is takes = absurd takes
last_has fabric (fixed expected) (Some given) word old new is takes = λ bit at small there. cc
last_has fabric (of_row x y frame) (Some given) word old new is takes = λ bit at small there. takes.taken bit at small there ∙ ap (λ w. word_bit w bit) (same_Some given word is)
last_has fabric (of_chain number) (Some given) word old new is takes = λ bit at small there. takes.taken bit at small there ∙ ap (λ w. word_bit w bit) (same_Some given word is)

-- a word that is taken is there
taken_present : (fabric : PlainFabric) (n : ℕ) (words : List ℕ) (part : Part) (given : Option ℕ) (old new : List (List (List Bool))) → slice_get words n ≡ given → TakesWord fabric part given old new → n < length words
taken_present fabric n words part None old new is takes = absurd takes
taken_present fabric n words part (Some word) old new is takes = slice_get_within words n word is

pub word_taken : (fabric : PlainFabric) (words : List ℕ) (n : ℕ) (part : Part) (given : Option ℕ) (old new : List (List (List Bool))) → slice_get (parts fabric) n ≡ Some part → slice_get words n ≡ given →
    problem_of fabric (Some part) given ≡ None → AreBitsOf fabric new → TakesWord fabric part given old new → HaveTaken fabric words n old → HaveTaken fabric words (n + 1) new
word_taken fabric words n part given old new at given_is no_problem are takes so_far = record {
  are_bits = are;
  present = omega (arith, taken_present fabric n words part given old new given_is takes);
  fine = λ k few.
      elim (cases_lt k n) [
        | inl less ↦ so_far.fine k less
        | inr past ↦ (
            let last : k ≡ n = omega (arith, few, past) in
            ap (problem_at fabric words) last ∙ (λ i. problem_of fabric (at i) (given_is i)) ∙ no_problem)
      ];
  taken = λ k part2 word few part_is word_is.
      elim (cases_lt k n) [
        | inl less ↦ stays fabric n k part part2 given word old new less at part_is takes (so_far.taken k part2 word less part_is word_is)
        | inr past ↦ (
            let last : k ≡ n = omega (arith, few, past) in
            let same : part ≡ part2 = same_Some part part2 (sym at ∙ ap (slice_get (parts fabric)) (sym last) ∙ part_is) in
            let given_same : given ≡ Some word = sym given_is ∙ ap (slice_get words) (sym last) ∙ word_is in
            subst (λ (p : Part). HasBits (placed_by fabric p) new word) same (last_has fabric part given word old new given_same takes))
      ];
}

-- ---- all words

spare_free : (spare : Bool) → (if spare then Some reasons.SpareBit else None) ≡ None → spare ≡ false
spare_free true fine = cc
spare_free false fine = refl

-- the bit at a bit of a word
bit_at : (placed : ℕ → Option BitPlace) (bits : List (List (List Bool))) (word bit : ℕ) → bit < 32 → has_spare placed word ≡ false → HasBits placed bits word →
    bit_there placed (bit_in (plain_bits bits)) bit ≡ word_bit word bit
bit_at placed bits word bit small fine has =
    elim (placed bit) as (λ o. placed bit ≡ o → option_map_or (bit_in (plain_bits bits)) o false ≡ word_bit word bit) [
      | None ↦ λ is. sym (zero_there placed word bit small fine is)
      | Some at ↦ λ is. has bit at small is
    ] refl

-- a word that is fine and has the bits that are placed is the word of its part
placed_is : (fabric : PlainFabric) (bits : List (List (List Bool))) (part : Part) (word : ℕ) → PlacesBits part → word < 2 ^ 32 → part_problem fabric part word ≡ None →
    HasBits (placed_by fabric part) bits word → word ≡ word_of fabric (plain_bits bits) part
placed_is fabric bits part word places small fine has =
    let free : has_spare (placed_by fabric part) word ≡ false = spare_free (has_spare (placed_by fabric part) word) (sym (problem_by_places fabric part word places) ∙ fine) in
    sym (word_by_places fabric (plain_bits bits) part places ∙ placed_word_is (placed_by fabric part) (bit_in (plain_bits bits)) word small (λ bit low. bit_at (placed_by fabric part) bits word bit low free has))

word_is : (fabric : PlainFabric) (bits : List (List (List Bool))) (part : Part) (word : ℕ) → word < 2 ^ 32 → part_problem fabric part word ≡ None → HasBits (placed_by fabric part) bits word →
    word ≡ word_of fabric (plain_bits bits) part
word_is fabric bits (fixed expected) word small fine has =
    elim (nat_eq word expected) as (λ b. nat_eq word expected ≡ b → (if b then None else Some reasons.Stream) ≡ None → word ≡ expected) [
      | true ↦ λ same e. eqb-true word expected same
      | false ↦ λ same e. cc
    ] refl fine
word_is fabric bits (of_row x y frame) word small fine has = placed_is fabric bits (of_row x y frame) word tt small fine has
word_is fabric bits (of_chain number) word small fine has = placed_is fabric bits (of_chain number) word tt small fine has

some_part : {X : Type 0} (xs : List X) (i : ℕ) → i < length xs → (x : X) × (slice_get xs i ≡ Some x)
some_part [] i few = absurd (omega (arith, few))
some_part (x ∷ xs) zero few = (x, refl)
some_part (x ∷ xs) (suc i) few = some_part xs i (omega (arith, few))

same_word : (fabric : PlainFabric) (words : List ℕ) (n : ℕ) (bits : List (List (List Bool))) (k : ℕ) → get_or words k 0 < 2 ^ 32 → k < length words → k < length (parts fabric) → k < n → HaveTaken fabric words n bits →
    get_or words k 0 ≡ get_or (stream fabric (plain_bits bits)) k 0
same_word fabric words n bits k fits few within taken have =
    let part = some_part (parts fabric) k within in
    let word : ℕ = get_or words k 0 in
    let read : slice_get words k ≡ Some word = slice_get-get_or words k 0 few in
    let fine : part_problem fabric part.0 word ≡ None = sym (λ i. problem_of fabric (part.1 i) (read i)) ∙ have.fine k taken in
    let is : word ≡ word_of fabric (plain_bits bits) part.0 = word_is fabric bits part.0 word fits fine (have.taken k part.0 word taken part.1 read) in
    let there : slice_get (stream fabric (plain_bits bits)) k ≡ Some (word_of fabric (plain_bits bits) part.0) =
    stream_at fabric (plain_bits bits) k ∙ ap (option_map (word_of fabric (plain_bits bits))) part.1 in
    is ∙ sym (get_or_from_slice_get (stream fabric (plain_bits bits)) k (word_of fabric (plain_bits bits) part.0) 0 there)

-- the words are the stream of the bits
pub words_are : (fabric : PlainFabric) (words : List ℕ) (n : ℕ) (bits : List (List (List Bool))) → ((k : ℕ) → get_or words k 0 < 2 ^ 32) → length (parts fabric) ≤ n → length words ≤ length (parts fabric) →
    HaveTaken fabric words n bits → words ≡ stream fabric (plain_bits bits)
words_are fabric words n bits fits all no_more have =
    let as_many : length words ≡ length (parts fabric) = omega (arith, have.present, all, no_more) in
    ext_get_or 0 words (stream fabric (plain_bits bits)) (as_many ∙ sym (length_stream fabric (plain_bits bits))) (λ k few.
    same_word fabric words n bits k (fits k) few (omega (arith, few, as_many)) (omega (arith, few, have.present, as_many, all)) have)

-- ---- words that are refused

pub first_wrong : (fabric : PlainFabric) (words : List ℕ) (n : ℕ) (part : Part) (given : Option ℕ) (reason : Reason) (bits : List (List (List Bool))) → slice_get (parts fabric) n ≡ Some part → slice_get words n ≡ given →
    problem_of fabric (Some part) given ≡ Some reason → HaveTaken fabric words n bits → IsFirstWrong fabric words n reason
first_wrong fabric words n part given reason bits at given_is wrong so_far = record {
  wrong = (λ i. problem_of fabric (at i) (given_is i)) ∙ wrong;
  before = so_far.fine;
}

-- a word behind the last
pub word_behind : (fabric : PlainFabric) (words : List ℕ) (n m : ℕ) (bits : List (List (List Bool))) → m ≡ length (parts fabric) → length (parts fabric) ≤ n → m < length words → HaveTaken fabric words n bits →
    IsFirstWrong fabric words m reasons.Stream
word_behind fabric words n m bits m_is all more so_far =
    let past : slice_get (parts fabric) m ≡ None = slice_get_past (parts fabric) m (omega (arith, m_is)) in
    let there : slice_get words m ≡ Some (get_or words m 0) = slice_get-get_or words m 0 more in
    record {
      wrong = λ i. problem_of fabric (past i) (there i);
      before = λ k few. so_far.fine k (omega (arith, few, m_is, all));
    }

-- the fault of a word that is refused
pub refused_at : (fabric : PlainFabric) (file words : List ℕ) (n : ℕ) (reason : Reason) (fault : Fault) → IsFirstWrong fabric words n reason → IsFaultOr fault (fault_at file (n + 1) (problems.Malformed reason)) →
    (fault ≡ faults.Memory) ⊎ IsStreamRefusal fabric file words fault
refused_at fabric file words n reason fault first told =
    elim told [
      | inl memory ↦ inl memory
      | inr is ↦ inr (record { place = n; reason = reason; first = first; told = is })
    ]

-- ---- laws

-- bits of a fabric with one stream are the same
same_bit : (fabric : PlainFabric) (first second : PlainBits) (at : BitPlace) → IsFabric fabric → IsBitOf fabric at → stream fabric first ≡ stream fabric second → bit_in first at ≡ bit_in second at
same_bit fabric first second at is of same =
    let stands = each_stands fabric at is of in
    let places = places_bits fabric stands.part stands.bit at stands.there in
    let placed = placed_by fabric stands.part in
    let here : Some (word_of fabric first stands.part) ≡ Some (word_of fabric second stands.part) =
    sym (stream_at fabric first stands.place ∙ ap (option_map (word_of fabric first)) stands.stands)
    ∙ ap (λ ws. slice_get ws stands.place) same
    ∙ stream_at fabric second stands.place
    ∙ ap (option_map (word_of fabric second)) stands.stands in
    let words : placed_word placed (bit_in first) ≡ placed_word placed (bit_in second) =
    sym (word_by_places fabric first stands.part places)
    ∙ same_Some (word_of fabric first stands.part) (word_of fabric second stands.part) here
    ∙ word_by_places fabric second stands.part places in
    let bits : bit_there placed (bit_in first) stands.bit ≡ bit_there placed (bit_in second) stands.bit =
    sym (bit_of_word placed (bit_in first) stands.bit stands.small)
    ∙ ap (λ w. word_bit w stands.bit) words
    ∙ bit_of_word placed (bit_in second) stands.bit stands.small in
    sym (ap (λ o. option_map_or (bit_in first) o false) stands.there) ∙ bits ∙ ap (λ o. option_map_or (bit_in second) o false) stands.there

same_place : (fabric : PlainFabric) (first second : List (List (List Bool))) (x y : ℕ) → IsFabric fabric → AreBitsOf fabric first → AreBitsOf fabric second →
    stream fabric (plain_bits first) ≡ stream fabric (plain_bits second) → x < fabric.columns → y < fabric.rows → place_bits first x y ≡ place_bits second x y
same_place fabric first second x y is are are2 same few low =
    ext_get_or false (place_bits first x y) (place_bits second x y) (are.tiles x y few low ∙ sym (are2.tiles x y few low)) (λ number below.
    same_bit fabric (plain_bits first) (plain_bits second) (bit_place x y number) is (record { column = few; row = low; number = omega (arith, below, are.tiles x y few low) }) same)

same_column : (fabric : PlainFabric) (first second : List (List (List Bool))) (x : ℕ) → IsFabric fabric → AreBitsOf fabric first → AreBitsOf fabric second →
    stream fabric (plain_bits first) ≡ stream fabric (plain_bits second) → x < fabric.columns → column_bits first x ≡ column_bits second x
same_column fabric first second x is are are2 same few =
    ext_get_or [] (column_bits first x) (column_bits second x) (are.rows x few ∙ sym (are2.rows x few)) (λ y low.
    same_place fabric first second x y is are are2 same few (omega (arith, low, are.rows x few)))

pub bits_told : (fabric : PlainFabric) (first second : List (List (List Bool))) → IsFabric fabric → AreBitsOf fabric first → AreBitsOf fabric second → stream fabric (plain_bits first) ≡ stream fabric (plain_bits second) →
    first ≡ second
bits_told fabric first second is are are2 same =
    ext_get_or [] first second (are.columns ∙ sym are2.columns) (λ x few.
    same_column fabric first second x is are are2 same (omega (arith, few, are.columns)))

-- what was read of a stream is what it was made of
pub stream_read : (fabric : PlainFabric) (file words : List ℕ) (bits : List (List (List Bool))) (result : Result (List (List (List Bool))) Fault) → IsFabric fabric → IfOk result (AreBitsOf fabric) →
    IfOk result (λ found. words ≡ stream fabric (plain_bits found)) → IfErr result (λ fault. (fault ≡ faults.Memory) ⊎ IsStreamRefusal fabric file words fault) →
    AreBitsOf fabric bits → words ≡ stream fabric (plain_bits bits) → MatchResult result (λ found. found ≡ bits) (λ fault. fault ≡ faults.Memory)
stream_read fabric file words bits (Ok found) is are same refused are2 same2 = bits_told fabric found bits is are are2 (sym same ∙ same2)
stream_read fabric file words bits (Err fault) is are same refused are2 same2 =
    elim refused [
      | inl memory ↦ memory
      | inr refusal ↦ (
          let none : Some refusal.reason ≡ None = sym refusal.first.wrong ∙ ap (λ ws. problem_at fabric ws refusal.place) same2 ∙ stream_fine fabric (plain_bits bits) refusal.place in
          cc)
    ]
