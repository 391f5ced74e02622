-- The command `features` has one first refusal, or is ready.
use Rattle.std.proofs.Common.{◌≡◌, ◌<◌, ◌%◌, ◌*◌, ◌+◌, ℕ, Bool, List, length, Option, Some, inl, inr, refl, sym, ap, ◌∙◌, subst, arith}
use Rattle.std.proofs.lemmas.Bool.{cases_lt}
use Rattle.fab_base.specs.Reading.{fault_at}
use Rattle.fab_base.specs.declared.fault.Fault.{Fault}
use Rattle.fab_base.specs.declared.problem.Problem.TheVariants as problems
use Rattle.fab_base.specs.declared.words.Reason.{Reason}
use Rattle.fab_desk.specs.Files.{Map}
use Rattle.fab_files.specs.Files.{refuses}
use Rattle.fab_files.specs.Stages.{IsJudged, AreJudged}
use Rattle.fab_files.proofs.Stages.{file_is_judged, turn_is_judged}
use Rattle.fab_model.specs.Grid.{PlainFabric}
use Rattle.fab_fabric.specs.Bits.{plain_bits}
use Rattle.fab_frames.specs.Refusals.{IsStreamRefusal}
use Rattle.fab_frames.specs.Stream.{problem_at, stream}
use Rattle.fab_frames.proofs.ByteWords.{length_bytes, bytes_tell_words, all_fit}
use Rattle.fab_frames.proofs.Streams.{stream_fine}
use Rattle.fab_read.specs.Fabrics.{SpellsFabric, MeetsFabric}
use Rattle.fab_outputs.specs.Bitstreams.{AreBytesOf}
use Rattle.fab_flow.specs.BitFeatures.{FeaturesFiles, IsReadyForFeatures, MeetsBitFeatures, MeetsBitstream, RefusesBitstream, SpellsBits, cut, wrong}
use Rattle.fab_flow.proofs.Once.{fabric_is_judged}
use Rattle.fab_files.specs.Stages.{ReadsFrom}

-- ---- the first wrong word

same_reason : {a b : Reason} → (let reason : Reason → Option Reason = λ r. Some r in reason a ≡ reason b) → a ≡ b
same_reason same = cc

same_refusal : (fabric : PlainFabric) (file words : List ℕ) (a b : Fault) (x : IsStreamRefusal fabric file words a) (y : IsStreamRefusal fabric file words b) → x.place ≡ y.place → a ≡ b
same_refusal fabric file words a b x y same =
    let alike : x.reason ≡ y.reason = same_reason (sym x.first.wrong ∙ ap (problem_at fabric words) same ∙ y.first.wrong) in
    x.told ∙ ap (λ n. fault_at file (n + 1) (problems.Malformed x.reason)) same ∙ ap (λ r. fault_at file (y.place + 1) (problems.Malformed r)) alike ∙ sym y.told

-- no word before the first wrong one is wrong
none_before : (fabric : PlainFabric) (file words : List ℕ) (a b : Fault) (x : IsStreamRefusal fabric file words a) (y : IsStreamRefusal fabric file words b) → x.place < y.place → ⊥
none_before fabric file words a b x y less = let differ = sym x.first.wrong ∙ y.first.before x.place less in cc

refusal_once : (fabric : PlainFabric) (file words : List ℕ) (a b : Fault) → IsStreamRefusal fabric file words a → IsStreamRefusal fabric file words b → a ≡ b
refusal_once fabric file words a b x y = elim (cases_lt x.place y.place) [
  | inl less ↦ absurd (none_before fabric file words a b x y less)
  | inr other ↦ elim (cases_lt y.place x.place) [
    | inl less ↦ absurd (none_before fabric file words b a y x less)
    | inr more ↦ same_refusal fabric file words a b x y (omega (arith, other, more))
  ]
]

-- ---- a bitstream file

-- bytes are those of one list of words
one_list : (bytes first second : List ℕ) → AreBytesOf first bytes → AreBytesOf second bytes → first ≡ second
one_list bytes first second x y = bytes_tell_words first second (all_fit first x.fit) (all_fit second y.fit) (sym x.bytes_are ∙ y.bytes_are)

-- the bytes of words do not end within one
whole : (bytes words : List ℕ) → AreBytesOf words bytes → length bytes % 4 ≡ 0
whole bytes words of =
    let long : length bytes ≡ 4 * length words = ap length of.bytes_are ∙ length_bytes words in
    omega (arith, long)

bitstream_once : (fabric : PlainFabric) (file bytes : List ℕ) (a b : Fault) → RefusesBitstream fabric file bytes a → RefusesBitstream fabric file bytes b → a ≡ b
bitstream_once fabric file bytes a b (cut x) (cut y) = x.told ∙ sym y.told
bitstream_once fabric file bytes a b (cut x) (wrong words of y) = absurd (x.rest (whole bytes words of))
bitstream_once fabric file bytes a b (wrong words of x) (cut y) = absurd (y.rest (whole bytes words of))
bitstream_once fabric file bytes a b (wrong words of x) (wrong others also y) =
    refusal_once fabric file others a b (subst (λ (w : List ℕ). IsStreamRefusal fabric file w a) (one_list bytes words others of also) x) y

-- the bytes spell bits
abbrev SpellsSome : PlainFabric → (bytes : List ℕ) → Unit {0} → Type 0
SpellsSome fabric bytes _ = (bits : List (List (List Bool))) × SpellsBits fabric bytes bits

bitstream_apart : (fabric : PlainFabric) (file bytes : List ℕ) (bits : List (List (List Bool))) (fault : Fault) → SpellsBits fabric bytes bits → RefusesBitstream fabric file bytes fault → ⊥
bitstream_apart fabric file bytes bits fault spells (cut x) = x.rest (whole bytes spells.words spells.of_words)
bitstream_apart fabric file bytes bits fault spells (wrong words of x) =
    let is : words ≡ stream fabric (plain_bits bits) = one_list bytes words spells.words of spells.of_words ∙ spells.words_are in
    let fine = ap (λ (w : List ℕ). problem_at fabric w x.place) is ∙ stream_fine fabric (plain_bits bits) x.place in
    let differ = sym x.first.wrong ∙ fine in
    cc

bytes_are_judged : (fabric : PlainFabric) (file : List ℕ) → AreJudged (λ a b. a ≡ b) (SpellsSome fabric) (RefusesBitstream fabric file)
bytes_are_judged fabric file = record {
  once = λ bytes a b x y. refl;
  refused_once = λ bytes a b x y. bitstream_once fabric file bytes a b x y;
  apart = λ bytes value fault x y. bitstream_apart fabric file bytes x.0 fault x.1 y;
}

-- ---- the command

module _ (files : Map) (names : FeaturesFiles) where
  bitstream_is_judged : (fabric : PlainFabric) → IsJudged (λ a b. a ≡ b) (ReadsFrom files names.bit (SpellsSome fabric)) (MeetsBitstream files names.bit fabric)
  bitstream_is_judged fabric = file_is_judged (λ a b. a ≡ b) (λ fault. refl) files (SpellsSome fabric) (RefusesBitstream fabric names.bit) (bytes_are_judged fabric names.bit) names.bit

  features_are_judged : IsJudged (λ a b. a ≡ b) (λ (value : PlainFabric × Unit {0}). SpellsFabric files names.fabric value.0 × ReadsFrom files names.bit (SpellsSome value.0) value.1)
      (MeetsBitFeatures files names)
  features_are_judged =
      turn_is_judged (λ a b. a ≡ b) (SpellsFabric files names.fabric) (MeetsFabric files names.fabric) (MeetsBitstream files names.bit) (fabric_is_judged files names.fabric)
      (λ fabric value. ReadsFrom files names.bit (SpellsSome fabric) value) (λ fabric spelled. bitstream_is_judged fabric)

  -- what the command comes upon is one refusal
  pub one_refusal : (a b : Fault) → MeetsBitFeatures files names (refuses a) → MeetsBitFeatures files names (refuses b) → a ≡ b
  one_refusal a b = features_are_judged.refused_once a b

  -- what is ready is not refused
  pub not_both : (fault : Fault) → IsReadyForFeatures files names → MeetsBitFeatures files names (refuses fault) → ⊥
  not_both fault ready =
      let read = ready.read in
      features_are_judged.apart (ready.fabric, tt) fault (ready.spelled, record { bytes = read.bytes; found = read.found; spelled = (ready.bits, read.spelled) })
