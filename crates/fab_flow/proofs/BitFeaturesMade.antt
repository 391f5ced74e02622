-- What the command `features` makes, and why a bitstream file is not taken.
use Rattle.std.proofs.Common.{◌≡◌, ◌⊎◌, ◌≤◌, ◌/◌, ◌+◌, ◌*◌, ℕ, Bool, List, [], ◌∷◌, length, Option, Some, Result, Ok, Err, IfOk, refl, sym, ap, ◌∙◌, inl, inr, subst, arith}
use Rattle.std.specs.List.{flat_map}
use Rattle.std.specs.Option.{ForSome}
use Rattle.fab_base.specs.declared.TheConstants.{MAX_FILE_BYTES}
use Rattle.fab_base.specs.declared.fault.Fault.{Fault}
use Rattle.fab_base.specs.declared.fault.Fault.TheVariants as faults
use Rattle.fab_base.specs.declared.problem.Problem.TheVariants as problems
use Rattle.fab_base.specs.declared.words.Reason.TheVariants as reasons
use Rattle.fab_desk.specs.Files.{Map}
use Rattle.fab_files.specs.Files.{Event, HasReadCause, refuses}
use Rattle.fab_files.specs.Stages.{at_first, behind_it}
use Rattle.fab_files.proofs.Causes.{cause_weaker, placed_cause}
use Rattle.fab_read.specs.Fabrics.{SpellsFabric, MeetsFabric}
use Rattle.fab_model.specs.Grid.{PlainFabric}
use Rattle.fab_fabric.specs.Bits.{AreBitsOf, plain_bits}
use Rattle.fab_fasm.specs.Printing.{printed}
use Rattle.fab_frames.specs.Bytes.{word_bytes}
use Rattle.fab_frames.specs.Refusals.{IsCut, IsStreamRefusal}
use Rattle.fab_frames.specs.Stream.{stream}
use Rattle.fab_frames.proofs.ByteWords.{length_bytes}
use Rattle.fab_assemble.specs.fab_features_Spelled.{features_in}
use Rattle.fab_outputs.specs.Bitstreams.{AreBytesOf}
use Rattle.fab_flow.specs.BitFeatures.{FeaturesFiles, HasFeaturesCause, IsReadyForFeatures, MakesFeatures, MeetsBitFeatures, MeetsBitstream, ReadsBits, RefusesBitstream, SpellsBits, cut, features_refusals, wrong}
use Rattle.fab_outputs.specs.Storing.{PlainOutput, output}
use Rattle.fab_outputs.proofs.Ending.{Reads, cause_of_read}

-- ---- the bytes of a bitstream

-- a file has no more than 2^24 words
pub few_words : (bytes words : List ℕ) → bytes ≡ flat_map word_bytes words → length bytes ≤ MAX_FILE_BYTES → length words ≤ 16777216
few_words bytes words same short =
    let long : length bytes ≡ 4 * length words = ap length same ∙ length_bytes words in
    omega (arith, long, short)

-- the bits that words spell, their bytes do
pub bytes_spell : (fabric : PlainFabric) (bytes words : List ℕ) (result : Result (List (List (List Bool))) Fault) → AreBytesOf words bytes → IfOk result (AreBitsOf fabric)
    → IfOk result (λ bits. words ≡ stream fabric (plain_bits bits)) → IfOk result (SpellsBits fabric bytes)
bytes_spell fabric bytes words (Ok bits) of are is = record { words = words; of_words = of; are = are; words_are = is }
bytes_spell fabric bytes words (Err fault) of are is = tt

-- words are refused, and so are their bytes
pub words_refused : (fabric : PlainFabric) (file bytes words : List ℕ) (fault : Fault) → AreBytesOf words bytes
    → (fault ≡ faults.Memory) ⊎ IsStreamRefusal fabric file words fault → (fault ≡ faults.Memory) ⊎ RefusesBitstream fabric file bytes fault
words_refused fabric file bytes words fault of (inl memory) = inl memory
words_refused fabric file bytes words fault of (inr is) = inr (wrong words of is)

-- bytes that end within a word are refused
pub cut_refused : (fabric : PlainFabric) (file bytes : List ℕ) (fault : Fault) → (fault ≡ faults.Memory) ⊎ IsCut file bytes fault → (fault ≡ faults.Memory) ⊎ RefusesBitstream fabric file bytes fault
cut_refused fabric file bytes fault (inl memory) = inl memory
cut_refused fabric file bytes fault (inr is) = inr (cut is)

-- a file is refused for its bytes, unless memory was
pub bitstream_refused : (told : Option Map) (rose : Type 0) (meets : Map → Event → Type 0) (fabric : PlainFabric) (file bytes : List ℕ) (fault : Fault)
    → (fault ≡ faults.Memory) ⊎ RefusesBitstream fabric file bytes fault → ((files : Map) → told ≡ Some files → RefusesBitstream fabric file bytes fault → meets files (refuses fault))
    → HasReadCause told rose meets fault
bitstream_refused told rose meets fabric file bytes fault (inl memory) met = subst (HasReadCause told rose meets) (sym memory) tt
bitstream_refused told rose meets fabric file bytes fault (inr (cut is)) met =
    placed_cause told rose meets file (length bytes / 4 + 1) (problems.Malformed reasons.Word) fault (λ files there. subst (λ (f : Fault). meets files (refuses f)) is.told (met files there (cut is))) (inr is.told)
bitstream_refused told rose meets fabric file bytes fault (inr (wrong words of is)) met =
    placed_cause told rose meets file (is.place + 1) (problems.Malformed is.reason) fault
    (λ files there. subst (λ (f : Fault). meets files (refuses f)) is.told (met files there (wrong words of is))) (inr is.told)

-- what is read of a bitstream file, where reading the fabric left the files as they were
pub bits_behind : (told now : Option Map) (file : List ℕ) (fabric : PlainFabric) (bits : List (List (List Bool))) → now ≡ told → ForSome now (λ files. ReadsBits files file fabric bits)
    → ForSome told (λ files. ReadsBits files file fabric bits)
bits_behind told now file fabric bits same read = λ files there. read files (same ∙ there)

-- ---- what is made

pub features_made : (files : Map) (names : FeaturesFiles) (fabric : PlainFabric) (bits : List (List (List Bool))) (text : List ℕ) (outputs : List PlainOutput) → SpellsFabric files names.fabric fabric
    → ReadsBits files names.bit fabric bits → text ≡ printed (features_in fabric (plain_bits bits)) → outputs ≡ output names.out text ∷ [] → MakesFeatures files names outputs
features_made files names fabric bits text outputs spelled read is are =
    record { fabric = fabric; bits = bits; spelled = spelled; read = read; outputs_are = are ∙ ap (λ (t : List ℕ). output names.out t ∷ []) is }

-- ---- refusals

among : Reads features_refusals
among = record { missing = refl; long = refl; malformed = refl; unsupported = refl; limit = refl }

module _ (told : Option Map) (names : FeaturesFiles) (reads writes : Type 0) (fault : Fault) where
  -- the fabric is refused
  pub fabric_cause : HasReadCause told reads (λ files. MeetsFabric files names.fabric) fault → HasFeaturesCause told names reads writes fault
  fabric_cause cause =
      cause_of_read told reads writes (λ files. MeetsBitFeatures files names) (λ files. IsReadyForFeatures files names) features_refusals among
      (λ files. MeetsFabric files names.fabric) (λ files event is x. at_first x) fault cause

  -- the bitstream file is
  pub bitstream_cause : (fabric : PlainFabric) (now : Option Map) (first : Type 0) → ForSome told (λ files. SpellsFabric files names.fabric fabric) → now ≡ told → (first → reads)
      → HasReadCause now first (λ files. MeetsBitstream files names.bit fabric) fault → HasFeaturesCause told names reads writes fault
  bitstream_cause fabric now first spelled same higher cause =
      let meets_all : Map → Event → Type 0 = λ files. MeetsBitFeatures files names in
      cause_of_read told reads writes meets_all (λ files. IsReadyForFeatures files names) features_refusals among meets_all (λ files event there x. x) fault
      (cause_weaker now told first reads (λ files. MeetsBitstream files names.bit fabric) meets_all fault same higher (λ files there event x. behind_it (spelled files there) x) cause)
