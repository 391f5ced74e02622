-- What the command `bits` does to the files, and why it ends otherwise.
use Rattle.std.specs.Prelude.{◌≡◌, ℕ, Bool, List, [], ◌∷◌, Option}
use Rattle.std.specs.List.{flat_map}
use Rattle.std.specs.Str.Lines.{lines}
use Rattle.fab_base.specs.declared.fault.Fault.{Fault}
use Rattle.fab_base.specs.declared.fault.Fault.TheVariants as faults
use Rattle.fab_desk.specs.Files.{Map}
use Rattle.fab_files.specs.Files.{Event}
use Rattle.fab_files.specs.Stages.{ReadsFrom, MeetsIn, MeetsBehind, MeetsLast}
use Rattle.fab_lines.specs.Order.{IsFirstFault}
use Rattle.fab_model.specs.Grid.{PlainFabric}
use Rattle.fab_fabric.specs.Bits.{AreBitsOf, plain_bits}
use Rattle.fab_legal.specs.Turns.{AreRight}
use Rattle.fab_fasm.specs.declared.feature.Feature.{Feature}
use Rattle.fab_fasm.specs.Fasm.{fasm_judge}
use Rattle.fab_fasm.specs.Spelled.{SpellsFasm}
use Rattle.fab_frames.specs.Bytes.{word_bytes}
use Rattle.fab_frames.specs.Stream.{stream}
use Rattle.fab_read.specs.Fabrics.{SpellsFabric, MeetsFabric}
use Rattle.fab_assemble.specs.fab_features_Features.{IsBitMapOf}
use Rattle.fab_assemble.specs.fab_features_Wrong.{IsRightFeature, BreaksFirst}
use Rattle.fab_outputs.specs.Storing.{PlainOutput, output}
use Rattle.fab_outputs.specs.Ending.{HasCause}

-- the names of the fabric file, of the FASM file, and of the output
pub record BitsFiles : Type 0 where
  pub fabric : List ℕ
  pub fasm : List ℕ
  pub out : List ℕ

abbrev pub bits_files : (fabric fasm out : List ℕ) → BitsFiles
bits_files fabric fasm out = record { fabric = fabric; fasm = fasm; out = out }

-- ---- a file of features

-- the lines of the file say these features, each by its parts
abbrev pub ReadsFeatures : (files : Map) (file : List ℕ) → List Feature → Type 0
ReadsFeatures files file features = ReadsFrom files file (λ bytes. SpellsFasm (lines bytes)) features

-- the first line that is refused, of a FASM file with these bytes
abbrev pub RefusesFeatures : (file bytes : List ℕ) → Fault → Type 0
RefusesFeatures file bytes fault = IsFirstFault fasm_judge file (lines bytes) fault

abbrev pub MeetsFeatures : (files : Map) (file : List ℕ) → Event → Type 0
MeetsFeatures files file event = MeetsIn files file (RefusesFeatures file) event

-- ---- what is done

-- The bytes are the bitstream of configuration bits of the fabric that are those which the features set, the most significant byte of each word first.
pub record IsBitstreamOf (fabric : PlainFabric) (features : List Feature) (bytes : List ℕ) : Type 0 where
  pub bits : List (List (List Bool))
  pub are : AreBitsOf fabric bits
  pub bit_map : IsBitMapOf fabric features (plain_bits bits)
  pub bytes_are : bytes ≡ flat_map word_bytes (stream fabric (plain_bits bits))

-- The files spell a fabric and a list of features. The fabric has each of these, no output has two inputs, and the one output is their bitstream.
pub record MakesBits (files : Map) (names : BitsFiles) (outputs : List PlainOutput) : Type 0 where
  pub fabric : PlainFabric
  pub features : List Feature
  pub spelled : SpellsFabric files names.fabric fabric
  pub read : ReadsFeatures files names.fasm features
  pub right : AreRight (IsRightFeature fabric) features
  pub bytes : List ℕ
  pub made : IsBitstreamOf fabric features bytes
  pub outputs_are : outputs ≡ output names.out bytes ∷ []

-- ---- the first refusal

-- A list of features is refused for its first wrong line: the fabric lacks its feature, or a line before it chooses another input for its output.
pub data RefusesBits (fabric : PlainFabric) (features : List Feature) : Fault → Type 0 where
  illegal : {rule : ℕ} {item : List ℕ} → BreaksFirst fabric features rule item → RefusesBits fabric features (faults.Illegal rule item)

-- what is come upon behind the fabric: no feature is judged before the whole file is read
abbrev pub MeetsBitsBehind : (files : Map) (fasm : List ℕ) → PlainFabric → Event → Type 0
MeetsBitsBehind files fasm fabric event = MeetsBehind (ReadsFeatures files fasm) (MeetsFeatures files fasm) (λ features. MeetsLast (RefusesBits fabric features)) event

-- What the command comes upon: first in the fabric file with all that it names, then in the FASM file, and then in what these spell.
abbrev pub MeetsBits : (files : Map) (names : BitsFiles) → Event → Type 0
MeetsBits files names event = MeetsBehind (SpellsFabric files names.fabric) (MeetsFabric files names.fabric) (MeetsBitsBehind files names.fasm) event

-- nothing is refused
pub record IsReadyForBits (files : Map) (names : BitsFiles) : Type 0 where
  pub fabric : PlainFabric
  pub features : List Feature
  pub spelled : SpellsFabric files names.fabric fabric
  pub read : ReadsFeatures files names.fasm features
  pub right : AreRight (IsRightFeature fabric) features

-- ---- why the command ends with a fault

-- absent, too long, malformed, unsupported, over a limit, and illegal
abbrev pub bits_refusals : List ℕ
bits_refusals = 2 ∷ 3 ∷ 4 ∷ 5 ∷ 6 ∷ 10 ∷ []

abbrev pub HasBitsCause : (told : Option Map) → (names : BitsFiles) → (reads_rose writes_rose : Type 0) → Fault → Type 0
HasBitsCause told names reads_rose writes_rose fault =
    HasCause told reads_rose writes_rose (λ files. MeetsBits files names) (λ files. IsReadyForBits files names) bits_refusals fault
