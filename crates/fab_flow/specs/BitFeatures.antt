-- What the command `features` does to the files, and why it ends otherwise.
use Rattle.std.specs.Prelude.{◌≡◌, ℕ, Bool, List, [], ◌∷◌, Option}
use Rattle.fab_base.specs.declared.fault.Fault.{Fault}
use Rattle.fab_desk.specs.Files.{Map}
use Rattle.fab_files.specs.Files.{Event}
use Rattle.fab_files.specs.Stages.{ReadsFrom, MeetsIn, MeetsBehind}
use Rattle.fab_model.specs.Grid.{PlainFabric}
use Rattle.fab_fabric.specs.Bits.{AreBitsOf, plain_bits}
use Rattle.fab_fasm.specs.Printing.{printed}
use Rattle.fab_frames.specs.Refusals.{IsCut, IsStreamRefusal}
use Rattle.fab_frames.specs.Stream.{stream}
use Rattle.fab_read.specs.Fabrics.{SpellsFabric, MeetsFabric}
use Rattle.fab_assemble.specs.fab_features_Spelled.{features_in}
use Rattle.fab_outputs.specs.Bitstreams.{AreBytesOf}
use Rattle.fab_outputs.specs.Ending.{HasCause}
use Rattle.fab_outputs.specs.Storing.{PlainOutput, output}

-- the names of the fabric file, of the bitstream file, and of the output
pub record FeaturesFiles : Type 0 where
  pub fabric : List ℕ
  pub bit : List ℕ
  pub out : List ℕ

abbrev pub features_files : (fabric bit out : List ℕ) → FeaturesFiles
features_files fabric bit out = record { fabric = fabric; bit = bit; out = out }

-- ---- a bitstream file

-- The bytes are those of the bitstream of these configuration bits of the fabric.
pub record SpellsBits (fabric : PlainFabric) (bytes : List ℕ) (bits : List (List (List Bool))) : Type 0 where
  pub words : List ℕ
  pub of_words : AreBytesOf words bytes
  pub are : AreBitsOf fabric bits
  pub words_are : words ≡ stream fabric (plain_bits bits)

abbrev pub ReadsBits : (files : Map) (file : List ℕ) → PlainFabric → List (List (List Bool)) → Type 0
ReadsBits files file fabric bits = ReadsFrom files file (SpellsBits fabric) bits

-- The bytes end within a word, or else they are those of words, and the first of these is told that no bitstream of the fabric has there.
pub data RefusesBitstream (fabric : PlainFabric) (file bytes : List ℕ) : Fault → Type 0 where
  cut : {fault : Fault} → IsCut file bytes fault → RefusesBitstream fabric file bytes fault
  wrong : {fault : Fault} (words : List ℕ) → AreBytesOf words bytes → IsStreamRefusal fabric file words fault → RefusesBitstream fabric file bytes fault

abbrev pub MeetsBitstream : (files : Map) (file : List ℕ) → PlainFabric → Event → Type 0
MeetsBitstream files file fabric event = MeetsIn files file (RefusesBitstream fabric file) event

-- ---- what is done

-- The files spell a fabric and configuration bits of it, and the one output is the text of the features that these spell.
pub record MakesFeatures (files : Map) (names : FeaturesFiles) (outputs : List PlainOutput) : Type 0 where
  pub fabric : PlainFabric
  pub bits : List (List (List Bool))
  pub spelled : SpellsFabric files names.fabric fabric
  pub read : ReadsBits files names.bit fabric bits
  pub outputs_are : outputs ≡ output names.out (printed (features_in fabric (plain_bits bits))) ∷ []

-- ---- why the command ends with a fault

-- What the command comes upon: first in the fabric file with all that it names, and then in the bitstream file.
abbrev pub MeetsBitFeatures : (files : Map) (names : FeaturesFiles) → Event → Type 0
MeetsBitFeatures files names event = MeetsBehind (SpellsFabric files names.fabric) (MeetsFabric files names.fabric) (MeetsBitstream files names.bit) event

-- nothing is refused
pub record IsReadyForFeatures (files : Map) (names : FeaturesFiles) : Type 0 where
  pub fabric : PlainFabric
  pub bits : List (List (List Bool))
  pub spelled : SpellsFabric files names.fabric fabric
  pub read : ReadsBits files names.bit fabric bits

-- absent, too long, malformed, unsupported, and over a limit
abbrev pub features_refusals : List ℕ
features_refusals = 2 ∷ 3 ∷ 4 ∷ 5 ∷ 6 ∷ []

abbrev pub HasFeaturesCause : (told : Option Map) → (names : FeaturesFiles) → (reads_rose writes_rose : Type 0) → Fault → Type 0
HasFeaturesCause told names reads_rose writes_rose fault =
    HasCause told reads_rose writes_rose (λ files. MeetsBitFeatures files names) (λ files. IsReadyForFeatures files names) features_refusals fault
