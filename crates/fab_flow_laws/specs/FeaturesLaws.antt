-- Lists of features that commands wrote, given to `bits`.
use Rattle.std.specs.Prelude.{◌≡◌, ℕ, All, List, [], ◌∷◌, ◌++◌, codes, Some, Ok}
use Rattle.fab_desk.specs.Files.{Map}
use Rattle.fab_files.specs.Files.{handed_out}
use Rattle.fab_model.specs.Grid.{PlainFabric}
use Rattle.fab_model.specs.Drive.{PlainBits}
use Rattle.fab_fabric.specs.Bits.{plain_bits}
use Rattle.fab_fasm.specs.Printing.{HasSpelling}
use Rattle.fab_read.specs.Fabrics.{SpellsFabric}
use Rattle.fab_outputs.specs.Storing.{PlainOutput, output, with_outputs}
use Rattle.fab_flow_laws.specs.BitsLaws.{DriveAlike, PairsStandOnce, SelectsInputs}
use Rattle.fab_flow_laws.specs.fab_features_Spelled.{features_in}
use Rattle.fab_flow_laws.specs.fab_flow_Assembling.{AssemblyFiles, MakesAssembly}
use Rattle.fab_flow_laws.specs.fab_flow_BitFeatures.{FeaturesFiles, MakesFeatures}
use Rattle.fab_flow_laws.specs.fab_flow_Bits.{IsReadyForBits, MakesBits, bits_files}
use Rattle.fab_flow_laws.specs.fab_flow_Flowing.{FlowFiles, MakesFlow}

-- ---- fabrics that files spell

-- no pair stands twice: a switch list counts it once, and a matrix table has one cell for it
abbrev pub SpelledPairsStandOnce : Type 0
SpelledPairsStandOnce = (files : Map) (name : List ℕ) (fabric : PlainFabric) → SpellsFabric files name fabric → All PairsStandOnce fabric.types

-- the features that bits of such a fabric spell can be written in lines
abbrev pub SpelledFeaturesAreWritten : Type 0
SpelledFeaturesAreWritten =
    (files : Map) (name : List ℕ) (fabric : PlainFabric) → SpellsFabric files name fabric → (bits : PlainBits) → All HasSpelling (features_in fabric bits)

-- ---- BASE.fasm

-- A file holds what some command stored under the name `written`, and another spells the fabric of those features. Both may have new names.
pub record StandsBehind (fabric : PlainFabric) (written : List ℕ) (stored later : Map) (name file : List ℕ) : Type 0 where
  pub spelled : SpellsFabric later name fabric
  pub kept : later file ≡ stored written

-- the one output holds what was stored as BASE.bit
abbrev pub IsBitstreamAgain : (base : List ℕ) (stored : Map) (out : List ℕ) → List PlainOutput → Type 0
IsBitstreamAgain base stored out outputs = (bytes : List ℕ) × (stored (base ++ codes ".bit") ≡ Some bytes) × (outputs ≡ output out bytes ∷ [])

-- Where BASE.fasm can be handed out, `bits` refuses nothing of it. What it makes of it is BASE.bit.
pub record IsItsBitstream (fabric : PlainFabric) (base : List ℕ) (stored : Map) : Type 0 where
  pub ready : (later : Map) (name file out text : List ℕ) → StandsBehind fabric (base ++ codes ".fasm") stored later name file →
      handed_out later file ≡ Ok text → IsReadyForBits later (bits_files name file out)
  pub same : (later : Map) (name file out : List ℕ) (outputs : List PlainOutput) → StandsBehind fabric (base ++ codes ".fasm") stored later name file →
      MakesBits later (bits_files name file out) outputs → IsBitstreamAgain base stored out outputs

abbrev pub AssembledFeaturesAreTheirBits : Type 0
AssembledFeaturesAreTheirBits =
    (files : Map) (names : AssemblyFiles) (stored : List PlainOutput) (made : MakesAssembly files names stored) →
    IsItsBitstream made.ready.design.fabric names.base (with_outputs stored files)

abbrev pub FlowFeaturesAreTheirBits : Type 0
FlowFeaturesAreTheirBits =
    (files : Map) (names : FlowFiles) (allowed : ℕ) (stored : List PlainOutput) (made : MakesFlow files names allowed stored) →
    IsItsBitstream made.design.fabric names.base (with_outputs stored files)

-- ---- `features`, and then `bits`

-- Where what `features` wrote can be handed out, `bits` refuses nothing of it. By the bits that it makes of it each BEL is configured and each wire driven
-- as by those of the bitstream. Where no select value of these is outside the pairs of its output, the bitstream comes back byte for byte.
pub record GivesBack {files : Map} {names : FeaturesFiles} {stored : List PlainOutput} (made : MakesFeatures files names stored) : Type 0 where
  pub ready : (later : Map) (name file out text : List ℕ) → StandsBehind made.fabric names.out (with_outputs stored files) later name file →
      handed_out later file ≡ Ok text → IsReadyForBits later (bits_files name file out)
  pub alike : (later : Map) (name file out : List ℕ) (outputs : List PlainOutput) → StandsBehind made.fabric names.out (with_outputs stored files) later name file →
      (back : MakesBits later (bits_files name file out) outputs) → DriveAlike made.fabric (plain_bits made.bits) (plain_bits back.made.bits)
  pub same : (later : Map) (name file out : List ℕ) (outputs : List PlainOutput) → StandsBehind made.fabric names.out (with_outputs stored files) later name file →
      SelectsInputs made.fabric (plain_bits made.bits) → MakesBits later (bits_files name file out) outputs → outputs ≡ output out made.read.bytes ∷ []

abbrev pub FeaturesGiveBitsBack : Type 0
FeaturesGiveBitsBack = (files : Map) (names : FeaturesFiles) (stored : List PlainOutput) (made : MakesFeatures files names stored) → GivesBack made

-- So it is with BASE.bit: a file holds it, `features` is run on this file, and `bits` on what that wrote. No select value of it is outside the pairs.
abbrev pub ComesBack : PlainFabric → (base : List ℕ) → (stored : Map) → Type 0
ComesBack fabric base stored =
    (later : Map) (names : FeaturesFiles) (written : List PlainOutput) → SpellsFabric later names.fabric fabric → later names.bit ≡ stored (base ++ codes ".bit") →
    MakesFeatures later names written →
    (last : Map) (name file out : List ℕ) (outputs : List PlainOutput) → StandsBehind fabric names.out (with_outputs written later) last name file →
    MakesBits last (bits_files name file out) outputs → IsBitstreamAgain base stored out outputs

abbrev pub AssembledBitstreamsComeBack : Type 0
AssembledBitstreamsComeBack =
    (files : Map) (names : AssemblyFiles) (stored : List PlainOutput) (made : MakesAssembly files names stored) →
    ComesBack made.ready.design.fabric names.base (with_outputs stored files)

abbrev pub FlowBitstreamsComeBack : Type 0
FlowBitstreamsComeBack =
    (files : Map) (names : FlowFiles) (allowed : ℕ) (stored : List PlainOutput) (made : MakesFlow files names allowed stored) →
    ComesBack made.design.fabric names.base (with_outputs stored files)
