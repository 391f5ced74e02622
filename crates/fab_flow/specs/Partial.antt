-- What the command `partial` does to the files, and why it ends otherwise.
use Rattle.std.specs.Prelude.{◌≡◌, ◌<◌, ◌≤◌, ℕ, Bool, List, [], ◌∷◌, Option, codes, decimal}
use Rattle.std.specs.List.{flat_map}
use Rattle.fab_base.specs.declared.fault.Fault.{Fault}
use Rattle.fab_base.specs.declared.fault.Fault.TheVariants as faults
use Rattle.fab_base.specs.declared.problem.Problem.TheVariants as problems
use Rattle.fab_base.specs.Reading.{fault_at}
use Rattle.fab_desk.specs.Files.{Map}
use Rattle.fab_files.specs.Files.{Event}
use Rattle.fab_files.specs.Stages.{MeetsBehind, MeetsLast}
use Rattle.fab_syntax.specs.Plain.{PlainModule}
use Rattle.fab_model.specs.declared.mode.Mode.TheVariants as modes
use Rattle.fab_model.specs.Grid.{PlainFabric}
use Rattle.fab_fabric.specs.Bits.{AreBitsOf, plain_bits}
use Rattle.fab_fabric.specs.Names.{site_text}
use Rattle.fab_netlist.specs.Plain.{PlainNetlist}
use Rattle.fab_netlist.specs.WellMade.{IsWellMade}
use Rattle.fab_netlist.specs.Cycles.{HasNoCycle}
use Rattle.fab_netlist.specs.Packing.{packed}
use Rattle.fab_implementation.specs.Plain.{Pad, PlainImplementation}
use Rattle.fab_legal.specs.Broken.{IsWireText}
use Rattle.fab_legal.specs.Legal.{IsLegal}
use Rattle.fab_legal.specs.Turns.{AreRight}
use Rattle.fab_fasm.specs.declared.feature.Feature.{Feature}
use Rattle.fab_frames.specs.Bytes.{word_bytes}
use Rattle.fab_partial.specs.Columns.{lies_within, partial_stream}
use Rattle.fab_partial.specs.Use.{AreUnused, IsUse}
use Rattle.fab_partial.specs.declared.uses.Use.{Use}
use Rattle.fab_partial.specs.declared.uses.Use.TheVariants as uses
use Rattle.fab_read.specs.Fabrics.{SpellsFabric, MeetsFabric}
use Rattle.fab_designs.specs.Implementations.{ReadsImplementation, MeetsImplementation}
use Rattle.fab_assemble.specs.fab_fabric_text_defs_Texts.{IsFabricText}
use Rattle.fab_assemble.specs.fab_features_Features.{IsBitMapOf}
use Rattle.fab_assemble.specs.fab_features_Wrong.{IsRightFeature, BreaksFirst}
use Rattle.fab_exchange_laws.specs.Exchanges.{ExchangesColumns}
use Rattle.fab_outputs.specs.Storing.{PlainOutput, output}
use Rattle.fab_outputs.specs.Ending.{HasCause}
use Rattle.fab_flow.specs.Bits.{ReadsFeatures, MeetsFeatures}

-- the names of the fabric file, of the implementation that runs, of the FASM file with the new content, and of the output; and the columns, by the
-- first and the last
pub record PartialFiles : Type 0 where
  pub fabric : List ℕ
  pub implementation : List ℕ
  pub fasm : List ℕ
  pub first : ℕ
  pub last : ℕ
  pub out : List ℕ

abbrev pub partial_files : (fabric implementation fasm : List ℕ) → (first last : ℕ) → (out : List ℕ) → PartialFiles
partial_files fabric implementation fasm first last out =
    record { fabric = fabric; implementation = implementation; fasm = fasm; first = first; last = last; out = out }

-- ---- what is done

-- The bytes are the bitstream of some columns for configuration bits of the fabric that are those which the features set, the most significant byte of
-- each word first. In each text of the fabric these words exchange the columns while a design runs, if the implementation is a legal one of it.
pub record IsExchange (fabric : PlainFabric) (implementation : PlainImplementation) (features : List Feature) (first last : ℕ) (bytes : List ℕ) : Type 0 where
  pub bits : List (List (List Bool))
  pub are : AreBitsOf fabric bits
  pub bit_map : IsBitMapOf fabric features (plain_bits bits)
  pub bytes_are : bytes ≡ flat_map word_bytes (partial_stream fabric (plain_bits bits) first last)
  pub exchanges : (text : List PlainModule) (netlist : PlainNetlist) (fixed : List Pad) → IsFabricText fabric text → IsWellMade netlist → HasNoCycle netlist
      → IsLegal fabric (packed netlist) fixed implementation → ExchangesColumns fabric text netlist implementation first last (plain_bits bits)

-- Nothing is refused: the files spell a fabric in frames, an implementation on it, and a list of features. The fabric has the columns, and the
-- implementation does not use them. The fabric has each feature too, in whatever column, and no output has two inputs.
pub record IsReadyToExchange (files : Map) (names : PartialFiles) : Type 0 where
  pub fabric : PlainFabric
  pub implementation : PlainImplementation
  pub features : List Feature
  pub spelled : SpellsFabric files names.fabric fabric
  pub frames : fabric.mode ≡ modes.Frames
  pub implemented : ReadsImplementation files names.implementation fabric implementation
  pub read : ReadsFeatures files names.fasm features
  pub within : names.last < fabric.columns
  pub unused : AreUnused fabric implementation (lies_within names.first names.last)
  pub right : AreRight (IsRightFeature fabric) features

-- The one output is the bitstream of the columns.
pub record MakesPartial (files : Map) (names : PartialFiles) (outputs : List PlainOutput) : Type 0 where
  pub ready : IsReadyToExchange files names
  pub bytes : List ℕ
  pub made : IsExchange ready.fabric ready.implementation ready.features names.first names.last bytes
  pub outputs_are : outputs ≡ output names.out bytes ∷ []

-- ---- the first refusal

-- how a use is written: a cell as its site, an edge as the wire that it enters
abbrev pub IsUseText : PlainFabric → Use → List ℕ → Type 0
IsUseText fabric (uses.Cell site) text = text ≡ site_text site
IsUseText fabric (uses.Edge wire) text = IsWireText fabric wire text

-- What was read is refused: the fabric ends before the last column; or else the implementation uses one of the columns; or else a feature is wrong, as
-- the command `bits` refuses it.
pub data RefusesPartial (fabric : PlainFabric) (implementation : PlainImplementation) (features : List Feature) (first last : ℕ) : Fault → Type 0 where
  too_far : fabric.columns ≤ last → RefusesPartial fabric implementation features first last (faults.Illegal 14 (decimal last))
  in_use : {found : Use} {item : List ℕ} → last < fabric.columns → IsUse fabric implementation (lies_within first last) found → IsUseText fabric found item
      → RefusesPartial fabric implementation features first last (faults.Illegal 13 item)
  wrong : {rule : ℕ} {item : List ℕ} → last < fabric.columns → AreUnused fabric implementation (lies_within first last) → BreaksFirst fabric features rule item
      → RefusesPartial fabric implementation features first last (faults.Illegal rule item)

-- what is come upon behind the implementation
abbrev pub MeetsContent : (files : Map) (names : PartialFiles) → PlainFabric → PlainImplementation → Event → Type 0
MeetsContent files names fabric implementation event =
    MeetsBehind (ReadsFeatures files names.fasm) (MeetsFeatures files names.fasm)
    (λ features. MeetsLast (RefusesPartial fabric implementation features names.first names.last)) event

-- what is come upon behind a fabric in frames
abbrev pub MeetsRunning : (files : Map) (names : PartialFiles) → PlainFabric → Event → Type 0
MeetsRunning files names fabric event =
    MeetsBehind (ReadsImplementation files names.implementation fabric) (MeetsImplementation files names.implementation fabric) (λ it. MeetsContent files names fabric it) event

-- A fabric is refused as soon as it is read, at line 0 of its file, if its configuration is a chain of flip-flops: a word of a chain moves all bits.
pub record RefusesChain (name : List ℕ) (fabric : PlainFabric) (fault : Fault) : Type 0 where
  pub chain : fabric.mode ≡ modes.Chain
  pub is : fault ≡ fault_at name 0 (problems.Unsupported (codes "partial FlipFlopChain"))

abbrev pub HasFrames : PlainFabric → Unit {0} → Type 0
HasFrames fabric _ = fabric.mode ≡ modes.Frames

-- What the command comes upon: first in the fabric file with all that it names, then in the fabric itself, then in the file of the implementation, then in
-- the FASM file, and then in what these spell.
abbrev pub MeetsPartial : (files : Map) (names : PartialFiles) → Event → Type 0
MeetsPartial files names event =
    MeetsBehind (SpellsFabric files names.fabric) (MeetsFabric files names.fabric)
    (λ fabric. MeetsBehind (HasFrames fabric) (MeetsLast (RefusesChain names.fabric fabric)) (λ _. MeetsRunning files names fabric)) event

-- ---- why the command ends with a fault

-- absent, too long, malformed, unsupported, over a limit, and illegal
abbrev pub partial_refusals : List ℕ
partial_refusals = 2 ∷ 3 ∷ 4 ∷ 5 ∷ 6 ∷ 10 ∷ []

abbrev pub HasPartialCause : (told : Option Map) → (names : PartialFiles) → (reads_rose writes_rose : Type 0) → Fault → Type 0
HasPartialCause told names reads_rose writes_rose fault =
    HasCause told reads_rose writes_rose (λ files. MeetsPartial files names) (λ files. IsReadyToExchange files names) partial_refusals fault
