-- What the command `assemble` does to the files, and why it ends otherwise.
use Rattle.std.specs.Prelude.{◌≡◌, ℕ, List, [], ◌∷◌, ◌++◌, codes, length, Option, Result, Ok, Err}
use Rattle.std.specs.List.{flat_map}
use Rattle.fab_base.specs.declared.fault.Fault.{Fault}
use Rattle.fab_base.specs.declared.fault.Fault.TheVariants as faults
use Rattle.fab_desk.specs.Files.{Map}
use Rattle.fab_kinds.specs.declared.kind.Kind.TheVariants as kinds
use Rattle.fab_syntax.specs.Plain.{PlainModule}
use Rattle.fab_model.specs.Grid.{PlainFabric}
use Rattle.fab_model.specs.Drive.{PlainBits}
use Rattle.fab_netlist.specs.Plain.{PlainNetlist}
use Rattle.fab_netlist.specs.Packed.{PlainPacked}
use Rattle.fab_netlist.specs.Packing.{packed, packing}
use Rattle.fab_netlist.specs.Resets.{netlist_with}
use Rattle.fab_implementation.specs.Plain.{Pad, PlainImplementation}
use Rattle.fab_legal.specs.Legal.{IsLegal}
use Rattle.fab_legal.specs.Broken.{IsFirstBroken}
use Rattle.fab_fabric.specs.Sites.{sites_of_kind}
use Rattle.fab_files.specs.Files.{Event}
use Rattle.fab_files.specs.Stages.{MeetsBehind, MeetsLast}
use Rattle.fab_fasm.specs.declared.feature.Feature.{Feature}
use Rattle.fab_fasm.specs.Printing.{printed}
use Rattle.fab_frames.specs.Bytes.{word_bytes}
use Rattle.fab_frames.specs.Stream.{stream}
use Rattle.fab_state.specs.Plain.{PlainState}
use Rattle.fab_state.specs.Spelled.{state_text}
use Rattle.fab_assemble.specs.fab_fabric_text_defs_Texts.{IsFabricText}
use Rattle.fab_assemble.specs.fab_use_defs_Configuring.{Configures}
use Rattle.fab_assemble.specs.fab_use_defs_Headline.{RunsDesign}
use Rattle.fab_assemble.specs.fab_use_defs_Registers.{design_state}
use Rattle.fab_assemble.specs.fab_settling_laws_Settling.{SettlesDesign}
use Rattle.fab_assemble.specs.fab_features_Design.{design_features}
use Rattle.fab_assemble.specs.fab_features_Features.{IsBitMapOf}
use Rattle.fab_designs.specs.Designs.{DesignFiles, PlainDesign, design_files, SpellsDesign, read_of, MeetsDesign}
use Rattle.fab_designs.specs.Implementations.{ReadsImplementation, MeetsImplementation}
use Rattle.fab_outputs.specs.Storing.{PlainOutput, output}
use Rattle.fab_outputs.specs.Ending.{HasCause}
use Rattle.fab_flow.specs.Resetting.{HasReset, LacksReset}

-- the names of the files of a design and of its implementation, and what the names of the outputs begin with
pub record AssemblyFiles : Type 0 where
  pub design : DesignFiles
  pub implementation : List ℕ
  pub base : List ℕ

abbrev pub assembly_files : (fabric blif : List ℕ) → (pcf : Option (List ℕ)) → (implementation base : List ℕ) → AssemblyFiles
assembly_files fabric blif pcf implementation base = record { design = design_files fabric blif pcf; implementation = implementation; base = base }

-- ---- what is done

-- what packing answers for a netlist, with the LUT4c and the IO pads of a fabric
abbrev pub packing_for : PlainFabric → PlainNetlist → Result PlainPacked Fault
packing_for fabric netlist = packing netlist (length (sites_of_kind fabric kinds.Lut4c)) (length (sites_of_kind fabric kinds.Io))

-- the fabric has a LUT4c for each cell of the packed netlist, and an IO pad for each data port
abbrev pub Fits : PlainFabric → PlainNetlist → Type 0
Fits fabric netlist = packing_for fabric netlist ≡ Ok (packed netlist)

-- BASE.fasm with the printed features, BASE.bit with the words, the most significant byte of each first, and BASE.state with the printed state
abbrev pub assembly_outputs : (base : List ℕ) → List Feature → (words : List ℕ) → PlainState → List PlainOutput
assembly_outputs base features words state =
    output (base ++ codes ".fasm") (printed features)
    ∷ output (base ++ codes ".bit") (flat_map word_bytes words)
    ∷ output (base ++ codes ".state") (state_text state) ∷ []

-- The outputs are the features of an implementation of a netlist, the bitstream of configuration bits that are those of the implementation and those
-- that the features set, and its state. In each text of the fabric the words run the netlist that was read, from its initial values where flip-flops hold
-- what the state says; and they do so whatever order the text settles in. `netlist` is the one that is packed, in which wide covers are split.
pub record IsAssembly (fabric : PlainFabric) (read netlist : PlainNetlist) (implementation : PlainImplementation) (base : List ℕ) (outputs : List PlainOutput) : Type 0 where
  pub bits : PlainBits
  pub configures : Configures fabric (packed netlist) implementation bits
  pub bit_map : IsBitMapOf fabric (design_features fabric (packed netlist) implementation) bits
  pub outputs_are : outputs ≡ assembly_outputs base (design_features fabric (packed netlist) implementation) (stream fabric bits) (design_state (packed netlist) implementation)
  pub runs : (text : List PlainModule) → IsFabricText fabric text → RunsDesign fabric text read netlist implementation (stream fabric bits) (design_state (packed netlist) implementation)
  pub settles : (text : List PlainModule) → IsFabricText fabric text → SettlesDesign fabric text read netlist implementation (stream fabric bits)

-- Nothing is refused: the files spell a design and an implementation of it, which is legal under the design's constraints. The netlist has the reset
-- port that the implementation names.
pub record IsReadyToAssemble (files : Map) (names : AssemblyFiles) : Type 0 where
  pub design : PlainDesign
  pub implementation : PlainImplementation
  pub spelled : SpellsDesign files names.design design
  pub implemented : ReadsImplementation files names.implementation design.fabric implementation
  pub resets : HasReset implementation.reset design.netlist
  pub fits : Fits design.fabric (netlist_with implementation.reset design.netlist)
  pub legal : IsLegal design.fabric (packed (netlist_with implementation.reset design.netlist)) design.fixed implementation

-- The outputs are made of what these files spell. What runs is the netlist as it stands in the BLIF file.
pub record MakesAssembly (files : Map) (names : AssemblyFiles) (outputs : List PlainOutput) : Type 0 where
  pub ready : IsReadyToAssemble files names
  pub made : IsAssembly ready.design.fabric (netlist_with ready.implementation.reset (read_of ready.spelled))
      (netlist_with ready.implementation.reset ready.design.netlist) ready.implementation names.base outputs

-- ---- the first refusal

-- An implementation of a netlist is refused: the fabric is short of sites for the netlist; or else it breaks a rule. Then the first broken rule is told,
-- and what breaks it first.
pub data RefusesImplementation (fabric : PlainFabric) (netlist : PlainNetlist) (fixed : List Pad) (implementation : PlainImplementation) : Fault → Type 0 where
  short : {fault : Fault} → packing_for fabric netlist ≡ Err fault → RefusesImplementation fabric netlist fixed implementation fault
  illegal : {rule : ℕ} {item : List ℕ} → Fits fabric netlist → IsFirstBroken fabric (packed netlist) fixed implementation rule item
      → RefusesImplementation fabric netlist fixed implementation (faults.Illegal rule item)

-- An implementation that was read is refused: the reset port that it names is no data input of the design; or else it is refused for the netlist with
-- this reset port.
pub data RefusesAssembly (design : PlainDesign) (implementation : PlainImplementation) : Fault → Type 0 where
  no_input : {fault : Fault} → LacksReset implementation.reset design.netlist fault → RefusesAssembly design implementation fault
  unfit : {fault : Fault} → HasReset implementation.reset design.netlist
      → RefusesImplementation design.fabric (netlist_with implementation.reset design.netlist) design.fixed implementation fault → RefusesAssembly design implementation fault

-- what is come upon behind the files of a design
abbrev pub MeetsBehindDesign : (files : Map) → (implementation : List ℕ) → PlainDesign → Event → Type 0
MeetsBehindDesign files implementation design event =
    MeetsBehind (ReadsImplementation files implementation design.fabric) (MeetsImplementation files implementation design.fabric) (λ it. MeetsLast (RefusesAssembly design it)) event

-- What the command comes upon: first in the files of the design, then in that of the implementation, and then in what these spell.
abbrev pub MeetsAssembly : (files : Map) (names : AssemblyFiles) → Event → Type 0
MeetsAssembly files names event = MeetsBehind (SpellsDesign files names.design) (MeetsDesign files names.design) (MeetsBehindDesign files names.implementation) event

-- ---- why the command ends with a fault

-- absent, too long, malformed, unsupported, over a limit, short of sites, and illegal
abbrev pub assemble_refusals : List ℕ
assemble_refusals = 2 ∷ 3 ∷ 4 ∷ 5 ∷ 6 ∷ 7 ∷ 10 ∷ []

abbrev pub HasAssembleCause : (told : Option Map) → (names : AssemblyFiles) → (reads_rose writes_rose : Type 0) → Fault → Type 0
HasAssembleCause told names reads_rose writes_rose fault =
    HasCause told reads_rose writes_rose (λ files. MeetsAssembly files names) (λ files. IsReadyToAssemble files names) assemble_refusals fault
