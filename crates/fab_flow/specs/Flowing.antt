-- What the command `flow` makes of a design, and why it ends otherwise.
use Rattle.std.specs.Prelude.{◌≡◌, ◌≤◌, ℕ, List, [], ◌∷◌, ◌++◌, codes, length, Option, Err}
use Rattle.fab_base.specs.declared.TheConstants.{MAX_FILE_BYTES}
use Rattle.fab_base.specs.declared.fault.Fault.{Fault}
use Rattle.fab_base.specs.declared.fault.Fault.TheVariants as faults
use Rattle.fab_desk.specs.Files.{Map}
use Rattle.fab_syntax.specs.Spelling.{text_bytes}
use Rattle.fab_model.specs.Grid.{PlainFabric}
use Rattle.fab_netlist.specs.Plain.{PlainNetlist}
use Rattle.fab_netlist.specs.Packing.{packed}
use Rattle.fab_netlist.specs.Resets.{netlist_with}
use Rattle.fab_implementation.specs.Plain.{Pad, PlainImplementation}
use Rattle.fab_legal.specs.Legal.{IsLegal}
use Rattle.fab_ways_laws.specs.Mapping.{IsMapping}
use Rattle.fab_files.specs.Files.{Event}
use Rattle.fab_files.specs.Stages.{MeetsBehind, MeetsLast}
use Rattle.fab_frames.specs.Stream.{stream}
use Rattle.fab_assemble.specs.fab_drives_laws_Drives.{ShowsDrives}
use Rattle.fab_assemble.specs.fab_text_loads_laws_Loads.{LoadsConfigurations}
use Rattle.fab_assemble.specs.fab_fabric_text_defs_Texts.{IsFabricText}
use Rattle.fab_assemble.specs.fab_use_defs_Headline.{RunsDesign}
use Rattle.fab_assemble.specs.fab_use_defs_Registers.{design_state}
use Rattle.fab_assemble.specs.fab_settling_laws_Settling.{SettlesDesign}
use Rattle.fab_impl.specs.Spelled.{implementation_text}
use Rattle.fab_map.specs.Causes.{HasMapCause}
use Rattle.fab_designs.specs.Designs.{DesignFiles, PlainDesign, design_files, SpellsDesign, read_of, MeetsDesign}
use Rattle.fab_outputs.specs.Storing.{PlainOutput, output}
use Rattle.fab_outputs.specs.Ending.{HasSearchCause}
use Rattle.fab_flow.specs.Generating.{generated_text, text_length, most_text_bytes, IsTooLong}
use Rattle.fab_flow.specs.Resetting.{HasReset, LacksReset}
use Rattle.fab_flow.specs.Assembling.{Fits, IsAssembly, packing_for}

-- the names of the files of a design, the reset port where one is named, and what the names of the outputs begin with
pub record FlowFiles : Type 0 where
  pub design : DesignFiles
  pub reset : Option (List ℕ)
  pub base : List ℕ

abbrev pub flow_files : (fabric blif : List ℕ) → (pcf reset : Option (List ℕ)) → (base : List ℕ) → FlowFiles
flow_files fabric blif pcf reset base = record { design = design_files fabric blif pcf; reset = reset; base = base }

-- the netlist that is to run: that of the design, with the reset port that is named
abbrev pub used : (names : FlowFiles) → PlainDesign → PlainNetlist
used names design = netlist_with names.reset design.netlist

-- ---- what is done

-- BASE.v with the text of a fabric, BASE.impl with the text of an implementation, and behind them what is assembled of it
abbrev pub flow_outputs : (base text implementation : List ℕ) → (assembled : List PlainOutput) → List PlainOutput
flow_outputs base text implementation assembled = output (base ++ codes ".v") text ∷ output (base ++ codes ".impl") implementation ∷ assembled

-- The outputs are the text of a chip, and what makes a netlist run on it. It runs as the netlist that was read; `netlist` is the one that is packed, in which
-- wide covers are split. `fixed` says on which sites some ports have to stand, and `allowed` how many rounds the router may take.
pub record IsFlow (fabric : PlainFabric) (read netlist : PlainNetlist) (fixed : List Pad) (allowed : ℕ) (base : List ℕ) (outputs : List PlainOutput) : Type 0 where
  -- One implementation stands behind all outputs. It is a mapping of the packed netlist: placed so that no exchange lowers the cost, and routed,
  pub implementation : PlainImplementation
  pub mapping : IsMapping fabric (packed netlist) fixed allowed implementation
  -- and it is legal: it breaks none of the nine rules, and the ports stand where they have to.
  pub legal : IsLegal fabric (packed netlist) fixed implementation
  -- What BASE.v spells is a text of the fabric. In it each wire has the value of what drives it under the configuration bits,
  pub text : IsFabricText fabric (generated_text fabric)
  pub drives : ShowsDrives fabric (generated_text fabric)
  -- the words of the bitstream of any bits configure it so, whatever it held,
  pub loads : LoadsConfigurations fabric (generated_text fabric)
  -- and it is no longer than a file may be that is read.
  pub short : text_length fabric ≤ most_text_bytes
  pub readable : length (text_bytes (generated_text fabric)) ≤ MAX_FILE_BYTES
  -- BASE.fasm has the features of this implementation, BASE.bit the words of its bits, and BASE.state its pads and what its flip-flops begin with.
  pub assembled : List PlainOutput
  pub assembly : IsAssembly fabric read netlist implementation base assembled
  -- The headline: the text in BASE.v, loaded with the words in BASE.bit, runs the netlist that was read at the pads in BASE.state, from the values there.
  pub runs : RunsDesign fabric (generated_text fabric) read netlist implementation (stream fabric assembly.bits) (design_state (packed netlist) implementation)
  -- It does so step by step, whatever order its points are activated in.
  pub settles : SettlesDesign fabric (generated_text fabric) read netlist implementation (stream fabric assembly.bits)
  -- These are the five files, in the order in which they are stored.
  pub outputs_are : outputs ≡ flow_outputs base (text_bytes (generated_text fabric)) (implementation_text fabric implementation) assembled

-- The files spell a design that its fabric has sites for, and the outputs are those of a flow from it, with the reset port that is named. What runs is the
-- netlist as it stands in the BLIF file.
pub record MakesFlow (files : Map) (names : FlowFiles) (allowed : ℕ) (outputs : List PlainOutput) : Type 0 where
  pub design : PlainDesign
  pub spelled : SpellsDesign files names.design design
  pub resets : HasReset names.reset design.netlist
  pub fits : Fits design.fabric (used names design)
  pub made : IsFlow design.fabric (netlist_with names.reset (read_of spelled)) (used names design) design.fixed allowed names.base outputs

-- ---- the first refusal

-- A design that was read is refused: the text of its fabric is too long, which is told at line 0 of the fabric file; or else the reset port that is named
-- is no data input of it; or else the fabric is short of sites for it.
pub data RefusesFlow (name : List ℕ) (reset : Option (List ℕ)) (design : PlainDesign) : Fault → Type 0 where
  long : {fault : Fault} → IsTooLong name design.fabric fault → RefusesFlow name reset design fault
  no_input : {fault : Fault} → text_length design.fabric ≤ most_text_bytes → LacksReset reset design.netlist fault → RefusesFlow name reset design fault
  short : {fault : Fault} → text_length design.fabric ≤ most_text_bytes → HasReset reset design.netlist
      → packing_for design.fabric (netlist_with reset design.netlist) ≡ Err fault → RefusesFlow name reset design fault

-- What the command comes upon: first in the files of the design, and then in what these spell.
abbrev pub MeetsFlow : (files : Map) (names : FlowFiles) → Event → Type 0
MeetsFlow files names event = MeetsBehind (SpellsDesign files names.design) (MeetsDesign files names.design) (λ design. MeetsLast (RefusesFlow names.design.fabric names.reset design)) event

-- nothing is refused
pub record IsReadyToFlow (files : Map) (names : FlowFiles) : Type 0 where
  pub design : PlainDesign
  pub spelled : SpellsDesign files names.design design
  pub short : text_length design.fabric ≤ most_text_bytes
  pub resets : HasReset names.reset design.netlist
  pub fits : Fits design.fabric (used names design)

-- ---- why the command ends with a fault

-- Why nothing is made of a design that was read: memory was refused, the design is, or it is not, and there is a cause why it is not mapped.
pub data EndsFlow (name : List ℕ) (reset : Option (List ℕ)) (design : PlainDesign) (allowed : ℕ) : Fault → Type 0 where
  no_memory : EndsFlow name reset design allowed faults.Memory
  not_taken : {fault : Fault} → RefusesFlow name reset design fault → EndsFlow name reset design allowed fault
  not_mapped : {fault : Fault} → text_length design.fabric ≤ most_text_bytes → HasReset reset design.netlist → Fits design.fabric (netlist_with reset design.netlist)
      → HasMapCause design.fabric (packed (netlist_with reset design.netlist)) design.fixed allowed fault → EndsFlow name reset design allowed fault

-- nothing is refused, and for this cause the design that the files spell is not mapped
pub record FailsToFlow (files : Map) (names : FlowFiles) (allowed : ℕ) (fault : Fault) : Type 0 where
  pub design : PlainDesign
  pub spelled : SpellsDesign files names.design design
  pub short : text_length design.fabric ≤ most_text_bytes
  pub resets : HasReset names.reset design.netlist
  pub fits : Fits design.fabric (used names design)
  pub cause : HasMapCause design.fabric (packed (used names design)) design.fixed allowed fault

-- absent, too long, malformed, unsupported, over a limit, short of sites, and illegal
abbrev pub flow_refusals : List ℕ
flow_refusals = 2 ∷ 3 ∷ 4 ∷ 5 ∷ 6 ∷ 7 ∷ 10 ∷ []

abbrev pub HasFlowCause : (told : Option Map) → (names : FlowFiles) → (allowed : ℕ) → (reads_rose writes_rose : Type 0) → Fault → Type 0
HasFlowCause told names allowed reads_rose writes_rose fault =
    HasSearchCause told reads_rose writes_rose (λ files. MeetsFlow files names) (λ files. IsReadyToFlow files names) (λ files. FailsToFlow files names allowed) flow_refusals fault
