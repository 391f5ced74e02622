-- The files that `flow` stored, and what of them still stands.
use Rattle.std.specs.Prelude.{◌≡◌, ℕ, List, ◌++◌, codes, Some}
use Rattle.std.specs.List.{flat_map}
use Rattle.fab_desk.specs.Files.{Map}
use Rattle.fab_syntax.specs.Spelling.{text_bytes}
use Rattle.fab_netlist.specs.Packing.{packed}
use Rattle.fab_frames.specs.Bytes.{word_bytes}
use Rattle.fab_frames.specs.Stream.{stream}
use Rattle.fab_state.specs.Plain.{PlainState}
use Rattle.fab_state.specs.Spelled.{state_text}
use Rattle.fab_outputs.specs.Storing.{PlainOutput, with_outputs}
use Rattle.fab_flow.specs.fab_use_defs_Registers.{design_state}
use Rattle.fab_flow.specs.Generating.{generated_text}
use Rattle.fab_flow.specs.Flowing.{FlowFiles, MakesFlow, used}

-- the state that stands behind the files
abbrev pub flow_state : {files : Map} {names : FlowFiles} {allowed : ℕ} {stored : List PlainOutput} → MakesFlow files names allowed stored → PlainState
flow_state {files} {names} flow = design_state (packed (used names flow.design)) flow.made.implementation

-- BASE.v, BASE.bit and BASE.state are what a flow stored. Any other file may have changed since, as where a stimulus is written afterwards.
pub record KeepsFlowFiles (base : List ℕ) (stored later : Map) : Type 0 where
  pub text : later (base ++ codes ".v") ≡ stored (base ++ codes ".v")
  pub words : later (base ++ codes ".bit") ≡ stored (base ++ codes ".bit")
  pub state : later (base ++ codes ".state") ≡ stored (base ++ codes ".state")

-- BASE.v holds the text of the fabric, BASE.bit the words of the bits and BASE.state the text of the state.
pub record HoldsFlow {files : Map} {names : FlowFiles} {allowed : ℕ} {stored : List PlainOutput} (flow : MakesFlow files names allowed stored)
    (later : Map) : Type 0 where
  pub text : later (names.base ++ codes ".v") ≡ Some (text_bytes (generated_text flow.design.fabric))
  pub words : later (names.base ++ codes ".bit") ≡ Some (flat_map word_bytes (stream flow.design.fabric flow.made.assembly.bits))
  pub state : later (names.base ++ codes ".state") ≡ Some (state_text (flow_state flow))

abbrev pub FlowFilesStand : Type 0
FlowFilesStand =
    (files : Map) (names : FlowFiles) (allowed : ℕ) (stored : List PlainOutput) (flow : MakesFlow files names allowed stored) →
    (later : Map) → KeepsFlowFiles names.base (with_outputs stored files) later → HoldsFlow flow later
