-- The files that `flow` makes, simulated.
use Rattle.std.specs.Prelude.{◌≡◌, ℕ, Bool, true, false, List, [], ◌∷◌, ◌++◌, map, codes, Option, Some, None}
use Rattle.fab_desk.specs.Files.{Map}
use Rattle.fab_files.specs.Stages.{ReadsFrom}
use Rattle.fab_model.specs.Grid.{PlainFabric}
use Rattle.fab_netlist.specs.Plain.{PlainNetlist, name_of}
use Rattle.fab_netlist.specs.Resets.{netlist_with}
use Rattle.fab_netlist.specs.Meaning.{IsRun}
use Rattle.fab_netlist.specs.Packing.{packed}
use Rattle.fab_implementation.specs.Plain.{PlainImplementation}
use Rattle.fab_texts.specs.Rows.{rows_of}
use Rattle.fab_ternary.specs.declared.Tern.{Tern}
use Rattle.fab_ternary.specs.declared.Tern.TheVariants as terns
use Rattle.fab_stimulus.specs.Spelled.{Says}
use Rattle.fab_stimulus.specs.Traces.{trace_text}
use Rattle.fab_netlist_traces_laws.specs.SimulatedDesigns.{EachKnows, initial_latches}
use Rattle.fab_netlist_traces_laws.specs.OrderedDesigns.{EachRight}
use Rattle.fab_designs.specs.Designs.{read_of}
use Rattle.fab_outputs.specs.Storing.{PlainOutput, output, with_outputs}
use Rattle.fab_flow_laws.specs.fab_use_defs_Design.{IsSourced}
use Rattle.fab_flow_laws.specs.fab_flow_Flowing.{FlowFiles, MakesFlow, used}
use Rattle.fab_flow_laws.specs.StoredLaws.{KeepsFlowFiles}
use Rattle.fab_simulate_command.specs.Simulating.{MakesTrace, SimulationFiles, simulation_files}

abbrev pub known_tern : Bool → Tern
known_tern false = terns.No
known_tern true = terns.Yes

-- what the output ports of a netlist have where its nets have these values
abbrev pub port_values : PlainNetlist → (nets : ℕ → Bool) → List Tern
port_values netlist nets = map (λ net. known_tern (nets net)) netlist.outputs

-- The one output is the trace of a run of the netlist over a stimulus, which a file spells for its input ports in declared order. Flip-flops begin
-- with their initial values, and with 0 where the netlist allows any. No value is open.
pub record TracesNetlist (files : Map) (stimulus trace : List ℕ) (netlist : PlainNetlist) (outputs : List PlainOutput) : Type 0 where
  pub lines : List (List Bool)
  pub given : ReadsFrom files stimulus (λ bytes values. Says (map (name_of netlist) netlist.inputs) (rows_of bytes) values) lines
  pub nows : List (ℕ → Bool)
  pub run : IsRun netlist (initial_latches netlist) lines nows
  pub outputs_are : outputs ≡ output trace (trace_text (map (name_of netlist) netlist.outputs) (map (port_values netlist) nows)) ∷ []

-- Nor is any value open on the way to a trace: in each cycle the routes, cells and pads of an implementation are known at all their points. With an order
-- they are so at its end, and right.
abbrev pub KnowsDesign : PlainFabric → PlainNetlist → PlainImplementation → {files : Map} → {names : SimulationFiles} → (order : Option ℕ) →
    {outputs : List PlainOutput} → MakesTrace files names order outputs → Type 0
KnowsDesign fabric netlist implementation None made = EachKnows (IsSourced fabric (packed netlist) implementation) made.made.traces.simulates.cycles
KnowsDesign fabric netlist implementation (Some seed) made =
    EachRight (IsSourced fabric (packed netlist) implementation) made.made.traces.simulates.simulates.cycles

-- As long as BASE.v, BASE.bit and BASE.state of a flow stand, what `simulate` makes of them is the trace of the netlist as it stands in the BLIF file, with
-- the reset port that was named. That is so without an order, and with one for every seed: whatever is drawn for points at power-up, and in whichever order
-- points change.
abbrev pub FlowFilesSimulate : Type 0
FlowFilesSimulate =
    (files : Map) (names : FlowFiles) (allowed : ℕ) (stored : List PlainOutput) (flow : MakesFlow files names allowed stored) →
    (later : Map) → KeepsFlowFiles names.base (with_outputs stored files) later →
    (stimulus trace : List ℕ) (order : Option ℕ) (outputs : List PlainOutput)
    (made : MakesTrace later
    (simulation_files (names.base ++ codes ".v") (names.base ++ codes ".bit") (names.base ++ codes ".state") stimulus trace) order outputs) →
    TracesNetlist later stimulus trace (netlist_with names.reset (read_of flow.spelled)) outputs
    × KnowsDesign flow.design.fabric (used names flow.design) flow.made.implementation order made
