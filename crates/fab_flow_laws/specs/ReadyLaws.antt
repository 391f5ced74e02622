-- The files that `flow` makes are read by `simulate`.
use Rattle.std.specs.Prelude.{◌≡◌, ◌≤◌, ℕ, Bool, true, List, ◌++◌, codes, length}
use Rattle.std.specs.Str.{is_utf8}
use Rattle.fab_base.specs.declared.TheConstants.{MAX_FILE_BYTES}
use Rattle.fab_desk.specs.Files.{Map}
use Rattle.fab_equations.specs.Instances.{whole_count, most_points}
use Rattle.fab_state.specs.Spelled.{state_text}
use Rattle.fab_outputs.specs.Storing.{PlainOutput, with_outputs}
use Rattle.fab_flow_laws.specs.fab_flow_Generating.{generated_text}
use Rattle.fab_flow_laws.specs.fab_flow_Flowing.{FlowFiles, MakesFlow}
use Rattle.fab_simulate_command.specs.Simulating.{IsReadyToSimulate, ReadsStimulus, simulation_files}
use Rattle.fab_flow_laws.specs.StoredLaws.{KeepsFlowFiles, flow_state}

-- As long as BASE.v, BASE.bit and BASE.state of a flow stand, nothing of them is refused, if the text does not have too many points and the text of the
-- state is not too long. So with a stimulus for the ports of the netlist nothing is refused at all.
abbrev pub FlowFilesAreReady : Type 0
FlowFilesAreReady =
    (files : Map) (names : FlowFiles) (allowed : ℕ) (stored : List PlainOutput) (flow : MakesFlow files names allowed stored) →
    is_utf8 names.base ≡ true → whole_count (generated_text flow.design.fabric) ≤ most_points → length (state_text (flow_state flow)) ≤ MAX_FILE_BYTES →
    (later : Map) → KeepsFlowFiles names.base (with_outputs stored files) later →
    (stimulus trace : List ℕ) (lines : List (List Bool)) → ReadsStimulus later stimulus (flow_state flow) lines →
    IsReadyToSimulate later
    (simulation_files (names.base ++ codes ".v") (names.base ++ codes ".bit") (names.base ++ codes ".state") stimulus trace)
