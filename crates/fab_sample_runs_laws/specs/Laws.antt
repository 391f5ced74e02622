-- What a flow makes of the files of a sample is read by `simulate`.
use Rattle.std.specs.Prelude.{◌≤◌, ℕ, List, length}
use Rattle.fab_base.specs.declared.TheConstants.{MAX_FILE_BYTES}
use Rattle.fab_desk.specs.Files.{Map}
use Rattle.fab_impl.specs.Spelled.{implementation_text}
use Rattle.fab_outputs.specs.Storing.{PlainOutput, with_outputs}
use Rattle.fab_flow_laws.specs.fab_flow_Flowing.{MakesFlow}
use Rattle.fab_flow_laws.specs.fab_simulate_command_Simulating.{IsReadyToSimulate}
use Rattle.fab_sample_laws.specs.Designs.{TellsSample}
use Rattle.fab_sample_runs_laws.specs.Commands.{names, simulated}

-- With the stimulus of the sample nothing is refused.
abbrev pub SamplesSimulate : Type 0
SamplesSimulate =
    (files : Map) (size : ℕ) (draws : ℕ → ℕ) → 2 ≤ size → size ≤ 16 → TellsSample files size draws →
    (allowed : ℕ) (stored : List PlainOutput) → MakesFlow files names allowed stored → IsReadyToSimulate (with_outputs stored files) simulated

-- Nor is the text of the implementation too long.
abbrev pub SampleImplementationsAreShort : Type 0
SampleImplementationsAreShort =
    (files : Map) (size : ℕ) (draws : ℕ → ℕ) → 2 ≤ size → size ≤ 16 → TellsSample files size draws →
    (allowed : ℕ) (stored : List PlainOutput) (flow : MakesFlow files names allowed stored) →
    length (implementation_text flow.design.fabric flow.made.implementation) ≤ MAX_FILE_BYTES
