-- A sample on its way through the commands.
use Rattle.std.specs.Prelude.{◌≡◌, ◌⊎◌, ◌≤◌, List, None}
use Rattle.fab_base.specs.declared.fault.Fault.{Fault}
use Rattle.fab_base.specs.declared.fault.Fault.TheVariants as faults
use Rattle.fab_desk.specs.Files.{Map}
use Rattle.fab_desk.specs.Memory.{map_of}
use Rattle.fab_designs.specs.Designs.{PlainDesign, SpellsDesign, read_of}
use Rattle.fab_outputs.specs.Storing.{PlainOutput, with_outputs}
use Rattle.fab_sample_runs_laws.specs.fab_flow_Flowing.{MakesFlow}
use Rattle.fab_sample_runs_laws.specs.fab_simulate_command_Simulating.{MakesTrace}
use Rattle.fab_sample_runs_laws.specs.fab_flow_laws_SimulatedLaws.{TracesNetlist}
use Rattle.fab_sample_runs_laws.specs.Commands.{names, rounds, simulated}
use Rattle.fab_sampling.specs.Sampling.{IsUnmapped, sample_map}
use Rattle.fab_sampling.specs.declared.run.Run.{Run}

-- the files of its sample
abbrev pub files_of : Run → Map
files_of run = sample_map run.size run.seed

-- there is such a sample
pub record IsSized (run : Run) : Type 0 where
  pub least : 2 ≤ run.size
  pub most : run.size ≤ 16

-- nothing is stored yet, and the design is the one that the files spell
pub record IsNew (run : Run) : Type 0 where
  pub sized : IsSized run
  pub files : map_of run.shelf ≡ files_of run
  pub spelled : SpellsDesign (map_of run.shelf) names.design run.design

-- `flow` made files of the sample, and they are stored
pub record HasFlowed (run : Run) : Type 0 where
  pub sized : IsSized run
  pub stored : List PlainOutput
  pub flow : MakesFlow (files_of run) names rounds stored
  pub design : flow.design ≡ run.design
  pub files : map_of run.shelf ≡ with_outputs stored (files_of run)

-- What `simulate` makes of these files is the trace of the netlist.
pub record HasTraced (run : Run) (flowed : HasFlowed run) : Type 0 where
  pub trace : List PlainOutput
  pub made : MakesTrace (with_outputs flowed.stored (files_of run)) simulated None trace
  pub traces : TracesNetlist (with_outputs flowed.stored (files_of run)) simulated.stimulus simulated.trace (read_of flowed.flow.spelled) trace

-- memory was refused, or the design of the sample is not mapped
abbrev pub EndsFlow : Run → Fault → Type 0
EndsFlow run fault = (fault ≡ faults.Memory) ⊎ IsUnmapped (files_of run) fault
