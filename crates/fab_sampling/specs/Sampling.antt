-- A sample that is run through the commands: what its summary tells.
use Rattle.std.specs.Prelude.{◌≡◌, ◌≢◌, ℕ, List, map, None}
use Rattle.fab_base.specs.declared.fault.Fault.{Fault}
use Rattle.fab_base.specs.declared.fault.Fault.TheVariants as faults
use Rattle.fab_desk.specs.Files.{Map}
use Rattle.fab_netlist.specs.Packing.{packed}
use Rattle.fab_ways_laws.specs.Placing.{cost}
use Rattle.fab_designs.specs.Designs.{PlainDesign, SpellsDesign, read_of}
use Rattle.fab_outputs.specs.Storing.{PlainOutput, output, with_outputs}
use Rattle.fab_sample_runs_laws.specs.fab_flow_Flowing.{FailsToFlow, MakesFlow}
use Rattle.fab_sample_runs_laws.specs.fab_simulate_command_Simulating.{MakesTrace}
use Rattle.fab_sample_runs_laws.specs.fab_flow_laws_SimulatedLaws.{TracesNetlist}
use Rattle.fab_sample.specs.declared.file.File.{File}
use Rattle.fab_draws.specs.Draws.{draws_of}
use Rattle.fab_sample.specs.Files.{sample_files}
use Rattle.fab_sample_runs_laws.specs.Commands.{names, rounds, simulated}
use Rattle.fab_sampling.specs.Summary.{edge_count, summary_text}
use Rattle.fab_sampling.specs.declared.outcome.Outcome.{Outcome}
use Rattle.fab_sampling.specs.declared.outcome.Outcome.TheVariants.{Mapped, Unmapped}

-- ---- the files

abbrev pub no_files : Map
no_files = λ name. None

abbrev pub stored_file : File → PlainOutput
stored_file file = output file.name file.text

-- these files alone
abbrev pub only : List File → Map
only files = with_outputs (map stored_file files) no_files

-- the six files of a sample
unfoldable pub sample_map : (size seed : ℕ) → Map
sample_map size seed = only (sample_files size (draws_of seed))

-- ---- what a summary tells

-- `flow` makes files of the sample. What `simulate` makes of them and of the stimulus is the trace of the netlist. The cost and the edges are those of the
-- implementation that stands behind the files.
pub record IsMapped (files : Map) (price count : ℕ) : Type 0 where
  pub stored : List PlainOutput
  pub flow : MakesFlow files names rounds stored
  pub trace : List PlainOutput
  pub made : MakesTrace (with_outputs stored files) simulated None trace
  pub traces : TracesNetlist (with_outputs stored files) simulated.stimulus simulated.trace (read_of flow.spelled) trace
  pub cost : price ≡ cost (packed flow.design.netlist) flow.made.implementation
  pub edges : count ≡ edge_count flow.made.implementation

-- the design fits, and for this cause, which is none of memory, it is not mapped: a net is cut off, or wires stay shared
pub record IsUnmapped (files : Map) (fault : Fault) : Type 0 where
  pub fails : FailsToFlow files names rounds fault
  pub searched : fault ≢ faults.Memory

abbrev pub ComesTo : (files : Map) → Outcome → Type 0
ComesTo files (Mapped cost edges) = IsMapped files cost edges
ComesTo files (Unmapped fault) = IsUnmapped files fault

-- The files of the sample spell a design, which is the only one that they spell, and the text tells of it and of what comes of it.
pub record IsSummary (size seed : ℕ) (bytes : List ℕ) : Type 0 where
  pub design : PlainDesign
  pub spelled : SpellsDesign (sample_map size seed) names.design design
  pub outcome : Outcome
  pub comes : ComesTo (sample_map size seed) outcome
  pub bytes_are : bytes ≡ summary_text size seed design outcome
