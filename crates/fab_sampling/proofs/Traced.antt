-- What is simulated of the files that `flow` stored of a sample.
use Rattle.std.proofs.Common.{◌≡◌, ℕ, None, Some, refl, sym, subst}
use Rattle.fab_base.specs.declared.fault.Fault.{Fault}
use Rattle.fab_base.specs.declared.fault.Fault.TheVariants as faults
use Rattle.fab_desk.specs.Files.{Map}
use Rattle.fab_desk.specs.Memory.{map_of}
use Rattle.fab_netlist.specs.Packing.{packed}
use Rattle.fab_ways_laws.specs.Placing.{cost}
use Rattle.fab_outputs.specs.Storing.{IsDone, with_outputs}
use Rattle.fab_sample_runs_laws.specs.fab_simulate_command_Simulating.{HasSimulateCause, IsReadyToSimulate, MakesTrace, MeetsSimulation, simulate_refusals}
use Rattle.fab_sample_runs_laws.proofs.fab_simulate_command_SimulatedOnce.{not_both}
use Rattle.fab_sample_runs_laws.specs.fab_flow_laws_SimulatedLaws.{FlowFilesSimulate}
use Rattle.fab_draws.specs.Draws.{draws_of}
use Rattle.fab_sample_runs_laws.specs.Commands.{rounds, simulated, names}
use Rattle.fab_sample_runs_laws.specs.Laws.{SamplesSimulate}
use Rattle.fab_sampling.specs.declared.run.Run.{Run}
use Rattle.fab_sampling.specs.inner.Running.{files_of, HasFlowed, HasTraced}
use Rattle.fab_sampling.specs.Sampling.{IsMapped}
use Rattle.fab_sampling.specs.Summary.{edge_count}
use Rattle.fab_sampling.proofs.Ending.{memory_alone}
use Rattle.fab_sampling.proofs.Flowed.{still_flowed}
use Rattle.fab_sampling.proofs.Told.{sample_told}

module _ (run : Run) (flowed : HasFlowed run) where
  -- the trace is that of the netlist
  pub traced : FlowFilesSimulate → (after : Map) → IsDone (λ files. MakesTrace files simulated None) (Some (map_of run.shelf)) (Some after)
      → HasTraced run flowed
  traced law after done =
      let there = with_outputs flowed.stored (files_of run) in
      let made : MakesTrace there simulated None done.outputs =
      subst (λ (files : Map). MakesTrace files simulated None done.outputs) flowed.files (done.made (map_of run.shelf) refl) in
      record {
        trace = done.outputs;
        made = made;
        traces =
            (law (files_of run) names rounds flowed.stored flowed.flow there (record { text = refl; words = refl; state = refl })
            simulated.stimulus simulated.trace None done.outputs made).0;
      }

  -- nothing is refused
  pub simulate_ends : SamplesSimulate → (reads writes : Type 0) → (reads → ⊥) → (writes → ⊥) → (fault : Fault)
      → HasSimulateCause (Some (map_of run.shelf)) simulated reads writes fault → fault ≡ faults.Memory
  simulate_ends law reads writes calm still fault cause =
      let ready : IsReadyToSimulate (map_of run.shelf) simulated =
      subst (λ (files : Map). IsReadyToSimulate files simulated) (sym flowed.files)
      (law (files_of run) run.size (draws_of run.seed) flowed.sized.least flowed.sized.most (sample_told run.size run.seed) rounds flowed.stored flowed.flow) in
      memory_alone (map_of run.shelf) reads writes calm still (λ files. MeetsSimulation files simulated) (λ files. IsReadyToSimulate files simulated) simulate_refusals
      (λ f met. not_both (map_of run.shelf) simulated f ready met) fault cause

  -- What is told of it, where the run went on by reading files alone.
  module _ (after : Run) (same : after ≡ record run { shelf = after.shelf }) (files : map_of after.shelf ≡ map_of run.shelf) where
    pub mapped_of : (price count : ℕ) → price ≡ cost (packed flowed.flow.design.netlist) flowed.flow.made.implementation → count ≡ edge_count flowed.flow.made.implementation
        → ((again : HasFlowed after) → HasTraced after again) → IsMapped (files_of run) price count
    unfolding still_flowed
    mapped_of price count price_is count_is traces =
        let there = subst (λ (r : Run). (again : HasFlowed r) → HasTraced r again) same traces (still_flowed run after.shelf files flowed) in
        record { stored = flowed.stored; flow = flowed.flow; trace = there.trace; made = there.made; traces = there.traces; cost = price_is; edges = count_is }
