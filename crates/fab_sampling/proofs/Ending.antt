-- Why a command of a sample ends, where nothing is refused. No read and no write fails on the way.
use Rattle.std.proofs.Common.{◌≡◌, ◌≢◌, ◌⊎◌, ℕ, List, Some, Result, Ok, Err, IfOk, refl, sym, subst, inl, inr}
use Rattle.fab_base.specs.declared.fault.Fault.{Fault}
use Rattle.fab_base.specs.declared.fault.Fault.TheVariants as faults
use Rattle.fab_base.specs.declared.memory.Memory.{Memory}
use Rattle.fab_desk.specs.Files.{Map}
use Rattle.fab_desk.specs.Memory.{map_of}
use Rattle.fab_files.specs.Files.{Event, refuses}
use Rattle.fab_outputs.specs.Ending.{HasCause}
use Rattle.fab_sample_runs_laws.specs.fab_flow_Flowing.{HasFlowCause, IsReadyToFlow, MeetsFlow}
use Rattle.fab_sample_runs_laws.proofs.fab_flow_FlowedOnce.{flow_not_both}
use Rattle.fab_draws.specs.Draws.{draws_of}
use Rattle.fab_sample_runs_laws.specs.fab_sample_laws_Ready.{SamplesAreReady}
use Rattle.fab_sample_runs_laws.specs.Commands.{names, rounds}
use Rattle.fab_sampling.specs.declared.outcome.Outcome.{Outcome}
use Rattle.fab_sampling.specs.declared.outcome.Outcome.TheVariants.{Unmapped}
use Rattle.fab_sampling.specs.declared.run.Run.{Run}
use Rattle.fab_sampling.specs.inner.Running.{files_of, EndsFlow, IsNew}
use Rattle.fab_sampling.specs.Sampling.{ComesTo, IsUnmapped}
use Rattle.fab_sampling.proofs.Told.{sample_told}

module _ (files : Map) (reads writes : Type 0) (calm : reads → ⊥) (still : writes → ⊥) where
  -- a command that does not search lacks memory
  pub memory_alone : (meets : Map → Event → Type 0) (ready : Map → Type 0) (numbers : List ℕ) → ((fault : Fault) → meets files (refuses fault) → ⊥) → (fault : Fault)
      → HasCause (Some files) reads writes meets ready numbers fault → fault ≡ faults.Memory
  memory_alone meets ready numbers none faults.Memory cause = refl
  memory_alone meets ready numbers none (faults.ReadFault file) cause = absurd (calm cause.0)
  memory_alone meets ready numbers none (faults.WriteFault file) cause = absurd (still cause.0)
  memory_alone meets ready numbers none fault cause = absurd (none fault (cause.met files refl))

  -- or else its search comes to nothing
  memory_or_unmapped : ((fault : Fault) → MeetsFlow files names (refuses fault) → ⊥) → (fault : Fault) → HasFlowCause (Some files) names rounds reads writes fault
      → (fault ≡ faults.Memory) ⊎ IsUnmapped files fault
  memory_or_unmapped none (faults.NoPath net wire text) cause = inr (record { fails = cause files refl; searched = λ is. absurd cc })
  memory_or_unmapped none (faults.Overused wire first second text) cause = inr (record { fails = cause files refl; searched = λ is. absurd cc })
  memory_or_unmapped none faults.Memory cause = inl refl
  memory_or_unmapped none (faults.ReadFault file) cause = absurd (calm cause.0)
  memory_or_unmapped none (faults.WriteFault file) cause = absurd (still cause.0)
  memory_or_unmapped none fault cause = absurd (none fault (cause.met files refl))

-- `flow` refuses nothing of a sample
pub flow_ends : SamplesAreReady → (run : Run) → IsNew run → (reads writes : Type 0) → (reads → ⊥) → (writes → ⊥) → (fault : Fault)
    → HasFlowCause (Some (map_of run.shelf)) names rounds reads writes fault → EndsFlow run fault
flow_ends are_ready run new reads writes calm still fault cause =
    let ready : IsReadyToFlow (files_of run) names = are_ready (files_of run) run.size (draws_of run.seed) new.sized.least new.sized.most (sample_told run.size run.seed) in
    memory_or_unmapped (files_of run) reads writes calm still (λ f met. flow_not_both (files_of run) names f ready met) fault
    (subst (λ (files : Map). HasFlowCause (Some files) names rounds reads writes fault) new.files cause)

-- a fault that is none of memory is what came of the sample
pub unmapped_comes : (run : Run) (fault : Fault) (result : Result Outcome Memory) → EndsFlow run fault → IfOk result (λ outcome. outcome ≡ Unmapped fault)
    → IfOk result (λ outcome. fault ≢ faults.Memory) → IfOk result (ComesTo (files_of run))
unmapped_comes run fault (Ok outcome) (inl memory) is searched = absurd (searched memory)
unmapped_comes run fault (Ok outcome) (inr unmapped) is searched = subst (ComesTo (files_of run)) (sym is) unmapped
unmapped_comes run fault (Err memory) ends is searched = tt
