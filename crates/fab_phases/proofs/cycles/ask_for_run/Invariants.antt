use Rattle.std.proofs.Common.{◌≡◌, ℕ, ◌<◌, length, Some}
use Rattle.std.specs.List.{slice_get}
use Rattle.fab_compiled.specs.Leading.{IsMarked}
use Rattle.fab_network.specs.declared.network.Clock.TheVariants.{User}
use Rattle.fab_network.specs.Passes.{kept_tern}
use Rattle.fab_demand.specs.Demand.{IsAsked}
use Rattle.fab_phases.proofs.cycles.ask_for_run.Given as goal

abbrev pub invariant-loop-out : goal.invariant-loop-out
invariant-loop-out l = record {
  points : length l.demand.leads ≡ length l.fn.demand.leads;
  asked : IsAsked l.network User (kept_tern l.given) l.demand;
  marked : (place point : ℕ) → place < l.out-index → slice_get l.outs place ≡ Some point → IsMarked l.demand.marks point;
}
