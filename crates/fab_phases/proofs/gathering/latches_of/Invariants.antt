use Rattle.fab_network.specs.declared.network.Clock.TheVariants.{Loader}
use Rattle.fab_network.specs.Passes.{kept_tern}
use Rattle.fab_demand.specs.Asked.{AsksMore}
use Rattle.fab_demand.specs.Demand.{IsAsked}
use Rattle.fab_phases.specs.inner.Gathering.{AreGated, HasGated}
use Rattle.fab_phases.proofs.gathering.latches_of.Given as goal

abbrev pub invariant-loop-point : goal.invariant-loop-point
invariant-loop-point l = record {
  asked : IsAsked l.network Loader (kept_tern l.given) l.demand;
  more : AsksMore l.fn.demand l.demand;
  latches : AreGated l.network l.demand l.loads l.latches.items;
  all : HasGated l.network l.loads l.point l.latches.items;
}
