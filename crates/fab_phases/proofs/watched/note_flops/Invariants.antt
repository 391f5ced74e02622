use Rattle.std.proofs.Common.{◌≡◌, ℕ, ◌<◌, Some}
use Rattle.std.specs.List.{slice_get}
use Rattle.fab_network.specs.declared.network.Network.{Network}
use Rattle.fab_demand.specs.Asked.{Asked}
use Rattle.fab_changes.specs.Changes.{AreChangesOf, WaitsAt}
use Rattle.fab_phases.specs.declared.loading.LoadedFlop.{LoadedFlop}
use Rattle.fab_phases.proofs.watched.note_flops.Given as goal

abbrev pub invariant-loop-flop : goal.invariant-loop-flop
invariant-loop-flop l = record {
  changes : (network : Network) (asked : Asked) → AreChangesOf network asked l.fn.changes → AreChangesOf network asked l.changes;
  waits : (place : ℕ) (flop : LoadedFlop) → place < l.flop-index → slice_get l.flops place ≡ Some flop → WaitsAt l.changes flop.point;
  more : (point : ℕ) → WaitsAt l.fn.changes point → WaitsAt l.changes point;
}
