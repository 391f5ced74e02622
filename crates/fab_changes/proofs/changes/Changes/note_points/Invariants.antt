use Rattle.std.proofs.Common.{ℕ, ◌+◌, ◌<◌}
use Rattle.fab_network.specs.declared.network.Network.{Network}
use Rattle.fab_demand.specs.Asked.{Asked}
use Rattle.fab_changes.specs.Changes.{AreChangesOf, WaitsAt}
use Rattle.fab_changes.proofs.changes.Changes.note_points.Given as goal

-- the points so far wait
abbrev pub invariant-loop-next : goal.invariant-loop-next
invariant-loop-next l = record {
  changes : (network : Network) (asked : Asked) → AreChangesOf network asked l.fn.self → AreChangesOf network asked l.self;
  waits : (k : ℕ) → k < l.next → WaitsAt l.self (l.first + k);
  more : (other : ℕ) → WaitsAt l.fn.self other → WaitsAt l.self other;
}
