use Rattle.std.proofs.Common.{◌≡◌, length, take}
use Rattle.fab_ways_laws.specs.Routing.{nets}
use Rattle.fab_route.proofs.Grouping.{AreGrouped}
use Rattle.fab_route.proofs.sinks.group.Given as goal

abbrev pub invariant-loop-sink : goal.invariant-loop-sink
invariant-loop-sink l = record {
  long : length l.groups.items ≡ length (nets l.packed);
  groups : AreGrouped l.packed l.groups.items (take l.sink-index l.sinks);
}
