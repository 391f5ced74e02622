use Rattle.std.proofs.Common.{◌≡◌, drop}
use Rattle.std.specs.List.{list_any}
use Rattle.fab_ways_laws.specs.Placing.{same_net}
use Rattle.fab_place.proofs.costing.has_net.Given as goal

abbrev pub invariant-loop-other : goal.invariant-loop-other
invariant-loop-other l = list_any (same_net l.net) (drop l.other-index l.nets) ≡ list_any (same_net l.net) l.nets
