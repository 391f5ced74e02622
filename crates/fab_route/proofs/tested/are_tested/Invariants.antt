use Rattle.std.proofs.Common.{take}
use Rattle.std.specs.List.{All}
use Rattle.fab_route.specs.inner.Guided.{IsHopTested}
use Rattle.fab_route.proofs.tested.are_tested.Given as goal

abbrev pub invariant-loop-hop : goal.invariant-loop-hop
invariant-loop-hop l = All (IsHopTested l.entries l.window l.start l.to) (take l.hop-index l.hops)
