use Rattle.fab_route.proofs.Testing.{LinesTested}
use Rattle.fab_route.proofs.tested.is_hop_tested.Given as goal

abbrev pub invariant-loop-across : goal.invariant-loop-across
invariant-loop-across l = LinesTested l.entries l.window l.start l.to l.hop l.across
