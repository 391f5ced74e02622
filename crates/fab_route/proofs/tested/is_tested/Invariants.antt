use Rattle.fab_route.specs.inner.Guided.{AreTested}
use Rattle.fab_route.proofs.tested.is_tested.Given as goal

abbrev pub invariant-loop-to : goal.invariant-loop-to
invariant-loop-to l = AreTested l.entries l.window l.hops.items l.start l.to
