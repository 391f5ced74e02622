use Rattle.fab_route.specs.inner.Guided.{AreAims}
use Rattle.fab_route.proofs.aims.put_aims.Given as goal

abbrev pub invariant-loop-sink : goal.invariant-loop-sink
invariant-loop-sink l = AreAims l.fabric l.size l.aims.items
