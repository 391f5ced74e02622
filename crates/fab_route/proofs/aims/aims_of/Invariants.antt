use Rattle.fab_route.specs.inner.Guided.{AreAims}
use Rattle.fab_route.proofs.aims.aims_of.Given as goal

abbrev pub invariant-loop-group : goal.invariant-loop-group
invariant-loop-group l = AreAims l.fabric l.size l.aims.items
