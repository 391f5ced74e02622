use Rattle.fab_route.specs.inner.Numbers.{AreNumbered}
use Rattle.fab_route.proofs.numbers.number_inputs.Given as goal

abbrev pub invariant-loop-number : goal.invariant-loop-number
invariant-loop-number l = AreNumbered l.fabric l.number l.wires.items l.nodes.items
