use Rattle.fab_route.specs.inner.Numbers.{AreFlat}
use Rattle.fab_route.proofs.targets.targets.Given as goal

abbrev pub invariant-loop-wire : goal.invariant-loop-wire
invariant-loop-wire l = AreFlat l.fabric l.wires l.nodes l.wire-index l.starts.items l.targets.items
