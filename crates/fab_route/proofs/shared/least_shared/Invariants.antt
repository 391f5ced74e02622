use Rattle.fab_route.specs.inner.Owners.{IsLeastShared}
use Rattle.fab_route.proofs.shared.least_shared.Given as goal

abbrev pub invariant-loop-node : goal.invariant-loop-node
invariant-loop-node l = IsLeastShared l.fabric l.nodes l.owners.items l.node l.least
