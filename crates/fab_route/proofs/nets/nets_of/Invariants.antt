use Rattle.fab_route.proofs.Wanting.{AreFirstNets}
use Rattle.fab_route.proofs.nets.nets_of.Given as goal

abbrev pub invariant-loop-place : goal.invariant-loop-place
invariant-loop-place l = AreFirstNets l.fabric l.nodes l.packed l.placed l.place l.nets.items
