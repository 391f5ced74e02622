use Rattle.std.proofs.Common.{take}
use Rattle.fab_route.specs.inner.Numbers.{Adds}
use Rattle.fab_route.proofs.targets.add_targets.Given as goal

abbrev pub invariant-loop-index : goal.invariant-loop-index
invariant-loop-index l = Adds l.fabric l.nodes (take l.index l.ends) l.fn.targets.items l.targets.items
