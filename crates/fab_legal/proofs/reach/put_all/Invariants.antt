use Rattle.std.proofs.Common.{◌≡◌, take, nat_eq}
use Rattle.indexmap.specs.IndexSet.{insert_all}
use Rattle.fab_legal.proofs.reach.put_all.Given as goal

abbrev pub invariant-loop-wire : goal.invariant-loop-wire
invariant-loop-wire l = l.set.keys ≡ insert_all nat_eq l.fn.set.keys (take l.wire-index l.wires)
