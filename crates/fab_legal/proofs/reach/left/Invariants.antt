use Rattle.std.proofs.Common.{◌≡◌, [], map, take, nat_eq}
use Rattle.indexmap.specs.IndexSet.{insert_all}
use Rattle.fab_legal.specs.inner.Tables.{left_number}
use Rattle.fab_legal.proofs.reach.left.Given as goal

abbrev pub invariant-loop-edge : goal.invariant-loop-edge
invariant-loop-edge l = l.set.keys ≡ insert_all nat_eq [] (map left_number (take l.edge-index l.edges))
