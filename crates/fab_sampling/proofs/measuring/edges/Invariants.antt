use Rattle.std.proofs.Common.{◌≡◌, length, sum_by, take}
use Rattle.fab_sampling.proofs.measuring.edges.Given as goal

abbrev pub invariant-loop-tree : goal.invariant-loop-tree
invariant-loop-tree l = l.count ≡ sum_by (λ tree. length tree.edges) (take l.tree-index l.fn.trees)
