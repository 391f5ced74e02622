use Rattle.std.proofs.Common.{take, All}
use Rattle.fab_implementation.specs.Plain.{PlainTree}
use Rattle.fab_partial.specs.Columns.{lies_within}
use Rattle.fab_partial.specs.Use.{IsUsedEdge}
use Rattle.fab_partial.proofs.uses.used.Given as goal

-- no edge of the nets so far is a used one
abbrev pub invariant-loop-tree : goal.invariant-loop-tree
invariant-loop-tree l = All (λ (tree : PlainTree). All (λ edge. IsUsedEdge l.fabric (lies_within l.first l.last) edge → ⊥) tree.edges) (take l.tree-index l.implementation.trees)
