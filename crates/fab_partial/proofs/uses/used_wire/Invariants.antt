use Rattle.std.proofs.Common.{take, All}
use Rattle.fab_partial.specs.Columns.{lies_within}
use Rattle.fab_partial.specs.Use.{IsUsedEdge}
use Rattle.fab_partial.proofs.uses.used_wire.Given as goal

-- no edge so far is a used one
abbrev pub invariant-loop-edge : goal.invariant-loop-edge
invariant-loop-edge l = All (λ edge. IsUsedEdge l.fabric (lies_within l.first l.last) edge → ⊥) (take l.edge-index l.edges)
