use Rattle.std.proofs.Common.{take}
use Rattle.fab_fabric.specs.Bits.{AreBitsOf, plain_bits}
use Rattle.fab_features.specs.inner.Adding.{Adds, SomeOf, IsEdgeOne}
use Rattle.fab_features.proofs.design.set_edges.Given as goal

-- the edges so far
abbrev pub invariant-loop-edge : goal.invariant-loop-edge
invariant-loop-edge l = record {
  are : AreBitsOf l.fabric l.bits;
  adds : Adds (plain_bits l.fn.bits) (plain_bits l.bits) (SomeOf (IsEdgeOne l.fabric) (take l.edge-index l.edges));
}
