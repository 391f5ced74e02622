-- Which wires walks reach.
use Rattle.std.specs.Prelude.{Bool, false, List, slice_index_or, Contains}
use Rattle.fab_model.specs.Grid.{PlainFabric}
use Rattle.fab_fabric.specs.declared.wire.Wire.{Wire}
use Rattle.fab_legal.specs.Steps.{IsStep}

-- a walk of steps leads to a wire from one of some wires
pub data IsReached (fabric : PlainFabric) (from : List Wire) : Wire → Type 0 where
  starts : {wire : Wire} → Contains from wire → IsReached fabric from wire
  goes : {wire next : Wire} → IsReached fabric from wire → IsStep fabric wire next → IsReached fabric from next

-- the mark of a wire in a list that has one for each
abbrev pub is_marked : List Bool → Wire → Bool
is_marked marks wire = slice_index_or marks wire.0 false
