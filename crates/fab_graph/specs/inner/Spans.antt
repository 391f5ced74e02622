-- How far the joins of the first wires go.
use Rattle.std.specs.Prelude.{◌≡◌, ◌⊎◌, ℕ, ◌<◌, ◌≤◌}
use Rattle.fab_model.specs.Grid.{PlainFabric}
use Rattle.fab_fabric.specs.Wires.{numbered_wire}
use Rattle.fab_fabric.specs.declared.wire.Wire.{Wire}
use Rattle.fab_legal.specs.Steps.{IsJoined}
use Rattle.fab_ways_laws.specs.Bounds.{wire_distance, JoinGoes}

-- the greatest wire_distance over the joins of the first n wires
pub record IsMost (fabric : PlainFabric) (n most : ℕ) : Type 0 where
  pub bounds : (wire : ℕ) (to : Wire) → wire < n → IsJoined fabric (numbered_wire wire) to → wire_distance fabric wire to.0 ≤ most
  pub goes : JoinGoes fabric most ⊎ (most ≡ 0)
  pub small : most < 64
