-- A lower bound on how many edges a walk still takes, by distance.
use Rattle.std.specs.Prelude.{◌≡◌, ◌⊎◌, ℕ, suc, ◌+◌, ◌-◌, ◌/◌, ◌≤◌}
use Rattle.fab_legal.specs.fab_model.specs.Grid.{PlainFabric}
use Rattle.fab_legal.specs.fab_fabric.specs.declared.wire.Wire.{Wire}
use Rattle.fab_legal.specs.Steps.{IsJoined, IsStep}
use Rattle.fab_ways_laws.specs.Placing.{tile_distance}
use Rattle.fab_ways_laws.specs.Edges.{place_of}

-- the Manhattan distance of the tiles of two wires
abbrev pub wire_distance : PlainFabric → (from to : ℕ) → ℕ
wire_distance fabric from to = tile_distance (place_of fabric from).0 (place_of fabric from).1 (place_of fabric to).0 (place_of fabric to).1

-- a join goes this far
pub record JoinGoes (fabric : PlainFabric) (far : ℕ) : Type 0 where
  pub from : Wire
  pub to : Wire
  pub joined : IsJoined fabric from to
  pub far_is : wire_distance fabric from.0 to.0 ≡ far

-- how far the joins of a fabric go at most, or 1 where none leaves its tile
pub record IsSpan (fabric : PlainFabric) (span : ℕ) : Type 0 where
  pub some : 1 ≤ span
  pub most : (from to : Wire) → IsJoined fabric from to → wire_distance fabric from.0 to.0 ≤ span
  pub goes : JoinGoes fabric span ⊎ ((span ≡ 1) × ((from to : Wire) → IsJoined fabric from to → wire_distance fabric from.0 to.0 ≡ 0))

-- the distance by spans, rounded up
abbrev pub least_edges : (span : ℕ) → PlainFabric → (from to : ℕ) → ℕ
least_edges span fabric from to = (wire_distance fabric from to + (span - 1)) / span

-- a wire leads to another by this many edges
pub data WalksTo (fabric : PlainFabric) (from : Wire) : Wire → ℕ → Type 0 where
  stays : WalksTo fabric from from 0
  goes : {wire next : Wire} {edges : ℕ} → WalksTo fabric from wire edges → IsStep fabric wire next → WalksTo fabric from next (suc edges)
