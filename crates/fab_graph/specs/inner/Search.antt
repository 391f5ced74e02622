-- What holds between two steps of the search for the wires that walks reach.
use Rattle.std.specs.Prelude.{◌≡◌, ◌⊎◌, ℕ, ◌+◌, Bool, true, not, List, [], ◌∷◌, ◌++◌, length, count_by, Contains, if◌then◌else◌}
use Rattle.fab_model.specs.Grid.{PlainFabric}
use Rattle.fab_fabric.specs.Fabric.{wire_count}
use Rattle.fab_fabric.specs.declared.wire.Wire.{Wire}
use Rattle.fab_ways_laws.specs.Edges.{ends}
use Rattle.fab_graph.specs.Reach.{IsReached, is_marked}

-- the wires that wait, where one more is marked
abbrev pub waiting_with : List Bool → List Wire → Wire → List Wire
waiting_with marks waiting wire = if is_marked marks wire then waiting else waiting ++ wire ∷ []

-- how much is left to do
abbrev pub left_of : List Bool → List Wire → ℕ
left_of marks waiting = count_by not marks + length waiting

-- The edges of a marked wire lead to marked wires, unless it is one of these.
pub record IsSearch (fabric : PlainFabric) (from : List Wire) (marks : List Bool) (waiting : List Wire) : Type 0 where
  pub shape : length marks ≡ wire_count fabric
  pub sound : (wire : Wire) → is_marked marks wire ≡ true → IsReached fabric from wire
  pub waits : (wire : Wire) → Contains waiting wire → is_marked marks wire ≡ true
  pub closed : (wire : Wire) → is_marked marks wire ≡ true → Contains waiting wire ⊎ ((to : Wire) → Contains (ends fabric wire.0) to → is_marked marks to ≡ true)
