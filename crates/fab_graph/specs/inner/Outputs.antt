-- The outputs that pairs join to the inputs of a tile, as they are kept.
use Rattle.std.specs.Prelude.{◌≡◌, ℕ, Bool, List, Vec, map, length}
use Rattle.fab_model.specs.Tiles.{PlainTile, counted, matrix_names}
use Rattle.fab_ways_laws.specs.Edges.{outputs_of, turned_pairs}
use Rattle.fab_graph.specs.declared.outputs.Outputs.{Outputs}

-- the groups of outputs without where they lie in memory
abbrev pub plain_groups : {A : Type 0} → List (Vec ℕ A) → List (List ℕ)
plain_groups groups = map (λ group. group.items) groups

-- for each input of a tile its outputs, or the other way round
abbrev pub type_outputs : (turned : Bool) → PlainTile → List (List ℕ)
type_outputs turned tile = counted (length (matrix_names tile)) (outputs_of (turned_pairs turned tile.pairs))

abbrev pub plain_outputs : Outputs → List (List ℕ)
plain_outputs outputs = plain_groups outputs.groups.items

-- there is a table for each type
abbrev pub HaveOutputs : (turned : Bool) → List PlainTile → List Outputs → Type 0
HaveOutputs turned types tables = map plain_outputs tables ≡ map (type_outputs turned) types
