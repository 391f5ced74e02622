-- Which nets have a node.
use Rattle.std.specs.Prelude.{◌≡◌, ◌⊎◌, ℕ, ◌<◌, ◌≤◌, List, length, slice_index_or, Contains, nat_eq, if◌then◌else◌, Option, Some, None}
use Rattle.fab_model.specs.Grid.{PlainFabric}
use Rattle.fab_fabric.specs.Wires.{numbered_wire}
use Rattle.fab_legal.specs.Steps.{IsJoined}
use Rattle.fab_pathfinder.specs.Rounds.{Paths, nodes_of, tree_at}
use Rattle.fab_route.specs.Plain.{PlainNodes, numbering_of}
use Rattle.fab_route.specs.declared.shared.Owners.{Owners}
use Rattle.fab_route.specs.declared.shared.Shared.{Shared}

-- the first two numbers with a property, if there are as many
abbrev pub AreFirst : (Has : ℕ → Type 0) → (first second : Option ℕ) → Type 0
AreFirst Has None None = (k : ℕ) → Has k → ⊥
AreFirst Has None (Some second) = ⊥
AreFirst Has (Some first) None = Has first × ((k : ℕ) → Has k → k ≡ first)
AreFirst Has (Some first) (Some second) = (first < second) × Has first × Has second × ((k : ℕ) → k < second → Has k → k ≡ first)

-- of the first trees that at a place has a node
abbrev pub HasNode : (trees : List Paths) → (count node place : ℕ) → Type 0
HasNode trees count node place = (place < count) × Contains (nodes_of (tree_at trees place)) node

abbrev pub no_owners : Owners
no_owners = record { first = None; second = None }

abbrev pub owners_at : List Owners → (node : ℕ) → Owners
owners_at owners node = slice_index_or owners node no_owners

-- for each node the first two that have it of the first trees
abbrev pub AreOwners : (trees : List Paths) → (count : ℕ) → List Owners → Type 0
AreOwners trees count owners = (node : ℕ) → node < length owners →
    AreFirst (HasNode trees count node) (owners_at owners node).first (owners_at owners node).second

-- the tree at a place, behind those before it, has a node
abbrev pub noted_in : (place : ℕ) → (first second : Option ℕ) → Owners
noted_in place None second = record { first = Some place; second = None }
noted_in place (Some first) None = record { first = Some first; second = if nat_eq first place then None else Some place }
noted_in place (Some first) (Some second) = record { first = Some first; second = Some second }

abbrev pub noted : (place : ℕ) → Owners → Owners
noted place owners = noted_in place owners.first owners.second

-- the tree at a place, behind those before it, has these nodes and no others
pub record IsNoted (old new : List Owners) (place : ℕ) (nodes : List ℕ) : Type 0 where
  pub here : (node : ℕ) → Contains nodes node → owners_at new node ≡ noted place (owners_at old node)
  pub other : (node : ℕ) → (Contains nodes node → ⊥) → owners_at new node ≡ owners_at old node

-- ---- the least wire

-- the wire of a node, or the output that is joined to it
abbrev pub IsWireOf : PlainFabric → PlainNodes → (node wire : ℕ) → Type 0
IsWireOf fabric nodes node wire = (wire ≡ (numbering_of nodes).wire node) ⊎ IsJoined fabric (numbered_wire wire) (numbered_wire ((numbering_of nodes).wire node))

-- two trees have a node
abbrev pub IsTwice : List Owners → (node first second : ℕ) → Type 0
IsTwice owners node first second = owners_at owners node ≡ record { first = Some first; second = Some second }

-- a wire of one of the first nodes, which two trees have
pub record IsSharedBy (fabric : PlainFabric) (nodes : PlainNodes) (owners : List Owners) (count : ℕ) (shared : Shared) : Type 0 where
  pub node : ℕ
  pub low : node < count
  pub twice : IsTwice owners node shared.first shared.second
  pub wire_is : IsWireOf fabric nodes node shared.wire.0

-- the least wire of those of the first nodes that two trees have, with these trees
abbrev pub IsLeastShared : PlainFabric → PlainNodes → List Owners → (count : ℕ) → Option Shared → Type 0
IsLeastShared fabric nodes owners count None = (node first second : ℕ) → node < count → IsTwice owners node first second → ⊥
IsLeastShared fabric nodes owners count (Some shared) = IsSharedBy fabric nodes owners count shared ×
    ((node first second wire : ℕ) → node < count → IsTwice owners node first second → IsWireOf fabric nodes node wire → shared.wire.0 ≤ wire)
