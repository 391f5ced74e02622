-- What the check keeps of tile types and of nets.
use Rattle.std.specs.Prelude.{◌≡◌, ℕ, ◌+◌, ◌<◌, ◌≤◌, Bool, ◌&&◌, List, [], ◌∷◌, map, length, get_or, Contains, Option, Some, None, min, nat_eq, if◌then◌else◌}
use Rattle.std.specs.List.{list_any, position_or_len}
use Rattle.fab_select.specs.Selection.{inputs_of}
use Rattle.fab_implementation.specs.fab_fabric.specs.Wires.{numbered_wire}
use Rattle.fab_implementation.specs.Plain.{Edge, PlainTree}
use Rattle.fab_legal.specs.Nets.{Reached, entered_wires}
use Rattle.indexmap.specs.IndexSet.{IndexSet, insert_all}
use Rattle.fab_select.specs.declared.pair.Pair.{Pair}
use Rattle.fab_implementation.specs.fab_model.specs.Tiles.{PlainTile, pair_numbers}
use Rattle.fab_implementation.specs.fab_model.specs.Grid.{PlainFabric, tile_at}
use Rattle.std.specs.List.{flat_map}
use Rattle.fab_implementation.specs.fab_fabric.specs.declared.wire.Wire.{Wire}

-- ---- pairs

abbrev pub same_pair : ℕ × ℕ → ℕ × ℕ → Bool
same_pair a b = nat_eq a.0 b.0 && nat_eq a.1 b.1

-- the pairs of a switch matrix as a set, the output first
abbrev pub pairs_of : List Pair → List (ℕ × ℕ)
pairs_of pairs = insert_all same_pair [] (map pair_numbers pairs)

abbrev pub type_pairs : PlainTile → List (ℕ × ℕ)
type_pairs tile = pairs_of tile.pairs

-- there is a set of pairs for each type
abbrev pub HavePairs : {S : Type 0} → List PlainTile → List (IndexSet (ℕ × ℕ) S) → Type 0
HavePairs types sets = map (λ set. set.keys) sets ≡ map type_pairs types

-- a pair of the tile at a place has these numbers
pub record HasPair (fabric : PlainFabric) (x y output input : ℕ) : Type 0 where
  pub tile : PlainTile
  pub tile_is : tile_at fabric x y ≡ Some tile
  pub listed : Contains (pairs_of tile.pairs) (output, input)

-- ---- the wires of edges by number

abbrev pub left_number : Edge → ℕ
left_number edge = edge.0.0

abbrev pub entered_number : Edge → ℕ
entered_number edge = edge.1.0

-- an edge by the place of its first wire among others
abbrev pub link : (lefts : List ℕ) → Edge → ℕ × ℕ
link lefts edge = (position_or_len (nat_eq (left_number edge)) lefts, entered_number edge)

-- the wires to which edges lead from the wire at a place
abbrev pub targets : (lefts : List ℕ) → List Edge → (place : ℕ) → List ℕ
targets lefts edges place = inputs_of nat_eq (map (link lefts) edges) place

-- the wires from which edges lead and that none enters
pub record IsRootSet (lefts entered roots : List ℕ) : Type 0 where
  pub sound : (wire : ℕ) → Contains roots wire → Contains lefts wire × (Contains entered wire → ⊥)
  pub complete : (wire : ℕ) → Contains lefts wire → (Contains entered wire → ⊥) → Contains roots wire

-- the wires of edges that are reached
pub record IsReachedSet (edges : List Edge) (wires : List ℕ) : Type 0 where
  pub sound : (wire : ℕ) → Contains wires wire → Reached edges (numbered_wire wire)
  pub complete : (wire : Wire) → Contains (entered_wires edges) wire → Reached edges wire → Contains wires wire.0

-- how many edges enter wires that are not among these
abbrev pub missing : List Edge → (wires : List ℕ) → ℕ
missing [] wires = 0
missing (edge ∷ edges) wires = (if list_any (nat_eq (entered_number edge)) wires then 0 else 1) + missing edges wires

-- ---- the wires of nets

abbrev pub edge_numbers : Edge → List ℕ
edge_numbers edge = left_number edge ∷ entered_number edge ∷ []

abbrev pub key_lists : {S : Type 0} → List (IndexSet ℕ S) → List (List ℕ)
key_lists sets = map (λ set. set.keys) sets

-- the wires of a tree
abbrev pub tree_numbers : PlainTree → List ℕ
tree_numbers tree = insert_all nat_eq [] (flat_map edge_numbers tree.edges)

-- there is a set of wires for each tree
abbrev pub HaveWires : List PlainTree → (lists : List (List ℕ)) → Type 0
HaveWires trees lists = lists ≡ map tree_numbers trees

-- a number with a property, if there is one, and then the least
abbrev pub IsLeast : (P : ℕ → Type 0) → Option ℕ → Type 0
IsLeast P None = (n : ℕ) → P n → ⊥
IsLeast P (Some least) = P least × ((n : ℕ) → P n → least ≤ n)

-- a number stands in two lists
pub record IsShared (lists : List (List ℕ)) (n : ℕ) : Type 0 where
  pub first : ℕ
  pub second : ℕ
  pub apart : first < second
  pub inside : second < length lists
  pub in_first : Contains (get_or lists first []) n
  pub in_second : Contains (get_or lists second []) n

abbrev pub lesser : Option ℕ → ℕ → Option ℕ
lesser None other = Some other
lesser (Some number) other = Some (min number other)

abbrev pub keep_least : (owned : List ℕ) → Option ℕ → ℕ → Option ℕ
keep_least owned least wire = if list_any (nat_eq wire) owned then lesser least wire else least
