-- The trees of a run as those of an implementation.
use Rattle.std.specs.Prelude.{ℕ, List, [], ◌∷◌, ◌++◌, get_or}
use Rattle.std.specs.List.{position_or_len}
use Rattle.std.specs.Str.{bytes_eq}
use Rattle.fab_legal.specs.fab_fabric.specs.Wires.{numbered_wire}
use Rattle.fab_legal.specs.fab_netlist.specs.declared.net_id.NetId.{NetId}
use Rattle.fab_legal.specs.fab_netlist.specs.declared.net_id.NetId.TheVariants as ids
use Rattle.fab_legal.specs.fab_netlist.specs.Packed.{PlainPacked}
use Rattle.fab_legal.specs.fab_implementation.specs.Plain.{Edge, PlainTree, PlainImplementation}
use Rattle.fab_legal.specs.Lines.{named}
use Rattle.fab_ways_laws.specs.Routing.{Path, Paths, nets}

-- ---- edges

-- the edge by which a walk comes to its last wire; no edge leads to its first
abbrev pub edge_into : (wire : ℕ) → (before : Path) → List Edge
edge_into wire [] = []
edge_into wire (from ∷ before) = (numbered_wire from, numbered_wire wire) ∷ []

-- the edges of a walk from its first wire on
abbrev pub edges_along : Path → List Edge
edges_along [] = []
edges_along (wire ∷ before) = edges_along before ++ edge_into wire before

-- the edges of a tree in the order in which it grew
abbrev pub edges_of : Paths → List Edge
edges_of [] = []
edges_of (path ∷ paths) = edges_along path ++ edges_of paths

-- ---- trees

-- a net without edges has no tree
abbrev pub tree_with : NetId → List Edge → List PlainTree
tree_with net [] = []
tree_with net (edge ∷ edges) = (record { net = net; edges = edge ∷ edges }) ∷ []

-- the name that a net has in the trees of an implementation, where inputs count the lines that name input ports
abbrev pub by_line : PlainPacked → PlainImplementation → NetId → NetId
by_line packed placement ids.Zero = ids.Zero
by_line packed placement ids.One = ids.One
by_line packed placement (ids.In number) = ids.In (position_or_len (bytes_eq (get_or packed.inputs number [])) (named placement.ins))
by_line packed placement (ids.Cell number) = ids.Cell number

-- net by net, until one of the lists ends
abbrev pub trees_for : (name : NetId → NetId) → List NetId → List Paths → List PlainTree
trees_for name [] grown = []
trees_for name (net ∷ nets) [] = []
trees_for name (net ∷ nets) (paths ∷ grown) = tree_with (name net) (edges_of paths) ++ trees_for name nets grown

abbrev pub trees_of : PlainPacked → PlainImplementation → List Paths → List PlainTree
trees_of packed placement grown = trees_for (by_line packed placement) (nets packed) grown

abbrev pub with_trees : PlainImplementation → List PlainTree → PlainImplementation
with_trees placement trees = record { cells = placement.cells; ins = placement.ins; outs = placement.outs; trees = trees; reset = placement.reset }
