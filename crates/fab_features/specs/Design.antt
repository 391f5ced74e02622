-- The features of a legal implementation.
use Rattle.std.specs.Prelude.{ℕ, ◌-◌, Bool, ◌&&◌, List, [], ◌∷◌, ◌++◌, length, codes, nat_eq, is_some, slice_get, option_map, Option, Some, None, if◌then◌else◌}
use Rattle.std.specs.List.{flat_map, filter_map, find}
use Rattle.std.specs.Option.{option_and_then}
use Rattle.fab_select.specs.Selection.{in_order}
use Rattle.fab_model.specs.Tiles.{counted, numbered_pairs}
use Rattle.fab_model.specs.Grid.{PlainFabric}
use Rattle.fab_fabric.specs.Wires.{wire_index}
use Rattle.fab_fabric.specs.Names.{place_name, site_name, name_at}
use Rattle.fab_fabric.specs.declared.wire.Site.{Site}
use Rattle.fab_netlist.specs.Packed.{PlainCell, PlainPacked}
use Rattle.fab_implementation.specs.Plain.{Edge, PlainImplementation}
use Rattle.fab_fasm.specs.declared.feature.Feature.{Feature}
use Rattle.fab_fasm.specs.Printing.{line_by_line}
use Rattle.fab_use_defs.specs.Configuring.{cell_bit}
use Rattle.fab_use_defs.specs.fab_fabric_text_defs_Places.{PlacedTile, placed_tiles}

abbrev pub feature_of : (name : List ℕ) → (high low value : ℕ) → Feature
feature_of name high low value = record { line = 0; name = name; high = high; low = low; value = value }

-- ---- BELs

abbrev pub same_site : Site → Site → Bool
same_site a b = nat_eq a.x b.x && nat_eq a.y b.y && nat_eq a.bel b.bel

-- the cell that the first line of a site puts there
abbrev pub cell_on : PlainPacked → List (ℕ × Site) → Site → Option PlainCell
cell_on packed lines site = option_and_then (λ line. slice_get packed.cells line.0) (find (λ line. same_site line.1 site) lines)

-- as X1Y2.A.INIT
abbrev pub field_name : Site → (field : List ℕ) → List ℕ
field_name site field = site_name site.x site.y site.bel ++ codes "." ++ field

-- a bit of a BEL where it is 1
abbrev pub bit_features : Site → (field : List ℕ) → Bool → List Feature
bit_features site field bit = if bit then feature_of (field_name site field) 0 0 1 ∷ [] else []

-- the table of a cell, also where it is all 0, FF where the cell has a latch, and SET_NORESET where a reset loads 1
abbrev pub cell_features : (resets : Bool) → Site → Option PlainCell → List Feature
cell_features resets site None = []
cell_features resets site (Some cell) =
    feature_of (field_name site (codes "INIT")) 15 0 cell.table
    ∷ (bit_features site (codes "FF") (is_some cell.latch) ++ bit_features site (codes "SET_NORESET") (cell_bit resets cell 18))

abbrev pub site_features : PlainPacked → PlainImplementation → Site → List Feature
site_features packed implementation site = cell_features (is_some packed.reset) site (cell_on packed implementation.cells site)

-- ---- the switch matrix

-- as X1Y2.E1END0.LA_I0: the input, and then the output
abbrev pub pair_name : PlainFabric → (x y input output : ℕ) → List ℕ
pair_name fabric x y input output = place_name x y ++ codes "." ++ name_at fabric x y input ++ codes "." ++ name_at fabric x y output

-- the edge that enters a wire
abbrev pub edge_into : PlainImplementation → (index : ℕ) → Option Edge
edge_into implementation index = find (λ edge. nat_eq edge.1.0 index) (flat_map (λ tree. tree.edges) implementation.trees)

-- An output that an edge enters has the input of the wire from which the edge leads. In a legal implementation this is a wire of the tile.
abbrev pub edge_feature : PlainFabric → (x y output : ℕ) → Edge → Feature
edge_feature fabric x y output edge = feature_of (pair_name fabric x y (edge.0.0 - wire_index fabric x y 0) output) 0 0 1

abbrev pub output_feature : PlainFabric → PlainImplementation → (x y output : ℕ) → Option Feature
output_feature fabric implementation x y output = option_map (edge_feature fabric x y output) (edge_into implementation (wire_index fabric x y output))

-- ---- all of them

abbrev pub site_in : PlacedTile → (bel : ℕ) → Site
site_in placed bel = record { x = placed.x; y = placed.y; bel = bel }

-- by letter those of the BELs, and then the outputs in the order of their first pairs
abbrev pub tile_features : PlainFabric → PlainPacked → PlainImplementation → PlacedTile → List Feature
tile_features fabric packed implementation placed =
    flat_map (λ bel. site_features packed implementation (site_in placed bel)) (counted (length placed.tile.bels) (λ bel. bel))
    ++ filter_map (output_feature fabric implementation placed.x placed.y) (in_order nat_eq (numbered_pairs placed.tile))

-- column by column, in a column from the top; line numbers count from 1
abbrev pub design_features : PlainFabric → PlainPacked → PlainImplementation → List Feature
design_features fabric packed implementation = line_by_line 1 (flat_map (tile_features fabric packed implementation) (placed_tiles fabric))
