-- Where the wires and sites of a legal implementation stand.
use Rattle.std.proofs.Common.{◌≡◌, ◌⊎◌, ℕ, zero, suc, ◌<◌, Bool, true, false, List, [], ◌∷◌, ◌++◌, length, refl, sym, ap, ◌∙◌, subst, inl, inr, arith, Option, Some, None, option_map, option_and_then, slice_get, Contains}
use Rattle.std.specs.Option.{option_map_or}
use Rattle.std.proofs.lemmas.Bool.{false≢true}
use Rattle.std.proofs.lemmas.Option.{slice_get-map}
use Rattle.std.proofs.lemmas.List.Elements.{Contains-append_left, Contains-append_right, Contains-append_cases}
use Rattle.fab_kinds.specs.declared.kind.Kind.{Kind}
use Rattle.fab_kinds.specs.declared.kind.Kind.TheVariants as kinds
use Rattle.fab_model.specs.declared.tiles.WireRow.{WireRow}
use Rattle.fab_model.specs.declared.tiles.Bel.{Bel}
use Rattle.fab_model.specs.Rows.{dest_bits}
use Rattle.fab_model.specs.Tiles.{PlainTile, TileWire, tile_wires, wire_name, wire_passes, is_matrix_output}
use Rattle.fab_model.specs.Wires.{PlainWire, dest_of, plain_wires, wire_of, wire_number, IsWire, IsMatrixOutput}
use Rattle.fab_model.specs.Grid.{PlainFabric, tile_at}
use Rattle.fab_model.specs.Cascade.{PlacedRow, placed_row, row_of_tile}
use Rattle.fab_model.proofs.Crossings.{placed}
use Rattle.fab_model.proofs.Steps.{map_gives, then_gives}
use Rattle.fab_model.proofs.Wires.{wire_at_number, plain_wires_are_wires}
use Rattle.fab_fabric.specs.Wires.{IsIndexOf, row_place}
use Rattle.fab_fabric.specs.declared.wire.Site.{Site}
use Rattle.fab_netlist.specs.Packed.{PlainCell, PlainPacked}
use Rattle.fab_use_defs.specs.fab_implementation_Plain.{Edge, Pad, PlainTree, PlainImplementation}
use Rattle.fab_use_defs.specs.fab_implementation_OnFabric.{kind_at}
use Rattle.fab_use_defs.specs.fab_legal_Turns.{AreRight}
use Rattle.fab_use_defs.specs.fab_legal_Lines.{IsRightLine, IsCell, IsInput, IsOutput}
use Rattle.fab_use_defs.specs.fab_legal_Nets.{net_of, left_wires, entered_wires}
use Rattle.fab_use_defs.specs.fab_legal_Legal.{IsLegal}
use Rattle.fab_use_defs.specs.fab_gen_tile_TileModule.{matrix_output_names}
use Rattle.fab_use_defs.proofs.fab_tile_drives_laws_Members.{contains_map}
use Rattle.fab_use_defs.proofs.fab_tile_drives_laws_WireNames.{at_number}
use Rattle.fab_use_defs.proofs.fab_tile_drives_laws_MatrixPorts.{side_there}
use Rattle.fab_use_defs.specs.Design.{IsTreeWire, IsBound}

pub one_tile : (fabric : PlainFabric) (x y : ℕ) (a b : PlainTile) → tile_at fabric x y ≡ Some a → tile_at fabric x y ≡ Some b → a ≡ b
one_tile fabric x y a b is other = (let e : Some a ≡ Some b = sym is ∙ other in cc)

-- a wire by its number is one of its tile
pub index_wire : (fabric : PlainFabric) (index x y : ℕ) (plain : PlainWire) (tile : PlainTile) → IsIndexOf fabric index x y plain → tile_at fabric x y ≡ Some tile → IsWire tile plain
index_wire fabric index x y plain tile is there =
    subst (λ tile. IsWire tile plain) (one_tile fabric x y is.is_wire.tile tile is.is_wire.tile_is there) is.is_wire.is_wire

pub tree_wire : (fabric : PlainFabric) (implementation : PlainImplementation) (x y : ℕ) (tile : PlainTile) (plain : PlainWire) →
    IsTreeWire fabric implementation x y tile plain → IsWire tile plain
tree_wire fabric implementation x y tile plain tree = index_wire fabric tree.wire.0 x y plain tile tree.is_index tree.tile_is

pub dest_few : (tile : PlainTile) (row bit : ℕ) (found : WireRow) → IsWire tile (dest_of row bit) → slice_get tile.rows row ≡ Some found → bit < dest_bits found
dest_few tile row bit found exists there = subst (λ o. bit < option_map_or dest_bits o 0) there exists

-- a matrix output is among its tile's
pub outputs_there : (tile : PlainTile) (plain : PlainWire) → IsWire tile plain → IsMatrixOutput tile plain → 0 < length (matrix_output_names tile)
outputs_there tile plain exists output =
    let at = at_number tile plain (wire_number tile plain) (wire_at_number tile plain exists) in
    let is_output : is_matrix_output at.found ≡ true = sym (ap (λ found. option_map_or is_matrix_output found false) at.is) ∙ output in
    let there : Contains (matrix_output_names tile) (wire_name at.found) = side_there true tile (wire_number tile plain) at.found at.there is_output in
    let few = there.1 in
    omega (arith, few)

-- ---- what stands at a number

some_or_none : {X : Type 0} (o : Option X) → ((x : X) × (o ≡ Some x)) ⊎ (o ≡ None)
some_or_none None = inr refl
some_or_none (Some x) = inl (x, refl)

passing_wire : (test : TileWire → Bool) (tile : PlainTile) (k : ℕ) → wire_passes test tile k ≡ true → (found : TileWire) × (slice_get (tile_wires tile) k ≡ Some found) × (test found ≡ true)
passing_wire test tile k passes =
    elim (some_or_none (slice_get (tile_wires tile) k)) [
      | inl some ↦ (let e : slice_get (tile_wires tile) k ≡ Some some.0 = some.1 in (some.0, e, rw e at passes))
      | inr none ↦ (let f : false ≡ true = rw none at passes in absurd (false≢true f))
    ]

plain_there : (o : Option PlainWire) (g : PlainWire → Option TileWire) (found : TileWire) → option_map g o ≡ Some (Some found) → (wire : PlainWire) × (o ≡ Some wire)
plain_there None g found is = cc
plain_there (Some wire) g found is = (wire, refl)

pub passing_plain : (test : TileWire → Bool) (tile : PlainTile) (k : ℕ) → wire_passes test tile k ≡ true →
    (wire : PlainWire) × (slice_get (plain_wires tile) k ≡ Some wire) × (option_map_or test (wire_of tile wire) false ≡ true)
passing_plain test tile k passes =
    let w = passing_wire test tile k passes in
    let both : option_map (wire_of tile) (slice_get (plain_wires tile) k) ≡ Some (Some w.0) =
    sym (slice_get-map (wire_of tile) (plain_wires tile) k)
    ∙ ap (λ wires. slice_get wires k) (plain_wires_are_wires tile)
    ∙ slice_get-map Some (tile_wires tile) k
    ∙ ap (option_map Some) w.1 in
    let p = plain_there (slice_get (plain_wires tile) k) (wire_of tile) w.0 both in
    let at = at_number tile p.0 k p.1 in
    let one : at.found ≡ w.0 = (let e : Some at.found ≡ Some w.0 = sym at.there ∙ w.1 in cc) in
    (p.0, p.1, ap (λ found. option_map_or test found false) at.is ∙ ap test one ∙ w.2)

-- ---- rows

-- a row that is placed
pub placed_there : (fabric : PlainFabric) (x y row : ℕ) (tile : PlainTile) (here : PlacedRow) → tile_at fabric x y ≡ Some tile → placed_row fabric (row_place x y row) ≡ Some here →
    (found : WireRow) × (slice_get tile.rows row ≡ Some found) × (here ≡ placed (row_place x y row) tile found)
placed_there fabric x y row tile here there is =
    let at = then_gives (row_of_tile (row_place x y row)) (tile_at fabric x y) here is in
    let found = map_gives (placed (row_place x y row) at.0) (slice_get at.0.rows row) here at.2 in
    let same_tile : at.0 ≡ tile = one_tile fabric x y at.0 tile at.1 there in
    (found.0, subst (λ tile. slice_get tile.rows row ≡ Some found.0) same_tile found.1, sym found.2 ∙ ap (λ tile. placed (row_place x y row) tile found.0) same_tile)

-- ---- sites

-- a BEL of a kind at a site
pub record SiteBel (fabric : PlainFabric) (site : Site) (kind : Kind) (tile : PlainTile) : Type 0 where
  pub found : Bel
  pub there : slice_get tile.bels site.bel ≡ Some found
  pub kind_is : found.kind ≡ kind

pub site_tile : (fabric : PlainFabric) (site : Site) (kind : Kind) → kind_at fabric site ≡ Some kind → (tile : PlainTile) × (tile_at fabric site.x site.y ≡ Some tile)
site_tile fabric site kind is =
    let bel = map_gives (λ (bel : Bel). bel.kind) (option_and_then (λ (tile : PlainTile). slice_get tile.bels site.bel) (tile_at fabric site.x site.y)) kind is in
    let at = then_gives (λ (tile : PlainTile). slice_get tile.bels site.bel) (tile_at fabric site.x site.y) bel.0 bel.1 in
    (at.0, at.1)

pub site_bel : (fabric : PlainFabric) (site : Site) (kind : Kind) (tile : PlainTile) → kind_at fabric site ≡ Some kind → tile_at fabric site.x site.y ≡ Some tile → SiteBel fabric site kind tile
site_bel fabric site kind tile is there =
    let bel = map_gives (λ (bel : Bel). bel.kind) (option_and_then (λ (tile : PlainTile). slice_get tile.bels site.bel) (tile_at fabric site.x site.y)) kind is in
    let at = then_gives (λ (tile : PlainTile). slice_get tile.bels site.bel) (tile_at fabric site.x site.y) bel.0 bel.1 in
    record { found = bel.0; there = subst (λ tile. slice_get tile.bels site.bel ≡ Some bel.0) (one_tile fabric site.x site.y at.0 tile at.1 there) at.2; kind_is = bel.2 }

-- a line of an implementation that is right gives a site of its kind
pub line_kind : {X : Type 0} (fabric : PlainFabric) (kind : Kind) (IsKnown : X → Type 0) (lines : List (X × Site)) (line : X × Site) →
    AreRight (IsRightLine fabric kind IsKnown) lines → Contains lines line → kind_at fabric line.1 ≡ Some kind
line_kind fabric kind IsKnown lines line right there = (right there.0 line there.1 (there.1, there.2)).of_kind

-- the sites of cells and ports
module _ (fabric : PlainFabric) (packed : PlainPacked) (fixed : List Pad) (implementation : PlainImplementation) (legal : IsLegal fabric packed fixed implementation) where
  pub cell_kind : (number : ℕ) (site : Site) (cell : PlainCell) → IsBound packed implementation number site cell → kind_at fabric site ≡ Some kinds.Lut4c
  cell_kind number site cell bound = line_kind fabric kinds.Lut4c (IsCell packed) implementation.cells (number, site) legal.placed.cells.lines_right bound.listed

  pub in_kind : (port : List ℕ) (site : Site) → Contains implementation.ins (port, site) → kind_at fabric site ≡ Some kinds.Io
  in_kind port site among = line_kind fabric kinds.Io (IsInput packed) implementation.ins (port, site) legal.placed.ports.ins.lines_right among

  pub out_kind : (port : List ℕ) (site : Site) → Contains implementation.outs (port, site) → kind_at fabric site ≡ Some kinds.Io
  out_kind port site among = line_kind fabric kinds.Io (IsOutput packed) implementation.outs (port, site) legal.placed.ports.outs.lines_right among

  pub pad_kind : (port : List ℕ) (site : Site) → Contains (implementation.ins ++ implementation.outs) (port, site) → kind_at fabric site ≡ Some kinds.Io
  pad_kind port site listed =
      elim (Contains-append_cases implementation.ins implementation.outs (port, site) listed) [
        | inl among ↦ in_kind port site among
        | inr among ↦ out_kind port site among
      ]

-- ---- wires of edges

module _ (fabric : PlainFabric) (implementation : PlainImplementation) (tree : PlainTree) (edge : Edge) (x y : ℕ) (tile : PlainTile) (plain : PlainWire)
    (listed : Contains implementation.trees tree) (among : Contains tree.edges edge) (there : tile_at fabric x y ≡ Some tile) where
  -- a wire from which an edge leads
  pub left_tree : IsIndexOf fabric edge.0.0 x y plain → IsTreeWire fabric implementation x y tile plain
  left_tree index = record {
    net = net_of implementation tree.net;
    wire = edge.0;
    stands = record {
      tree = tree;
      listed = listed;
      net_is = refl;
      has_wire = Contains-append_left (left_wires tree.edges) (entered_wires tree.edges) edge.0 (contains_map (λ (edge : Edge). edge.0) tree.edges edge among);
    };
    is_index = index;
    tile_is = there;
  }

  -- a wire that an edge enters
  pub entered_tree : IsIndexOf fabric edge.1.0 x y plain → IsTreeWire fabric implementation x y tile plain
  entered_tree index = record {
    net = net_of implementation tree.net;
    wire = edge.1;
    stands = record {
      tree = tree;
      listed = listed;
      net_is = refl;
      has_wire = Contains-append_right (left_wires tree.edges) (entered_wires tree.edges) edge.1 (contains_map (λ (edge : Edge). edge.1) tree.edges edge among);
    };
    is_index = index;
    tile_is = there;
  }

-- ---- lists

-- what stands in the first of two lists
pub get_front : {X : Type 0} (xs ys : List X) (k : ℕ) (x : X) → slice_get xs k ≡ Some x → slice_get (xs ++ ys) k ≡ Some x
get_front [] ys k x is = cc
get_front (first ∷ xs) ys zero x is = is
get_front (first ∷ xs) ys (suc k) x is = get_front xs ys k x is
