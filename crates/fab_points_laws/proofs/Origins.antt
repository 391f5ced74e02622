-- From what each wire of a tree comes: an edge enters it, or its net begins there.
use Rattle.std.proofs.Common.{◌≡◌, ℕ, ◌<◌, Bool, true, false, not, List, [], length, get_or, refl, sym, ap, ◌∙◌, subst, inl, inr, arith, Option, Some, None, slice_get, Contains}
use Rattle.std.specs.Option.{option_map_or}
use Rattle.std.proofs.lemmas.Bool.{false≢true}
use Rattle.std.proofs.lemmas.List.{get_or_default}
use Rattle.std.proofs.lemmas.List.Elements.{All-contains, All-weaker, Contains-append_cases}
use Rattle.fab_kinds.specs.declared.kind.Kind.{Kind}
use Rattle.fab_kinds.specs.declared.kind.Kind.TheVariants as kinds
use Rattle.fab_kinds.specs.Pins.{pin_names}
use Rattle.fab_model.specs.declared.tiles.WireRow.{WireRow}
use Rattle.fab_model.specs.Rows.{is_jump, is_named, source_bits, dest_bits}
use Rattle.fab_model.specs.Tiles.{PlainTile, is_matrix_output, IsPair, IsTile}
use Rattle.fab_model.specs.Wires.{PlainWire, source_of, dest_of, pin_of, wire_of, pin_count, HasWire, IsMatrixOutput}
use Rattle.fab_model.specs.Grid.{PlainFabric, tile_at, AreRows, AllRows}
use Rattle.fab_model.specs.Joins.{RowPlace, Stands}
use Rattle.fab_model.specs.Cascade.{join_to, join_from, IsSourceBit, IsDestBit}
use Rattle.fab_model.proofs.Steps.{map_gives}
use Rattle.fab_model.proofs.Found.{join_to_joins, joins_dest, to_and_from}
use Rattle.fab_fabric.specs.Fabric.{AreTiles}
use Rattle.fab_fabric.specs.Wires.{IsIndexOf, row_place, dest_wire, wire_join_to}
use Rattle.fab_fabric.specs.declared.wire.Site.{Site}
use Rattle.fab_fabric.specs.declared.wire.Wire.{Wire}
use Rattle.fab_fabric.proofs.Numbered.{one_wire, wire_with_number}
use Rattle.fab_netlist.specs.Packed.{PlainCell, PlainPacked}
use Rattle.fab_use_defs.specs.fab_implementation_Plain.{Edge, Pad, PlainTree, PlainImplementation}
use Rattle.fab_use_defs.specs.fab_implementation_OnFabric.{kind_at}
use Rattle.fab_use_defs.specs.fab_legal_Lines.{IsCell, IsInput}
use Rattle.fab_use_defs.specs.fab_legal_Nets.{Net, zero_net, one_net, port_net, cell_net, net_of, IsRoot, left_wires, entered_wires}
use Rattle.fab_use_defs.specs.fab_legal_Steps.{IsStep, IsPaired, IsJoined, IsConstant, pin_wire}
use Rattle.fab_use_defs.specs.fab_legal_Legal.{IsLegal}
use Rattle.fab_use_defs.proofs.fab_legal_Members.{from_mapped}
use Rattle.fab_use_defs.proofs.fab_legal_Once.{known_thing}
use Rattle.fab_use_defs.proofs.fab_drives_laws_Modules.{tile_of_types}
use Rattle.fab_use_defs.specs.Design.{IsTreeWire, IsBound}
use Rattle.fab_points_laws.proofs.Places.{one_tile, passing_plain, site_tile, site_bel, line_kind}

-- ---- small facts

-- what has a count above a number is there
pub counted_there : {X : Type 0} (count : X → ℕ) (found : Option X) (k : ℕ) → k < option_map_or count found 0 → (x : X) × (found ≡ Some x) × (k < count x)
counted_there count None k few = absurd (omega (arith, few))
counted_there count (Some x) k few = (x, refl, few)

not_both : {X : Type 0} (test : X → Bool) (o : Option X) → option_map_or (λ x. not (test x)) o false ≡ true → option_map_or test o false ≡ true → ⊥
not_both test None fails passes = false≢true fails
not_both test (Some x) fails passes = (let f : not true ≡ true = subst (λ b. not b ≡ true) passes fails in false≢true f)

-- ---- origins

-- an edge that enters a wire is a pair of its tile,
pub record OfPair (fabric : PlainFabric) (x y : ℕ) (tile : PlainTile) (plain : PlainWire) (edge : Edge) : Type 0 where
  pub input : PlainWire
  pub from : IsIndexOf fabric edge.0.0 x y input
  pub output : IsMatrixOutput tile plain
  pub no_output : IsMatrixOutput tile input → ⊥

-- or a join
pub record OfJoin (fabric : PlainFabric) (x y : ℕ) (plain : PlainWire) (edge : Edge) : Type 0 where
  pub row : ℕ
  pub bit : ℕ
  pub from_x : ℕ
  pub from_y : ℕ
  pub from_row : ℕ
  pub source : ℕ
  pub plain_is : plain ≡ dest_of row bit
  pub from : IsIndexOf fabric edge.0.0 from_x from_y (source_of from_row source)
  pub joined : join_from fabric (row_place x y row) bit ≡ Some (row_place from_x from_y from_row, source)

pub record ByPair (fabric : PlainFabric) (implementation : PlainImplementation) (x y : ℕ) (tile : PlainTile) (plain : PlainWire) : Type 0 where
  pub tree : PlainTree
  pub edge : Edge
  pub listed : Contains implementation.trees tree
  pub among : Contains tree.edges edge
  pub to : IsIndexOf fabric edge.1.0 x y plain
  pub pair : OfPair fabric x y tile plain edge

pub record ByJoin (fabric : PlainFabric) (implementation : PlainImplementation) (x y : ℕ) (plain : PlainWire) : Type 0 where
  pub tree : PlainTree
  pub edge : Edge
  pub listed : Contains implementation.trees tree
  pub among : Contains tree.edges edge
  pub join : OfJoin fabric x y plain edge

pub record ByConstant (tile : PlainTile) (plain : PlainWire) : Type 0 where
  pub row : ℕ
  pub bit : ℕ
  pub found : WireRow
  pub plain_is : plain ≡ dest_of row bit
  pub there : slice_get tile.rows row ≡ Some found
  pub jumps : is_jump found.dir ≡ true
  pub unsourced : is_named found.source ≡ false

pub record ByCell (packed : PlainPacked) (implementation : PlainImplementation) (x y : ℕ) (plain : PlainWire) : Type 0 where
  pub number : ℕ
  pub site : Site
  pub cell : PlainCell
  pub bound : IsBound packed implementation number site cell
  pub x_is : x ≡ site.x
  pub y_is : y ≡ site.y
  pub plain_is : plain ≡ pin_of site.bel 7

pub record ByPort (implementation : PlainImplementation) (x y : ℕ) (plain : PlainWire) : Type 0 where
  pub port : List ℕ
  pub site : Site
  pub listed : Contains implementation.ins (port, site)
  pub x_is : x ≡ site.x
  pub y_is : y ≡ site.y
  pub plain_is : plain ≡ pin_of site.bel 2

pub data Origin (fabric : PlainFabric) (packed : PlainPacked) (implementation : PlainImplementation) (x y : ℕ) (tile : PlainTile) (plain : PlainWire) : Type 0 where
  by_pair : ByPair fabric implementation x y tile plain → Origin fabric packed implementation x y tile plain
  by_join : ByJoin fabric implementation x y plain → Origin fabric packed implementation x y tile plain
  by_constant : ByConstant tile plain → Origin fabric packed implementation x y tile plain
  by_cell : ByCell packed implementation x y plain → Origin fabric packed implementation x y tile plain
  by_port : ByPort implementation x y plain → Origin fabric packed implementation x y tile plain

-- a wire that is joined to another is a source bit
joins_on : (fabric : PlainFabric) (x y : ℕ) (plain : PlainWire) (to : Wire) → wire_join_to fabric x y plain ≡ Some to →
    (row : ℕ) × (source : ℕ) × (found : RowPlace × ℕ) × (plain ≡ source_of row source) × (join_to fabric (row_place x y row) source ≡ Some found) × (dest_wire fabric found ≡ to)
joins_on fabric x y (source_of row bit) to is =
    let found = map_gives (dest_wire fabric) (join_to fabric (row_place x y row) bit) to is in
    (row, bit, found.0, refl, found.1, found.2)
joins_on fabric x y (dest_of row bit) to is = cc
joins_on fabric x y (pin_of bel pin) to is = cc

module _ (fabric : PlainFabric) (packed : PlainPacked) (fixed : List Pad) (implementation : PlainImplementation) (are : AreTiles fabric) (legal : IsLegal fabric packed fixed implementation) where
  rows_are : AreRows fabric
  rows_are = All-weaker IsTile AllRows (λ tile is. is.rows) fabric.types are

  abbrev Comes : (x y : ℕ) → PlainTile → PlainWire → Type 0
  Comes x y tile plain = Origin fabric packed implementation x y tile plain

  module _ (x y : ℕ) (tile : PlainTile) (plain : PlainWire) (there : tile_at fabric x y ≡ Some tile) where
    -- ---- edges

    module _ (edge : Edge) (index : IsIndexOf fabric edge.1.0 x y plain) where
      pub of_pair : IsPaired fabric edge.0 edge.1 → OfPair fabric x y tile plain edge
      of_pair p =
          let is_tile : IsTile p.tile = All-contains IsTile fabric.types p.tile are (tile_of_types fabric p.x p.y p.tile p.tile_is) in
          let is_pair : IsPair p.tile p.pair = All-contains (IsPair p.tile) p.tile.pairs p.pair is_tile.pairs p.listed in
          let out = passing_plain is_matrix_output p.tile p.pair.output is_pair.output in
          let inn = passing_plain (λ wire. not (is_matrix_output wire)) p.tile p.pair.input is_pair.input in
          let to : IsIndexOf fabric edge.1.0 p.x p.y out.0 =
          subst (λ (w : Wire). IsIndexOf fabric w.0 p.x p.y out.0) (sym p.to_is) (wire_with_number fabric p.x p.y p.pair.output p.tile out.0 p.tile_is out.1) in
          let from : IsIndexOf fabric edge.0.0 p.x p.y inn.0 =
          subst (λ (w : Wire). IsIndexOf fabric w.0 p.x p.y inn.0) (sym p.from_is) (wire_with_number fabric p.x p.y p.pair.input p.tile inn.0 p.tile_is inn.1) in
          let g = one_wire fabric edge.1.0 p.x p.y x y out.0 plain to index in
          let same_tile : p.tile ≡ tile = one_tile fabric x y p.tile tile ((λ j. tile_at fabric (sym g.0 j) (sym g.1 j)) ∙ p.tile_is) there in
          let made : OfPair fabric p.x p.y p.tile out.0 edge =
          record { input = inn.0; from = from; output = out.2; no_output = not_both is_matrix_output (wire_of p.tile inn.0) inn.2 } in
          subst (λ T. T) (λ j. OfPair fabric (g.0 j) (g.1 j) (same_tile j) (g.2 j) edge) made

      pub of_join : IsJoined fabric edge.0 edge.1 → OfJoin fabric x y plain edge
      of_join p =
          let j = joins_on fabric p.x p.y p.plain edge.1 p.joined in
          let row = j.0 in
          let source = j.1 in
          let found = j.2 in
          let from : IsIndexOf fabric edge.0.0 p.x p.y (source_of row source) = subst (λ w. IsIndexOf fabric edge.0.0 p.x p.y w) j.3 p.from_is in
          let at = counted_there source_bits (slice_get from.is_wire.tile.rows row) source from.is_wire.is_wire in
          let stands : Stands fabric (row_place p.x p.y row) from.is_wire.tile at.0 = record { tile_is = from.is_wire.tile_is; row_is = at.1 } in
          let joins = join_to_joins fabric (row_place p.x p.y row) found.0 source found.1 from.is_wire.tile at.0 stands at.2 j.4 in
          let dest : IsDestBit fabric found.0 found.1 = joins_dest fabric rows_are (row_place p.x p.y row) found.0 source found.1 joins in
          let bit_there : HasWire fabric found.0.x found.0.y (dest_of found.0.row found.1) = record {
            tile = dest.tile;
            tile_is = dest.stands.tile_is;
            is_wire = subst (λ o. found.1 < option_map_or dest_bits o 0) (sym dest.stands.row_is) dest.is_bit;
          } in
          let to : IsIndexOf fabric edge.1.0 found.0.x found.0.y (dest_of found.0.row found.1) = record { is_wire = bit_there; is_index = ap (λ (w : Wire). w.0) (sym j.5) } in
          let g = one_wire fabric edge.1.0 x y found.0.x found.0.y plain (dest_of found.0.row found.1) index to in
          let source_bit : IsSourceBit fabric (row_place p.x p.y row) source = record { tile = from.is_wire.tile; row = at.0; stands = stands; is_bit = at.2 } in
          let back = to_and_from fabric (row_place p.x p.y row) found.0 source found.1 rows_are source_bit j.4 in
          let place : row_place x y found.0.row ≡ found.0 = λ k. row_place (g.0 k) (g.1 k) found.0.row in
          record {
            row = found.0.row;
            bit = found.1;
            from_x = p.x;
            from_y = p.y;
            from_row = row;
            source = source;
            plain_is = g.2;
            from = from;
            joined = ap (λ place. join_from fabric place found.1) place ∙ back;
          }

    module _ (tree : PlainTree) (edge : Edge) (listed : Contains implementation.trees tree) (among : Contains tree.edges edge) (index : IsIndexOf fabric edge.1.0 x y plain) where
      pub edge_step : IsStep fabric edge.0 edge.1
      edge_step = legal.steps listed.0 tree listed.1 (listed.1, listed.2) among.0 edge among.1 (among.1, among.2)

      edge_origin : Comes x y tile plain
      edge_origin =
          elim edge_step [
            | inl p ↦ by_pair (record { tree = tree; edge = edge; listed = listed; among = among; to = index; pair = of_pair edge index p })
            | inr p ↦ by_join (record { tree = tree; edge = edge; listed = listed; among = among; join = of_join edge index p })
          ]

    -- ---- roots

    constant_origin : (wire : Wire) (value : _) → IsIndexOf fabric wire.0 x y plain → IsConstant fabric value wire → Comes x y tile plain
    constant_origin wire value index c =
        let g = one_wire fabric wire.0 x y c.x c.y plain (dest_of c.row c.bit) index c.wire_is in
        let same_tile : c.tile ≡ tile = one_tile fabric x y c.tile tile ((λ j. tile_at fabric (g.0 j) (g.1 j)) ∙ c.stands.tile_is) there in
        by_constant (record {
          row = c.row;
          bit = c.bit;
          found = c.found;
          plain_is = g.2;
          there = subst (λ tile. slice_get tile.rows c.row ≡ Some c.found) same_tile c.stands.row_is;
          jumps = c.jumps;
          unsourced = c.unsourced;
        })

    -- the wire of a pin of a site
    pub pin_index : (wire : Wire) (site : Site) (kind : Kind) (pin : ℕ) → wire ≡ pin_wire fabric site pin → kind_at fabric site ≡ Some kind → pin < length (pin_names kind) →
        IsIndexOf fabric wire.0 site.x site.y (pin_of site.bel pin)
    pin_index wire site kind pin is kind_is few =
        let at = site_tile fabric site kind kind_is in
        let bel = site_bel fabric site kind at.0 kind_is at.1 in
        let enough : pin < length (pin_names bel.found.kind) = subst (λ k. pin < length (pin_names k)) (sym bel.kind_is) few in
        record {
          is_wire = record { tile = at.0; tile_is = at.1; is_wire = subst (λ o. pin < option_map_or pin_count o 0) (sym bel.there) enough };
          is_index = ap (λ (w : Wire). w.0) is;
        }

    root_origin : (net : Net) (wire : Wire) → IsIndexOf fabric wire.0 x y plain → IsRoot fabric implementation net wire → Comes x y tile plain
    root_origin zero_net wire index root = constant_origin wire _ index root
    root_origin one_net wire index root = constant_origin wire _ index root
    root_origin (port_net port) wire index root =
        let kind_is = line_kind fabric kinds.Io (IsInput packed) implementation.ins (port, root.site) legal.placed.ports.ins.lines_right root.listed in
        let g = one_wire fabric wire.0 x y root.site.x root.site.y plain (pin_of root.site.bel 2) index (pin_index wire root.site kinds.Io 2 root.wire_is kind_is (omega arith)) in
        by_port (record { port = port; site = root.site; listed = root.listed; x_is = g.0; y_is = g.1; plain_is = g.2 })
    root_origin (cell_net number) wire index root =
        let kind_is = line_kind fabric kinds.Lut4c (IsCell packed) implementation.cells (number, root.site) legal.placed.cells.lines_right root.listed in
        let g = one_wire fabric wire.0 x y root.site.x root.site.y plain (pin_of root.site.bel 7) index (pin_index wire root.site kinds.Lut4c 7 root.wire_is kind_is (omega arith)) in
        let few : number < length packed.cells = known_thing (IsCell packed) fabric kinds.Lut4c implementation.cells (number, root.site) legal.placed.cells.lines_right root.listed in
        let cell = get_or packed.cells number (record { table = 0; inputs = []; latch = None }) in
        by_cell (record {
          number = number;
          site = root.site;
          cell = cell;
          bound = record { listed = root.listed; cell_is = (few, get_or_default packed.cells number cell (record { table = 0; inputs = []; latch = None }) few) };
          x_is = g.0;
          y_is = g.1;
          plain_is = g.2;
        })

    -- ---- both

    entered_origin : (tree : PlainTree) (wire : Wire) → Contains implementation.trees tree → Contains (entered_wires tree.edges) wire → IsIndexOf fabric wire.0 x y plain → Comes x y tile plain
    entered_origin tree wire listed entered index =
        let e = from_mapped (λ (edge : Edge). edge.1) tree.edges wire entered in
        edge_origin tree e.0 listed e.1 (subst (λ (w : Wire). IsIndexOf fabric w.0 x y plain) (sym e.2) index)

    pub origin : IsTreeWire fabric implementation x y tile plain → Comes x y tile plain
    origin tree_wire =
        let tree = tree_wire.stands.tree in
        let listed = tree_wire.stands.listed in
        let wire = tree_wire.wire in
        elim (Contains-append_cases (left_wires tree.edges) (entered_wires tree.edges) wire tree_wire.stands.has_wire) [
          | inl left ↦ (
              let e = from_mapped (λ (edge : Edge). edge.0) tree.edges wire left in
              let index : IsIndexOf fabric e.0.0.0 x y plain = subst (λ (w : Wire). IsIndexOf fabric w.0 x y plain) (sym e.2) tree_wire.is_index in
              let start = (legal.nets listed.0 tree listed.1 (listed.1, listed.2)).starts e.1.0 e.0 e.1.1 (e.1.1, e.1.2) in
              elim start [
                | inl entered ↦ entered_origin tree e.0.0 listed entered index
                | inr root ↦ root_origin (net_of implementation tree.net) e.0.0 index root
              ])
          | inr entered ↦ entered_origin tree wire listed entered tree_wire.is_index
        ]
