-- What is so where each net begins is so on all its wires.
use Rattle.std.proofs.Common.{◌≡◌, ◌<◌, ℕ, Bool, true, false, List, [], codes, length, get_or, bytes_eq, refl, sym, ◌∙◌, subst, arith, inl, inr, Option, Some, None, slice_get, Contains}
use Rattle.std.proofs.lemmas.Bool.{cases_Bool}
use Rattle.std.proofs.lemmas.List.{get_or_default}
use Rattle.fab_kinds.specs.declared.kind.Kind.{Kind}
use Rattle.fab_kinds.specs.declared.kind.Kind.TheVariants as kinds
use Rattle.fab_kinds.specs.Pins.{pin_names}
use Rattle.fab_meaning.specs.Points.{Point}
use Rattle.fab_model.specs.Tiles.{PlainTile}
use Rattle.fab_model.specs.Wires.{dest_of, pin_of}
use Rattle.fab_model.specs.Grid.{PlainFabric, tile_at}
use Rattle.fab_model.specs.Drive.{PlainDrive, zero_bit, one_bit, constant}
use Rattle.fab_fabric.specs.Fabric.{AreTiles}
use Rattle.fab_fabric.specs.Wires.{IsIndexOf}
use Rattle.fab_fabric.specs.declared.wire.Site.{Site}
use Rattle.fab_fabric.specs.declared.wire.Wire.{Wire}
use Rattle.fab_fabric.proofs.Numbered.{one_wire}
use Rattle.fab_netlist.specs.Packed.{PlainCell, PlainPacked}
use Rattle.fab_implementation.specs.Plain.{Pad, PlainImplementation}
use Rattle.fab_implementation.specs.OnFabric.{kind_at}
use Rattle.fab_points_laws.specs.fab_legal_Lines.{IsCell}
use Rattle.fab_points_laws.specs.fab_legal_Nets.{Net, zero_net, one_net, port_net, cell_net, IsRoot, StandsIn}
use Rattle.fab_points_laws.specs.fab_legal_Sinks.{Required}
use Rattle.fab_points_laws.specs.fab_legal_Steps.{IsConstant, pin_wire}
use Rattle.fab_points_laws.specs.fab_legal_Legal.{IsLegal}
use Rattle.fab_points_laws.proofs.fab_legal_Once.{known_thing}
use Rattle.fab_points_laws.specs.fab_gen_tile_Borders.{fixed_bit}
use Rattle.fab_points_laws.specs.fab_drives_laws_Points.{place_path}
use Rattle.fab_points_laws.specs.fab_tile_drives_laws_Stands.{wire_point}
use Rattle.fab_points_laws.specs.fab_use_defs_Sites.{bel_point, pin_point}
use Rattle.fab_points_laws.specs.fab_use_defs_Design.{IsTreeWire, IsBound}
use Rattle.fab_points_laws.specs.fab_use_defs_Sources as sources
use Rattle.fab_points_laws.specs.fab_use_defs_Sources.{always, shows, HasSource}
use Rattle.fab_points_laws.proofs.Places.{one_tile, cell_kind, in_kind}
use Rattle.fab_points_laws.proofs.Origins.{pin_index}
use Rattle.fab_runs_laws.proofs.Edges.{HasIt}
use Rattle.fab_runs_laws.proofs.Trees.{all_have, pin_has}

pub zero_is : (dest : Option (List ℕ)) → constant dest ≡ zero_bit → fixed_bit dest ≡ false
zero_is None is = refl
zero_is (Some name) is = elim (cases_Bool (bytes_eq name (codes "VCC"))) [ inl vcc ↦ (let e : one_bit ≡ zero_bit = rw vcc at is in cc) | inr other ↦ other ]

one_is : (dest : Option (List ℕ)) → constant dest ≡ one_bit → fixed_bit dest ≡ true
one_is None is = cc
one_is (Some name) is = elim (cases_Bool (bytes_eq name (codes "VCC"))) [ inl vcc ↦ vcc | inr other ↦ (let e : zero_bit ≡ one_bit = rw other at is in cc) ]

module _ (fabric : PlainFabric) (packed : PlainPacked) (fixed_pads : List Pad) (implementation : PlainImplementation) (are : AreTiles fabric) (legal : IsLegal fabric packed fixed_pads implementation) where
  -- a line of a cell binds it
  pub bound_cell : (number : ℕ) (site : Site) → Contains implementation.cells (number, site) → (cell : PlainCell) × IsBound packed implementation number site cell
  bound_cell number site listed =
      let few : number < length packed.cells = known_thing (IsCell packed) fabric kinds.Lut4c implementation.cells (number, site) legal.placed.cells.lines_right listed in
      let d : PlainCell = record { table = 0; inputs = []; latch = None } in
      let cell = get_or packed.cells number d in
      (cell, record { listed = listed; cell_is = (few, get_or_default packed.cells number cell d few) })

  module _ (Q : Point → Type 0) (along : (p q : Point) → HasSource fabric packed implementation p (shows q) → Q q → Q p) where
    -- what is so at the beginning of a net
    abbrev pub Begins : Net → Type 0
    Begins zero_net = (p : Point) → HasSource fabric packed implementation p (always false) → Q p
    Begins one_net = (p : Point) → HasSource fabric packed implementation p (always true) → Q p
    Begins (port_net port) = (site : Site) → Contains implementation.ins (port, site) → Q (bel_point site (codes "O"))
    Begins (cell_net number) = (site : Site) → Contains implementation.cells (number, site) → Q (bel_point site (codes "O"))

    constant_begins : (net : Net) (value : PlainDrive) (bit : Bool) → ((dest : Option (List ℕ)) → constant dest ≡ value → fixed_bit dest ≡ bit) →
        ((p : Point) → HasSource fabric packed implementation p (always bit) → Q p) →
        (wire : Wire) → StandsIn implementation net wire → IsConstant fabric value wire → HasIt fabric Q wire
    constant_begins net value bit tells so wire stands c x y tile plain index there =
        let g = one_wire fabric wire.0 x y c.x c.y plain (dest_of c.row c.bit) index c.wire_is in
        let same_tile : c.tile ≡ tile = one_tile fabric x y c.tile tile ((λ j. tile_at fabric (g.0 j) (g.1 j)) ∙ c.stands.tile_is) there in
        let row_there : slice_get tile.rows c.row ≡ Some c.found = subst (λ tile. slice_get tile.rows c.row ≡ Some c.found) same_tile c.stands.row_is in
        let tree : IsTreeWire fabric implementation x y tile (dest_of c.row c.bit) =
        record { net = net; wire = wire; stands = stands; is_index = subst (λ w. IsIndexOf fabric wire.0 x y w) g.2 index; tile_is = there } in
        let source : HasSource fabric packed implementation (wire_point (place_path x y) tile (dest_of c.row c.bit)) (always (fixed_bit c.found.dest)) =
        sources.constant_bit tree row_there c.jumps c.unsourced in
        subst (λ w. Q (wire_point (place_path x y) tile w)) (sym g.2)
        (so (wire_point (place_path x y) tile (dest_of c.row c.bit))
        (subst (λ b. HasSource fabric packed implementation (wire_point (place_path x y) tile (dest_of c.row c.bit)) (always b)) (tells c.found.dest c.value_is) source))

    -- an output pin that stands in a net
    pin_begins : (net : Net) (wire : Wire) (site : Site) (kind : Kind) (pin : ℕ) → StandsIn implementation net wire → wire ≡ pin_wire fabric site pin → kind_at fabric site ≡ Some kind → pin < length (pin_names kind) →
        ((tile : PlainTile) → IsTreeWire fabric implementation site.x site.y tile (pin_of site.bel pin) → HasSource fabric packed implementation (pin_point tile site pin) (shows (bel_point site (codes "O")))) →
        Q (bel_point site (codes "O")) → HasIt fabric Q wire
    pin_begins net wire site kind pin stands wire_is kind_is few source so x y tile plain index there =
        let at : IsIndexOf fabric wire.0 site.x site.y (pin_of site.bel pin) =
        pin_index fabric packed fixed_pads implementation are legal x y tile plain there wire site kind pin wire_is kind_is few in
        let g = one_wire fabric wire.0 x y site.x site.y plain (pin_of site.bel pin) index at in
        let there_too : tile_at fabric site.x site.y ≡ Some tile = (λ j. tile_at fabric (sym g.0 j) (sym g.1 j)) ∙ there in
        let tree : IsTreeWire fabric implementation site.x site.y tile (pin_of site.bel pin) = record { net = net; wire = wire; stands = stands; is_index = at; tile_is = there_too } in
        subst Q (λ j. wire_point (place_path (sym g.0 j) (sym g.1 j)) tile (sym g.2 j))
        (along (pin_point tile site pin) (bel_point site (codes "O")) (source tile tree) so)

    root_has : (net : Net) → Begins net → (wire : Wire) → StandsIn implementation net wire → IsRoot fabric implementation net wire → HasIt fabric Q wire
    root_has zero_net so wire stands is = constant_begins zero_net zero_bit false zero_is so wire stands is
    root_has one_net so wire stands is = constant_begins one_net one_bit true one_is so wire stands is
    root_has (port_net port) so wire stands is =
        pin_begins (port_net port) wire is.site kinds.Io 2 stands is.wire_is (in_kind fabric packed fixed_pads implementation legal port is.site is.listed) (omega arith) (λ tile tree. sources.pad_wire is.listed tree.tile_is) (so is.site is.listed)
    root_has (cell_net number) so wire stands is =
        let bound = bound_cell number is.site is.listed in
        pin_begins (cell_net number) wire is.site kinds.Lut4c 7 stands is.wire_is (cell_kind fabric packed fixed_pads implementation legal number is.site bound.0 bound.1) (omega arith) (λ tile tree. sources.cell_wire bound.1 tree) (so is.site is.listed)

    pub net_has : (net : Net) → Begins net → (wire : Wire) → StandsIn implementation net wire → HasIt fabric Q wire
    net_has net so = all_have fabric packed fixed_pads implementation are legal Q along net (root_has net so)

    pub required_has : (net : Net) → Begins net → (site : Site) (kind : Kind) (pin : ℕ) (tile : PlainTile) → Required fabric packed implementation net (pin_wire fabric site pin) → kind_at fabric site ≡ Some kind →
        pin < length (pin_names kind) → tile_at fabric site.x site.y ≡ Some tile → Q (pin_point tile site pin)
    required_has net so = pin_has fabric packed fixed_pads implementation are legal Q along net (root_has net so)
