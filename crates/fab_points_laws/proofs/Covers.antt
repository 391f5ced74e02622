-- Each route, cell and pad point has a source.
use Rattle.std.proofs.Common.{◌≡◌, ℕ, zero, suc, ◌+◌, ◌-◌, ◌<◌, true, false, List, [], ◌∷◌, codes, length, take, refl, sym, ap, ◌∙◌, subst, inl, inr, arith, Option, Some, None, is_some, option_map, option_and_then, slice_get, nat_lt, Contains, if◌then◌else◌}
use Rattle.std.specs.Option.{option_map_or}
use Rattle.std.proofs.lemmas.Bool.{cases_Bool, cases_lt, false≢true}
use Rattle.std.proofs.lemmas.List.Elements.{All-contains, Contains-append_cases}
use Rattle.fab_kinds.specs.declared.kind.Kind.{Kind}
use Rattle.fab_kinds.specs.declared.kind.Kind.TheVariants as kinds
use Rattle.fab_kinds.specs.Pins.{input_names, pin_names, input_count}
use Rattle.fab_meaning.specs.Points.{Point, point}
use Rattle.fab_meaning.proofs.Modules.{each_all}
use Rattle.fab_model.specs.declared.tiles.WireRow.{WireRow}
use Rattle.fab_model.specs.declared.tiles.Bel.{Bel}
use Rattle.fab_model.specs.Rows.{is_jump, is_named, dest_bits, border_bits}
use Rattle.fab_model.specs.Tiles.{PlainTile, dest_bit, bel_pin, is_matrix_output}
use Rattle.fab_model.specs.Wires.{PlainWire, dest_of, pin_of, wire_of, IsMatrixOutput}
use Rattle.fab_model.specs.Grid.{PlainFabric, tile_at}
use Rattle.fab_model.specs.Joins.{RowPlace}
use Rattle.fab_model.specs.Cascade.{PlacedRow, placed_row, previous_row, passing_bits, walk_from, row_join_from, join_from}
use Rattle.fab_model.proofs.Crossings.{placed, standing_is_placed}
use Rattle.fab_fabric.specs.Fabric.{AreTiles}
use Rattle.fab_fabric.specs.Wires.{row_place}
use Rattle.fab_fabric.specs.declared.wire.Site.{Site}
use Rattle.fab_netlist.specs.Packed.{PlainCell, PlainPacked}
use Rattle.fab_use_defs.specs.fab_implementation_Plain.{Pad, PlainImplementation}
use Rattle.fab_use_defs.specs.fab_implementation_OnFabric.{kind_at}
use Rattle.fab_use_defs.specs.fab_legal_Nets.{Net, zero_net, one_net}
use Rattle.fab_use_defs.specs.fab_legal_Sinks.{Required, input_released, output_driven}
use Rattle.fab_use_defs.specs.fab_legal_Steps.{pin_wire}
use Rattle.fab_use_defs.specs.fab_legal_Legal.{IsLegal}
use Rattle.fab_use_defs.specs.fab_gen_tile_TileModule.{matrix_output_names}
use Rattle.fab_use_defs.specs.fab_tile_drives_laws_Stands.{matrix_path, name_of, wire_point}
use Rattle.fab_use_defs.specs.fab_drives_laws_Points.{place_path, IsOnWay, end_bit, wire_between, begin_bit, before}
use Rattle.fab_use_defs.specs.Design as design
use Rattle.fab_use_defs.specs.Sites.{bel_point}
use Rattle.fab_use_defs.specs.Design.{IsTreeWire, IsRoutePoint, IsBound, required_pins, IsCellPoint, input_pad, output_pad, IsPadPoint}
use Rattle.fab_use_defs.specs.Ways as ways
use Rattle.fab_use_defs.specs.Sources as sources
use Rattle.fab_use_defs.specs.Sources.{Source, HasSource}
use Rattle.fab_use_defs.specs.Ways.{Passes, IsTreeWay, end_port}
use Rattle.fab_points_laws.proofs.Places.{tree_wire, placed_there, site_tile, site_bel, cell_kind, in_kind, out_kind}
use Rattle.fab_points_laws.proofs.Ways.{walk_on}
use Rattle.fab_points_laws.proofs.Origins.{ByPair, ByJoin, Origin, by_pair, by_join, by_constant, by_cell, by_port, origin, pin_index, counted_there}

-- ---- what is no matrix output

no_dest : (o : Option WireRow) (bit : ℕ) → option_map_or is_matrix_output (option_map (λ found. dest_bit found bit) o) false ≡ false
no_dest None bit = refl
no_dest (Some found) bit = refl

pub dest_no_output : (tile : PlainTile) (row bit : ℕ) → IsMatrixOutput tile (dest_of row bit) → ⊥
dest_no_output tile row bit is = false≢true (sym (no_dest (slice_get tile.rows row) bit) ∙ is)

pub pin_no_output : (tile : PlainTile) (bel pin : ℕ) (found : Bel) → slice_get tile.bels bel ≡ Some found → nat_lt pin (input_count found.kind) ≡ false → IsMatrixOutput tile (pin_of bel pin) → ⊥
pin_no_output tile bel pin found there past is =
    false≢true (sym past ∙ sym (ap (λ o. option_map_or is_matrix_output (option_map (λ found. bel_pin found pin) o) false) there) ∙ is)

-- ---- what is taken from a list

pub from_take : {X : Type 0} (n : ℕ) (xs : List X) (x : X) → Contains (take n xs) x → (k : ℕ) × (k < n) × (slice_get xs k ≡ Some x)
from_take zero xs x (k, within, is) = absurd (omega (arith, within))
from_take (suc n) [] x (k, within, is) = absurd (omega (arith, within))
from_take (suc n) (first ∷ xs) x (zero, within, is) = (0, omega arith, ap Some is)
from_take (suc n) (first ∷ xs) x (suc k, within, is) =
    let rest = from_take n xs x (k, omega (arith, within), is) in
    let few = rest.1 in
    (suc rest.0, omega (arith, few), rest.2)

-- ---- ways

pub way_through : (fabric : PlainFabric) (here : PlacedRow) (bit : ℕ) (at : PlacedRow) (n : ℕ) (p : Point) → Passes fabric here bit at n → IsOnWay fabric at n p → IsOnWay fabric here bit p
way_through fabric here bit last k p ways.ends way = way
way_through fabric here bit last k p (ways.came {at} {previous} {at_bit} passes is few) way = way_through fabric here bit at at_bit p passes (before is few way)

module _ (fabric : PlainFabric) (packed : PlainPacked) (fixed : List Pad) (implementation : PlainImplementation) (are : AreTiles fabric) (legal : IsLegal fabric packed fixed implementation) where
  abbrev Sourced : Point → Type 0
  Sourced p = (s : Source) × HasSource fabric packed implementation p s

  abbrev Tree : (x y : ℕ) → PlainTile → PlainWire → Type 0
  Tree x y tile plain = IsTreeWire fabric implementation x y tile plain

  origin_of : (x y : ℕ) (tile : PlainTile) (plain : PlainWire) → Tree x y tile plain → Origin fabric packed implementation x y tile plain
  origin_of x y tile plain tree = origin fabric packed fixed implementation are legal x y tile plain tree.tile_is tree

  -- ---- wires of tiles

  dest_sourced : (x y row bit : ℕ) (tile : PlainTile) → Tree x y tile (dest_of row bit) → Sourced (wire_point (place_path x y) tile (dest_of row bit))
  dest_sourced x y row bit tile tree =
      let found = counted_there dest_bits (slice_get tile.rows row) bit (tree_wire fabric implementation x y tile (dest_of row bit) tree) in
      elim (cases_Bool (is_jump found.0.dir)) [
        | inl jumps ↦ elim (cases_Bool (is_named found.0.source)) [
          | inl named ↦ (_, sources.jump_bit tree found.1 jumps named)
          | inr bare ↦ (_, sources.constant_bit tree found.1 jumps bare)
        ]
        | inr no_jump ↦ (_, sources.end_bit tree (standing_is_placed fabric (placed (row_place x y row) tile found.0) (record { tile_is = tree.tile_is; row_is = found.1 })) no_jump)
      ]

  at_site : (x y : ℕ) (site : Site) (tile : PlainTile) → x ≡ site.x → y ≡ site.y → tile_at fabric x y ≡ Some tile → tile_at fabric site.x site.y ≡ Some tile
  at_site x y site tile x_is y_is there = (λ j. tile_at fabric (sym x_is j) (sym y_is j)) ∙ there

  by_origin : (x y : ℕ) (tile : PlainTile) (plain : PlainWire) → Tree x y tile plain → Origin fabric packed implementation x y tile plain → Sourced (wire_point (place_path x y) tile plain)
  by_origin x y tile plain tree (by_pair b) = (_, sources.of_output tree b.pair.output)
  by_origin x y tile plain tree (by_join b) =
      subst (λ w. Sourced (wire_point (place_path x y) tile w)) (sym b.join.plain_is)
      (dest_sourced x y b.join.row b.join.bit tile (subst (Tree x y tile) b.join.plain_is tree))
  by_origin x y tile plain tree (by_constant b) =
      subst (λ w. Sourced (wire_point (place_path x y) tile w)) (sym b.plain_is) (dest_sourced x y b.row b.bit tile (subst (Tree x y tile) b.plain_is tree))
  by_origin x y tile plain tree (by_cell c) =
      subst Sourced (λ j. wire_point (place_path (sym c.x_is j) (sym c.y_is j)) tile (sym c.plain_is j))
      (_, sources.cell_wire c.bound (subst (λ T. T) (λ j. Tree (c.x_is j) (c.y_is j) tile (c.plain_is j)) tree))
  by_origin x y tile plain tree (by_port c) =
      subst Sourced (λ j. wire_point (place_path (sym c.x_is j) (sym c.y_is j)) tile (sym c.plain_is j))
      (_, sources.pad_wire c.listed (at_site x y c.site tile c.x_is c.y_is tree.tile_is))

  pub tree_sourced : (x y : ℕ) (tile : PlainTile) (plain : PlainWire) → Tree x y tile plain → Sourced (wire_point (place_path x y) tile plain)
  tree_sourced x y tile plain tree = by_origin x y tile plain tree (origin_of x y tile plain tree)

  -- ---- ports of matrices

  -- a matrix output of a tree is entered by an edge
  pub by_edge : (x y : ℕ) (tile : PlainTile) (plain : PlainWire) → tile_at fabric x y ≡ Some tile → IsMatrixOutput tile plain → Origin fabric packed implementation x y tile plain → ByPair fabric implementation x y tile plain
  by_edge x y tile plain there output (by_pair b) = b
  by_edge x y tile plain there output (by_join b) = absurd (dest_no_output tile b.join.row b.join.bit (subst (IsMatrixOutput tile) b.join.plain_is output))
  by_edge x y tile plain there output (by_constant b) = absurd (dest_no_output tile b.row b.bit (subst (IsMatrixOutput tile) b.plain_is output))
  by_edge x y tile plain there output (by_cell c) =
      let bel = site_bel fabric c.site kinds.Lut4c tile (cell_kind fabric packed fixed implementation legal c.number c.site c.cell c.bound) (at_site x y c.site tile c.x_is c.y_is there) in
      absurd (pin_no_output tile c.site.bel 7 bel.found bel.there (ap (λ kind. nat_lt 7 (input_count kind)) bel.kind_is) (subst (IsMatrixOutput tile) c.plain_is output))
  by_edge x y tile plain there output (by_port c) =
      let bel = site_bel fabric c.site kinds.Io tile (in_kind fabric packed fixed implementation legal c.port c.site c.listed) (at_site x y c.site tile c.x_is c.y_is there) in
      absurd (pin_no_output tile c.site.bel 2 bel.found bel.there (ap (λ kind. nat_lt 2 (input_count kind)) bel.kind_is) (subst (IsMatrixOutput tile) c.plain_is output))

  port_sourced : (x y : ℕ) (tile : PlainTile) (plain : PlainWire) → Tree x y tile plain → 0 < length (matrix_output_names tile) → Sourced (point (matrix_path (place_path x y)) (name_of tile plain) 0)
  port_sourced x y tile plain tree some =
      elim (cases_Bool (option_map_or is_matrix_output (wire_of tile plain) false)) [
        | inl output ↦ (
            let b = by_edge x y tile plain tree.tile_is output (origin_of x y tile plain tree) in
            (_, sources.of_edge b.listed b.among tree.tile_is b.to output b.pair.from))
        | inr no_output ↦ (_, sources.of_input tree (λ output. false≢true (sym no_output ∙ output)) some)
      ]

  -- ---- ways

  -- a border bit that ends in a tree is joined to a source bit
  pub dest_join : (x y row bit : ℕ) (tile : PlainTile) (found : WireRow) → Tree x y tile (dest_of row bit) → slice_get tile.rows row ≡ Some found →
      (is_jump found.dir ≡ true → is_named found.source ≡ false → ⊥) → ByJoin fabric implementation x y (dest_of row bit)
  dest_join x y row bit tile found tree there no_constant = of (origin_of x y tile (dest_of row bit) tree)
    where
      same_row : (a b : ℕ) (n m : ℕ) → dest_of a n ≡ dest_of b m → a ≡ b
      same_row a b n m is = cc

      of : Origin fabric packed implementation x y tile (dest_of row bit) → ByJoin fabric implementation x y (dest_of row bit)
      of (by_pair b) = absurd (dest_no_output tile row bit b.pair.output)
      of (by_join b) = b
      of (by_constant b) =
          let same : b.found ≡ found = (
          let rows : row ≡ b.row = same_row row b.row bit b.bit b.plain_is in
          let e : Some b.found ≡ Some found = sym b.there ∙ ap (slice_get tile.rows) (sym rows) ∙ there in
          cc) in
          absurd (no_constant (ap (λ (r : WireRow). is_jump r.dir) (sym same) ∙ b.jumps) (ap (λ (r : WireRow). is_named r.source) (sym same) ∙ b.unsourced))
      of (by_cell c) = absurd (let e = c.plain_is in cc)
      of (by_port c) = absurd (let e = c.plain_is in cc)

  -- the source bit to which a walk back leads
  pub way_walk : (x y row bit : ℕ) (tile : PlainTile) (here : PlacedRow) → Tree x y tile (dest_of row bit) → placed_row fabric (row_place x y row) ≡ Some here → is_jump here.row.dir ≡ false →
      (b : ByJoin fabric implementation x y (dest_of row bit)) × (walk_from fabric (border_bits here.row) (previous_row fabric here) bit ≡ Some (row_place b.join.from_x b.join.from_y b.join.from_row, b.join.source))
  way_walk x y row bit tile here tree placed_is no_jump =
      let found = placed_there fabric x y row tile here tree.tile_is placed_is in
      let other : is_jump found.0.dir ≡ false = ap (λ (h : PlacedRow). is_jump h.row.dir) (sym found.2) ∙ no_jump in
      let b = dest_join x y row bit tile found.0 tree found.1 (λ jumps bare. false≢true (sym other ∙ jumps)) in
      let same : join_from fabric (row_place x y row) bit ≡ walk_from fabric (border_bits here.row) (previous_row fabric here) bit =
      ap (option_and_then (row_join_from fabric bit)) placed_is ∙ rw no_jump refl in
      let same_place : join_from fabric (row_place x y b.join.row) b.join.bit ≡ join_from fabric (row_place x y row) bit = (let e = b.join.plain_is in joined_same e) in
      (b, sym same ∙ sym same_place ∙ b.join.joined)
    where
      joined_same : {a c n m : ℕ} → dest_of a n ≡ dest_of c m → join_from fabric (row_place x y c) m ≡ join_from fabric (row_place x y a) n
      joined_same {a} {c} {n} {m} e = (let rows : a ≡ c = cc in let bits : n ≡ m = cc in λ j. join_from fabric (row_place x y (sym rows j)) (sym bits j))

  module _ (x y row bit : ℕ) (tile : PlainTile) (here : PlacedRow) (tree : Tree x y tile (dest_of row bit)) (placed_is : placed_row fabric (row_place x y row) ≡ Some here)
      (no_jump : is_jump here.row.dir ≡ false) where
    abbrev way : (at : PlacedRow) (n : ℕ) → Passes fabric here bit at n → IsTreeWay fabric implementation at n
    way at n passes = record { x = x; y = y; row = row; bit = bit; tile = tile; here = here; wire = tree; placed = placed_is; no_jump = no_jump; passes = passes }

    end_sourced : (fuel : ℕ) (at : PlacedRow) (n : ℕ) (found : RowPlace × ℕ) (previous : Option PlacedRow) → previous_row fabric at ≡ previous → Passes fabric here bit at n →
        walk_from fabric fuel previous n ≡ Some found → Sourced (end_port at n)
    end_sourced fuel at n found None is passes walk = cc
    end_sourced fuel at n found (Some previous) is passes walk = (_, sources.into (way at n passes) is)

    begin_sourced : (at previous : PlacedRow) (n : ℕ) → previous_row fabric at ≡ Some previous → Passes fabric here bit at n → Sourced (ways.begin_port previous n)
    begin_sourced at previous n is passes =
        elim (cases_lt n (passing_bits previous.row)) [
          | inl few ↦ (_, sources.passing_on (way at n passes) is few)
          | inr past ↦ (_, sources.beginning (n - passing_bits previous.row) (way at n passes) is (omega arith))
        ]

    on_way_sourced : (fuel : ℕ) (at : PlacedRow) (n : ℕ) (found : RowPlace × ℕ) (p : Point) → Passes fabric here bit at n →
        walk_from fabric fuel (previous_row fabric at) n ≡ Some found → IsOnWay fabric at n p → Sourced p
    on_way_sourced fuel at n found p passes walk end_bit = end_sourced fuel at n found (previous_row fabric at) refl passes walk
    on_way_sourced fuel at n found p passes walk (wire_between is) = (_, sources.across (way at n passes) is)
    on_way_sourced fuel at n found p passes walk (begin_bit {here} {previous} is) = begin_sourced at previous n is passes
    on_way_sourced fuel at n found p passes walk (before {here} {previous} is few rest) =
        let on = walk_on fabric fuel previous n found (ap (λ o. walk_from fabric fuel o n) (sym is) ∙ walk) few in
        on_way_sourced on.0 previous (n + previous.row.count) found p (ways.came passes is few) on.1 rest

    pub between_sourced : (p : Point) → IsOnWay fabric here bit p → Sourced p
    between_sourced p on_way =
        let w = way_walk x y row bit tile here tree placed_is no_jump in
        on_way_sourced (border_bits here.row) here bit (row_place w.0.join.from_x w.0.join.from_y w.0.join.from_row, w.0.join.source) p ways.ends w.1 on_way

  pub route_sourced : (p : Point) → IsRoutePoint fabric implementation p → Sourced p
  route_sourced p (design.in_tile {x} {y} {tile} {plain} tree) = tree_sourced x y tile plain tree
  route_sourced p (design.in_matrix {x} {y} {tile} {plain} tree some) = port_sourced x y tile plain tree some
  route_sourced p (design.between {x} {y} {row} {bit} {tile} {here} tree placed_is no_jump on_way) = between_sourced x y row bit tile here tree placed_is no_jump p on_way

  -- ---- cells

  pub cell_tile : (number : ℕ) (site : Site) (cell : PlainCell) → IsBound packed implementation number site cell → (tile : PlainTile) × (tile_at fabric site.x site.y ≡ Some tile)
  cell_tile number site cell bound = site_tile fabric site kinds.Lut4c (cell_kind fabric packed fixed implementation legal number site cell bound)

  latch_pin : (number : ℕ) (site : Site) (cell : PlainCell) (name : List ℕ) → IsBound packed implementation number site cell → (latch : Option ℕ) → cell.latch ≡ latch →
      Contains (if is_some latch then codes "SR" ∷ codes "EN" ∷ [] else []) name → Sourced (bel_point site name)
  latch_pin number site cell name bound None is among = absurd (let few = among.1 in omega (arith, few))
  latch_pin number site cell name bound (Some init) is among =
      let at = cell_tile number site cell bound in
      let P : List ℕ → Type 0 = λ name. Sourced (bel_point site name) in
      All-contains P (codes "SR" ∷ codes "EN" ∷ []) name
      (each_all P (codes "SR" ∷ codes "EN" ∷ []) ((_, sources.cell_reset bound at.1 is), ((_, sources.cell_enable bound at.1 is), tt))) among

  pub cell_sourced : (p : Point) → IsCellPoint packed implementation p → Sourced p
  cell_sourced p (design.at_pin {cell_number} {site} {cell} {name} bound among) =
      elim (Contains-append_cases (take (length cell.inputs) (input_names kinds.Lut4c)) (if is_some cell.latch then codes "SR" ∷ codes "EN" ∷ [] else []) name among) [
        | inl used ↦ (
            let at = cell_tile cell_number site cell bound in
            let k = from_take (length cell.inputs) (input_names kinds.Lut4c) name used in
            (_, sources.cell_input k.0 bound at.1 k.1 k.2))
        | inr latched ↦ latch_pin cell_number site cell name bound cell.latch refl latched
      ]
  cell_sourced p (design.at_table {cell_number} {site} {cell} bound) = (_, sources.cell_table bound)
  cell_sourced p (design.at_output {cell_number} {site} {cell} bound) = (_, sources.cell_output bound)
  cell_sourced p (design.at_index {cell_number} {site} {cell} bound some) = (_, sources.cell_index bound some)
  cell_sourced p (design.at_flip_flop {cell_number} {init} {site} {cell} bound latched) = (_, sources.cell_register bound latched)

  -- ---- pads

  -- a required pin is a wire of a tree
  pub required_tree : (net : Net) (site : Site) (kind : Kind) (pin : ℕ) (tile : PlainTile) → Required fabric packed implementation net (pin_wire fabric site pin) → kind_at fabric site ≡ Some kind →
      pin < length (pin_names kind) → tile_at fabric site.x site.y ≡ Some tile → Tree site.x site.y tile (pin_of site.bel pin)
  required_tree net site kind pin tile required kind_is few there = record {
    net = net;
    wire = pin_wire fabric site pin;
    stands = legal.sinks net (pin_wire fabric site pin) required;
    is_index = pin_index fabric packed fixed implementation are legal site.x site.y tile (pin_of site.bel pin) there (pin_wire fabric site pin) site kind pin refl kind_is few;
    tile_is = there;
  }

  pub in_turned : (port : List ℕ) (site : Site) (tile : PlainTile) → Contains implementation.ins (port, site) → tile_at fabric site.x site.y ≡ Some tile → Tree site.x site.y tile (pin_of site.bel 1)
  in_turned port site tile listed there = required_tree zero_net site kinds.Io 1 tile (input_released listed) (in_kind fabric packed fixed implementation legal port site listed) (omega arith) there

  pub out_turned : (port : List ℕ) (site : Site) (tile : PlainTile) → Contains implementation.outs (port, site) → tile_at fabric site.x site.y ≡ Some tile → Tree site.x site.y tile (pin_of site.bel 1)
  out_turned port site tile listed there = required_tree one_net site kinds.Io 1 tile (output_driven listed) (out_kind fabric packed fixed implementation legal port site listed) (omega arith) there
