-- Pad points have sources, and what a source reads is a design point.
use Rattle.std.proofs.Common.{◌≡◌, ◌⊎◌, ℕ, zero, suc, ◌+◌, ◌-◌, ◌<◌, ◌≤◌, true, List, [], ◌∷◌, ◌++◌, codes, length, map, take, drop, get_or, refl, sym, ap, ◌∙◌, subst, inl, inr, arith, Option, Some, None, is_some, slice_get, All, Contains, if◌then◌else◌}
use Rattle.std.proofs.lemmas.Bool.{false≢true, le-ltb}
use Rattle.std.proofs.lemmas.List.{get_or_default}
use Rattle.std.proofs.lemmas.List.Elements.{All-nil, All-cons, All-contains, Contains-append_left, Contains-append_right, Contains-append_cases}
use Rattle.fab_kinds.specs.declared.kind.Kind.TheVariants as kinds
use Rattle.fab_kinds.specs.Pins.{input_names}
use Rattle.fab_meaning.specs.Points.{Point}
use Rattle.fab_meaning.proofs.Modules.{each_all}
use Rattle.fab_model.specs.declared.tiles.WireRow.{WireRow}
use Rattle.fab_model.specs.Rows.{is_jump, is_named, border_bits}
use Rattle.fab_model.specs.Tiles.{PlainTile}
use Rattle.fab_model.specs.Wires.{PlainWire, source_of, dest_of, pin_of}
use Rattle.fab_model.specs.Grid.{PlainFabric, tile_at}
use Rattle.fab_model.specs.Joins.{RowPlace}
use Rattle.fab_model.specs.Cascade.{PlacedRow, placed_row, previous_row, passing_bits, walk_from, join_from, row_join_from}
use Rattle.fab_model.proofs.Crossings.{IsPlaced, placed, standing_is_placed}
use Rattle.fab_model.proofs.Walks.{side_has_name}
use Rattle.fab_fabric.specs.Fabric.{AreTiles}
use Rattle.fab_fabric.specs.Wires.{IsIndexOf, row_place}
use Rattle.fab_fabric.specs.declared.wire.Site.{Site}
use Rattle.fab_netlist.specs.declared.net_id.NetId.TheVariants as ids
use Rattle.fab_netlist.specs.Packed.{PlainCell, PlainPacked}
use Rattle.fab_use_defs.specs.fab_implementation_Plain.{Pad, PlainImplementation}
use Rattle.fab_use_defs.specs.fab_legal_Lines.{IsOutput}
use Rattle.fab_use_defs.specs.fab_legal_WellMade.{IsWellMadeCell, IsWellMadePacked, output_name}
use Rattle.fab_use_defs.specs.fab_legal_Nets.{Net, one_net}
use Rattle.fab_use_defs.specs.fab_legal_Sinks.{Required, packed_net, cell_input, latch_enable, latch_reset, output_shown}
use Rattle.fab_use_defs.specs.fab_legal_Steps.{pin_wire}
use Rattle.fab_use_defs.specs.fab_legal_Legal.{IsLegal}
use Rattle.fab_use_defs.proofs.fab_legal_Members.{from_mapped}
use Rattle.fab_use_defs.proofs.fab_legal_Once.{known_thing}
use Rattle.fab_prim.specs.Ports.{top_name}
use Rattle.fab_prim.specs.Modules.{flip_flop_name}
use Rattle.fab_use_defs.proofs.fab_tile_drives_laws_Members.{contains_at}
use Rattle.fab_use_defs.specs.fab_drives_laws_Points.{end_bit, wire_between, begin_bit, before}
use Rattle.fab_use_defs.specs.Design as design
use Rattle.fab_use_defs.specs.Sites.{bel_point, port_point, top_point, pin_point}
use Rattle.fab_use_defs.specs.Design.{IsTreeWire, IsRoutePoint, IsBound, required_pins, IsCellPoint, input_pad, output_pad, IsPadPoint}
use Rattle.fab_use_defs.specs.Ways as ways
use Rattle.fab_use_defs.specs.Sources as sources
use Rattle.fab_use_defs.specs.Sources.{Source, source_reads, HasSource, index_points, output_source}
use Rattle.fab_use_defs.specs.Ways.{Passes, IsTreeWay, end_port}
use Rattle.std.specs.Option.{option_and_then}
use Rattle.fab_points_laws.proofs.Places.{index_wire, tree_wire, dest_few, outputs_there, site_tile, cell_kind, in_kind, out_kind, left_tree}
use Rattle.fab_points_laws.proofs.Ways.{walk_on, before_placed}
use Rattle.fab_points_laws.proofs.Covers.{way_through, tree_sourced, dest_join, way_walk, required_tree, in_turned, out_turned}

-- ---- lists

pub into_take : {X : Type 0} (n : ℕ) (xs : List X) (k : ℕ) (x : X) → k < n → slice_get xs k ≡ Some x → Contains (take n xs) x
into_take zero xs k x few is = absurd (omega arith)
into_take (suc n) [] k x few is = cc
into_take (suc n) (first ∷ xs) zero x few is = (0, omega arith, (let e : first ≡ x = cc in e))
into_take (suc n) (first ∷ xs) (suc k) x few is =
    let rest = into_take n xs k x (omega arith) is in
    (suc rest.0, omega (arith, rest.1), rest.2)

pub all_take : {X : Type 0} (P : X → Type 0) (n : ℕ) (xs : List X) → ((k : ℕ) (x : X) → k < n → slice_get xs k ≡ Some x → P x) → All P (take n xs)
all_take P zero xs each = All-nil P
all_take P (suc n) [] each = All-nil P
all_take P (suc n) (first ∷ xs) each = All-cons P first (take n xs) (each 0 first (omega arith) refl) (all_take P n xs (λ k x few is. each (suc k) x (omega (arith, few)) is))

one : {X : Type 0} (P : X → Type 0) (x : X) → P x → All P (x ∷ [])
one P x is = All-cons P x [] is (All-nil P)

module _ (fabric : PlainFabric) (packed : PlainPacked) (fixed : List Pad) (implementation : PlainImplementation) (are : AreTiles fabric) (legal : IsLegal fabric packed fixed implementation)
    (made : IsWellMadePacked packed) where
  abbrev Sourced : Point → Type 0
  Sourced p = (s : Source) × HasSource fabric packed implementation p s

  abbrev Tree : (x y : ℕ) → PlainTile → PlainWire → Type 0
  Tree x y tile plain = IsTreeWire fabric implementation x y tile plain

  -- route, cell and pad points
  abbrev Has : Point → Type 0
  Has p = IsRoutePoint fabric implementation p ⊎ (IsCellPoint packed implementation p ⊎ IsPadPoint fabric implementation p)

  route : (p : Point) → IsRoutePoint fabric implementation p → Has p
  route p is = inl is

  cell_point : (p : Point) → IsCellPoint packed implementation p → Has p
  cell_point p is = inr (inl is)

  pad_point : (p : Point) → IsPadPoint fabric implementation p → Has p
  pad_point p is = inr (inr is)

  -- ---- pads

  pub in_tile : (port : List ℕ) (site : Site) → Contains implementation.ins (port, site) → (tile : PlainTile) × (tile_at fabric site.x site.y ≡ Some tile)
  in_tile port site listed = site_tile fabric site kinds.Io (in_kind fabric packed fixed implementation legal port site listed)

  pub out_tile : (port : List ℕ) (site : Site) → Contains implementation.outs (port, site) → (tile : PlainTile) × (tile_at fabric site.x site.y ≡ Some tile)
  out_tile port site listed = site_tile fabric site kinds.Io (out_kind fabric packed fixed implementation legal port site listed)

  -- the wire of I of a bound output
  out_shown : (port : List ℕ) (site : Site) (tile : PlainTile) → Contains implementation.outs (port, site) → tile_at fabric site.x site.y ≡ Some tile → Tree site.x site.y tile (pin_of site.bel 0)
  out_shown port site tile listed there =
      let known = known_thing (IsOutput packed) fabric kinds.Io implementation.outs (port, site) legal.placed.ports.outs.lines_right listed in
      let output = from_mapped output_name packed.outputs port known in
      let among : Contains packed.outputs (port, output.0.1) = subst (λ name. Contains packed.outputs (name, output.0.1)) output.2 output.1 in
      required_tree fabric packed fixed implementation are legal (packed_net packed output.0.1) site kinds.Io 0 tile (output_shown listed among) (out_kind fabric packed fixed implementation legal port site listed) (omega arith) there

  abbrev both : Type 0
  both = List ℕ × Site

  in_either : (port : List ℕ) (site : Site) → Contains implementation.ins (port, site) → Contains (implementation.ins ++ implementation.outs) (port, site)
  in_either port site listed = Contains-append_left implementation.ins implementation.outs (port, site) listed

  out_either : (port : List ℕ) (site : Site) → Contains implementation.outs (port, site) → Contains (implementation.ins ++ implementation.outs) (port, site)
  out_either port site listed = Contains-append_right implementation.ins implementation.outs (port, site) listed

  pub pad_sourced : (p : Point) → IsPadPoint fabric implementation p → Sourced p
  pad_sourced p (design.of_input {port} {site} {tile} listed there among) =
      All-contains Sourced (input_pad tile site) p
      (each_all Sourced (input_pad tile site) (
        (_, sources.pad_bel listed),
        (
          (_, sources.pad_output listed),
          (
            (_, sources.turned_bel (in_either port site listed) there),
            (
              (_, sources.turned_top (in_either port site listed)),
              (
                (_, sources.pad_tile listed),
                (
                  (_, sources.turned_tile (in_either port site listed)),
                  (
                    (_, sources.pad_wire listed there),
                    (
                      tree_sourced fabric packed fixed implementation are legal site.x site.y tile (pin_of site.bel 1) (in_turned fabric packed fixed implementation are legal port site tile listed there),
                      ((_, sources.pad_top listed), ((_, sources.turned_outside (in_either port site listed)), tt)),
                    ),
                  ),
                ),
              ),
            ),
          ),
        ),
      )) among
  pad_sourced p (design.of_output {port} {site} {tile} listed there among) =
      All-contains Sourced (output_pad tile site) p
      (each_all Sourced (output_pad tile site) (
        (_, sources.shown_bel listed there),
        (
          (_, sources.shown_top listed),
          (
            (_, sources.turned_bel (out_either port site listed) there),
            (
              (_, sources.turned_top (out_either port site listed)),
              (
                (_, sources.shown_tile listed),
                (
                  (_, sources.turned_tile (out_either port site listed)),
                  (
                    tree_sourced fabric packed fixed implementation are legal site.x site.y tile (pin_of site.bel 0) (out_shown port site tile listed there),
                    (
                      tree_sourced fabric packed fixed implementation are legal site.x site.y tile (pin_of site.bel 1) (out_turned fabric packed fixed implementation are legal port site tile listed there),
                      ((_, sources.shown_outside listed), ((_, sources.turned_outside (out_either port site listed)), tt)),
                    ),
                  ),
                ),
              ),
            ),
          ),
        ),
      )) among

  -- ---- what sources read

  abbrev Reads : Source → Type 0
  Reads s = All Has (source_reads s)

  -- a jump of a tree begins in the tree
  jump_tree : (x y row bit : ℕ) (tile : PlainTile) (found : WireRow) → Tree x y tile (dest_of row bit) → slice_get tile.rows row ≡ Some found → is_jump found.dir ≡ true → is_named found.source ≡ true →
      Tree x y tile (source_of row bit)
  jump_tree x y row bit tile found tree there jumps named =
      let b = dest_join fabric packed fixed implementation are legal x y row bit tile found tree there (λ jump bare. false≢true (sym bare ∙ named)) in
      let rows : row ≡ b.join.row = (let e = b.join.plain_is in same_row e) in
      let bits : bit ≡ b.join.bit = (let e = b.join.plain_is in same_bit e) in
      let placed_is : placed_row fabric (row_place x y row) ≡ Some (placed (row_place x y row) tile found) =
      standing_is_placed fabric (placed (row_place x y row) tile found) (record { tile_is = tree.tile_is; row_is = there }) in
      let dest_named : is_named found.dest ≡ true =
      side_has_name found found.dest found.source bit (dest_few tile row bit found (tree_wire fabric implementation x y tile (dest_of row bit) tree) there) in
      let own : join_from fabric (row_place x y row) bit ≡ Some (row_place x y row, bit) =
      ap (option_and_then (row_join_from fabric bit)) placed_is ∙ rw (jumps, named, dest_named) refl in
      let e : Some (row_place b.join.from_x b.join.from_y b.join.from_row, b.join.source) ≡ Some (row_place x y row, bit) = sym b.join.joined ∙ (λ j. join_from fabric (row_place x y (sym rows j)) (sym bits j)) ∙ own in
      let p : (row_place b.join.from_x b.join.from_y b.join.from_row, b.join.source) ≡ (row_place x y row, bit) = some_same e in
      let index : IsIndexOf fabric b.edge.0.0 x y (source_of row bit) =
      subst (λ (q : RowPlace × ℕ). IsIndexOf fabric b.edge.0.0 q.0.x q.0.y (source_of q.0.row q.1)) {x = (row_place b.join.from_x b.join.from_y b.join.from_row, b.join.source)} {y = (row_place x y row, bit)} p b.join.from in
      left_tree fabric implementation b.tree b.edge x y tile (source_of row bit) b.listed b.among tree.tile_is index
    where
      same_row : {a c n m : ℕ} → dest_of a n ≡ dest_of c m → a ≡ c
      same_row is = cc

      same_bit : {a c n m : ℕ} → dest_of a n ≡ dest_of c m → n ≡ m
      same_bit is = cc

      some_same : {X : Type 0} {a b : X} → Some a ≡ Some b → a ≡ b
      some_same is = cc

  -- ---- where a way begins

  walk_ends : (fuel : ℕ) (previous : PlacedRow) (n m : ℕ) (found : RowPlace × ℕ) → walk_from fabric fuel (Some previous) n ≡ Some found → n ≡ passing_bits previous.row + m →
      (previous.place, m) ≡ found
  walk_ends zero previous n m found walk is = cc
  walk_ends (suc fuel) previous n m found walk is =
      let past : passing_bits previous.row ≤ n = omega arith in
      let over = le-ltb n (passing_bits previous.row) past in
      let e : Some (previous.place, n - passing_bits previous.row) ≡ Some found = rw over at walk in
      let number : m ≡ n - passing_bits previous.row = omega arith in
      ap (λ k. (previous.place, k)) number ∙ cc

  walk_through : (fuel : ℕ) (here : PlacedRow) (bit : ℕ) (found : RowPlace × ℕ) (at : PlacedRow) (n : ℕ) → walk_from fabric fuel (previous_row fabric here) bit ≡ Some found →
      Passes fabric here bit at n → (less : ℕ) × (walk_from fabric less (previous_row fabric at) n ≡ Some found)
  walk_through fuel here bit found last k walk ways.ends = (fuel, walk)
  walk_through fuel here bit found last k walk (ways.came {at} {previous} {at_bit} passes is few) =
      let w = walk_through fuel here bit found at at_bit walk passes in
      walk_on fabric w.0 previous at_bit found (ap (λ o. walk_from fabric w.0 o at_bit) (sym is) ∙ w.1) few

  begin_tree : (at previous : PlacedRow) (n m : ℕ) → IsTreeWay fabric implementation at n → previous_row fabric at ≡ Some previous → n ≡ passing_bits previous.row + m →
      IsPlaced fabric previous → Tree previous.place.x previous.place.y previous.tile (source_of previous.place.row m)
  begin_tree at previous n m way is number placed_is =
      let w = way_walk fabric packed fixed implementation are legal way.x way.y way.row way.bit way.tile way.here way.wire way.placed way.no_jump in
      let b = w.0 in
      let found : RowPlace × ℕ = (row_place b.join.from_x b.join.from_y b.join.from_row, b.join.source) in
      let t = walk_through (border_bits way.here.row) way.here way.bit found at n w.1 way.passes in
      let e : (previous.place, m) ≡ found = walk_ends t.0 previous n m found (ap (λ o. walk_from fabric t.0 o n) (sym is) ∙ t.1) number in
      left_tree fabric implementation b.tree b.edge previous.place.x previous.place.y previous.tile (source_of previous.place.row m) b.listed b.among placed_is.tile_is
      (subst (λ (q : RowPlace × ℕ). IsIndexOf fabric b.edge.0.0 q.0.x q.0.y (source_of q.0.row q.1)) (sym e) b.join.from)

  -- ---- cells

  input_tree : (number : ℕ) (site : Site) (cell : PlainCell) (tile : PlainTile) (pin : ℕ) → IsBound packed implementation number site cell → tile_at fabric site.x site.y ≡ Some tile → pin < length cell.inputs →
      Tree site.x site.y tile (pin_of site.bel pin)
  input_tree number site cell tile pin bound there few =
      let well = All-contains (IsWellMadeCell packed) packed.cells cell made.cells (number, bound.cell_is.0, bound.cell_is.1) in
      let most = well.few_inputs in
      let net = get_or cell.inputs pin ids.Zero in
      required_tree fabric packed fixed implementation are legal (packed_net packed net) site kinds.Lut4c pin tile
      (cell_input bound.listed bound.cell_is (few, get_or_default cell.inputs pin net ids.Zero few)) (cell_kind fabric packed fixed implementation legal number site cell bound) (omega arith) there

  pub used_pin : (number : ℕ) (site : Site) (cell : PlainCell) (k : ℕ) (name : List ℕ) → IsBound packed implementation number site cell → k < length cell.inputs → slice_get (input_names kinds.Lut4c) k ≡ Some name →
      Has (bel_point site name)
  used_pin number site cell k name bound few is =
      cell_point (bel_point site name) (design.at_pin bound
      (Contains-append_left (take (length cell.inputs) (input_names kinds.Lut4c)) (if is_some cell.latch then codes "SR" ∷ codes "EN" ∷ [] else []) name
      (into_take (length cell.inputs) (input_names kinds.Lut4c) k name few is)))

  index_read : (number : ℕ) (site : Site) (cell : PlainCell) → IsBound packed implementation number site cell → (k : ℕ) (p : Point) → k < length cell.inputs →
      slice_get (bel_point site (codes "x") ∷ map (bel_point site) (take 3 (drop 1 (input_names kinds.Lut4c)))) k ≡ Some p → Has p
  index_read number site cell bound zero p few is =
      let e : bel_point site (codes "x") ≡ p = cc in
      subst Has e (cell_point (bel_point site (codes "x")) (design.at_index bound few))
  index_read number site cell bound (suc zero) p few is = (let e : bel_point site (codes "I1") ≡ p = cc in subst Has e (used_pin number site cell 1 (codes "I1") bound few refl))
  index_read number site cell bound (suc (suc zero)) p few is = (let e : bel_point site (codes "I2") ≡ p = cc in subst Has e (used_pin number site cell 2 (codes "I2") bound few refl))
  index_read number site cell bound (suc (suc (suc zero))) p few is = (let e : bel_point site (codes "I3") ≡ p = cc in subst Has e (used_pin number site cell 3 (codes "I3") bound few refl))
  index_read number site cell bound (suc (suc (suc (suc k)))) p few is = cc

  output_reads : (number : ℕ) (site : Site) (cell : PlainCell) → IsBound packed implementation number site cell → (latch : Option ℕ) → cell.latch ≡ latch → Reads (output_source site latch)
  output_reads number site cell bound None is = one Has (bel_point site (codes "t")) (cell_point (bel_point site (codes "t")) (design.at_table bound))
  output_reads number site cell bound (Some init) is = one Has (bel_point site flip_flop_name) (cell_point (bel_point site flip_flop_name) (design.at_flip_flop bound is))

  latch_pin : (number init : ℕ) (site : Site) (cell : PlainCell) (tile : PlainTile) (pin : ℕ) (net : Net) → IsBound packed implementation number site cell → tile_at fabric site.x site.y ≡ Some tile → pin < 9 →
      Required fabric packed implementation net (pin_wire fabric site pin) → Has (pin_point tile site pin)
  latch_pin number init site cell tile pin net bound there few required =
      route (pin_point tile site pin) (design.in_tile (required_tree fabric packed fixed implementation are legal net site kinds.Lut4c pin tile required (cell_kind fabric packed fixed implementation legal number site cell bound) few there))

  -- ---- pads

  pub in_pad : (port : List ℕ) (site : Site) (k : ℕ) (p : Point) → Contains implementation.ins (port, site) →
      ((tile : PlainTile) → slice_get (input_pad tile site) k ≡ Some p) → Has p
  in_pad port site k p listed is =
      let at = in_tile port site listed in
      pad_point p (design.of_input listed at.1 (contains_at (input_pad at.0 site) k p (is at.0)))

  pub out_pad : (port : List ℕ) (site : Site) (k : ℕ) (p : Point) → Contains implementation.outs (port, site) →
      ((tile : PlainTile) → slice_get (output_pad tile site) k ≡ Some p) → Has p
  out_pad port site k p listed is =
      let at = out_tile port site listed in
      pad_point p (design.of_output listed at.1 (contains_at (output_pad at.0 site) k p (is at.0)))

  pub either_pad : (port : List ℕ) (site : Site) (j k : ℕ) (p : Point) → Contains (implementation.ins ++ implementation.outs) (port, site) →
      ((tile : PlainTile) → slice_get (input_pad tile site) j ≡ Some p) → ((tile : PlainTile) → slice_get (output_pad tile site) k ≡ Some p) → Has p
  either_pad port site j k p listed in_is out_is =
      elim (Contains-append_cases implementation.ins implementation.outs (port, site) listed) [
        | inl among ↦ in_pad port site j p among in_is
        | inr among ↦ out_pad port site k p among out_is
      ]

  turned_wire : (port : List ℕ) (site : Site) (tile : PlainTile) → Contains (implementation.ins ++ implementation.outs) (port, site) → tile_at fabric site.x site.y ≡ Some tile → Has (pin_point tile site 1)
  turned_wire port site tile listed there =
      elim (Contains-append_cases implementation.ins implementation.outs (port, site) listed) [
        | inl among ↦ route (pin_point tile site 1) (design.in_tile (in_turned fabric packed fixed implementation are legal port site tile among there))
        | inr among ↦ route (pin_point tile site 1) (design.in_tile (out_turned fabric packed fixed implementation are legal port site tile among there))
      ]

  -- ---- all of them

  pub reads_covered : (p : Point) (s : Source) → HasSource fabric packed implementation p s → Reads s
  reads_covered p s (sources.of_output {x} {y} {tile} {plain} tree output) = one Has _ (route _ (design.in_matrix tree (outputs_there tile plain (tree_wire fabric implementation x y tile plain tree) output)))
  reads_covered p s (sources.of_edge {tree} {edge} {x} {y} {tile} {output} {input} listed among there to output_is from) = one Has _ (route _ (design.in_matrix (left_tree fabric implementation tree edge x y tile input listed among there from) (outputs_there tile output (index_wire fabric edge.1.0 x y output tile to there) output_is)))
  reads_covered p s (sources.of_input {x} {y} {tile} {plain} tree no_output some) = one Has _ (route _ (design.in_tile tree))
  reads_covered p s (sources.constant_bit tree there jump bare) = All-nil Has
  reads_covered p s (sources.jump_bit {x} {y} {row} {bit} {tile} {found} tree there jump named) = one Has _ (route _ (design.in_tile (jump_tree x y row bit tile found tree there jump named)))
  reads_covered p s (sources.end_bit {x} {y} {row} {bit} {tile} {here} tree placed_is no_jump) = one Has _ (route _ (design.between tree placed_is no_jump end_bit))
  reads_covered p s (sources.into {at} {previous} {at_bit} way is) = one Has _ (route _ (design.between way.wire way.placed way.no_jump (way_through fabric way.here way.bit at at_bit _ way.passes (wire_between is))))
  reads_covered p s (sources.across {at} {previous} {at_bit} way is) = one Has _ (route _ (design.between way.wire way.placed way.no_jump (way_through fabric way.here way.bit at at_bit _ way.passes (begin_bit is))))
  reads_covered p s (sources.passing_on {at} {previous} {at_bit} way is few) = one Has _ (route _ (design.between way.wire way.placed way.no_jump (way_through fabric way.here way.bit at at_bit _ way.passes (before is few end_bit))))
  reads_covered p s (sources.beginning {at} {previous} {at_bit} m way is number) = one Has _ (route _ (design.in_tile (begin_tree at previous at_bit m way is number (before_placed fabric at previous is))))
  reads_covered p s (sources.cell_wire {cell_number} {site} {cell} {tile} bound there) = one Has _ (cell_point _ (design.at_output bound))
  reads_covered p s (sources.cell_input {cell_number} {site} {cell} {tile} {name} pin bound there few at) = one Has _ (route _ (design.in_tile (input_tree cell_number site cell tile pin bound there few)))
  reads_covered p s (sources.cell_reset {cell_number} {init} {site} {cell} {tile} bound there latched) = one Has _ (latch_pin cell_number init site cell tile 5 _ bound there (omega arith) (latch_reset bound.listed bound.cell_is latched))
  reads_covered p s (sources.cell_enable {cell_number} {init} {site} {cell} {tile} bound there latched) = one Has _ (latch_pin cell_number init site cell tile 6 one_net bound there (omega arith) (latch_enable bound.listed bound.cell_is latched))
  reads_covered p s (sources.cell_index {cell_number} {site} {cell} bound some) = one Has _ (used_pin cell_number site cell 0 (codes "I0") bound some refl)
  reads_covered p s (sources.cell_table {cell_number} {site} {cell} bound) = all_take Has (length cell.inputs) (bel_point site (codes "x") ∷ map (bel_point site) (take 3 (drop 1 (input_names kinds.Lut4c)))) (index_read cell_number site cell bound)
  reads_covered p s (sources.cell_output {cell_number} {site} {cell} bound) = output_reads cell_number site cell bound cell.latch refl
  reads_covered p s (sources.cell_register bound latched) = All-nil Has
  reads_covered p s (sources.pad_top listed) = All-nil Has
  reads_covered p s (sources.pad_tile {port} {site} listed) = one Has _ (in_pad port site 8 (top_point site top_name) listed (λ tile. refl))
  reads_covered p s (sources.pad_bel {port} {site} listed) = one Has _ (in_pad port site 4 (port_point site top_name) listed (λ tile. refl))
  reads_covered p s (sources.pad_output {port} {site} listed) = one Has _ (in_pad port site 0 (bel_point site top_name) listed (λ tile. refl))
  reads_covered p s (sources.pad_wire {port} {site} {tile} listed there) = one Has _ (in_pad port site 1 (bel_point site (codes "O")) listed (λ tile. refl))
  reads_covered p s (sources.shown_bel {port} {site} {tile} listed there) = one Has _ (route _ (design.in_tile (out_shown port site tile listed there)))
  reads_covered p s (sources.shown_top {port} {site} listed) = one Has _ (out_pad port site 0 (bel_point site (codes "I")) listed (λ tile. refl))
  reads_covered p s (sources.shown_tile {port} {site} listed) = one Has _ (out_pad port site 1 (bel_point site (codes "I_top")) listed (λ tile. refl))
  reads_covered p s (sources.shown_outside {port} {site} listed) = one Has _ (out_pad port site 4 (port_point site (codes "I_top")) listed (λ tile. refl))
  reads_covered p s (sources.turned_bel {port} {site} {tile} listed there) = one Has _ (turned_wire port site tile listed there)
  reads_covered p s (sources.turned_top {port} {site} listed) = one Has _ (either_pad port site 2 2 (bel_point site (codes "T")) listed (λ tile. refl) (λ tile. refl))
  reads_covered p s (sources.turned_tile {port} {site} listed) = one Has _ (either_pad port site 3 3 (bel_point site (codes "T_top")) listed (λ tile. refl) (λ tile. refl))
  reads_covered p s (sources.turned_outside {port} {site} listed) = one Has _ (either_pad port site 5 5 (port_point site (codes "T_top")) listed (λ tile. refl) (λ tile. refl))

  few_take : {X : Type 0} (n : ℕ) (xs : List X) → length (take n xs) ≤ length xs
  few_take zero xs = omega arith
  few_take (suc n) [] = omega arith
  few_take (suc n) (x ∷ xs) = omega (arith, few_take n xs)

  few_shown : (site : Site) (latch : Option ℕ) → length (source_reads (output_source site latch)) ≤ 4
  few_shown site None = omega arith
  few_shown site (Some init) = omega arith

  pub reads_few : (p : Point) (s : Source) → HasSource fabric packed implementation p s → length (source_reads s) ≤ 4
  reads_few p s (sources.of_output {x} {y} {tile} {plain} tree output) = omega arith
  reads_few p s (sources.of_edge {tree} {edge} {x} {y} {tile} {output} {input} listed among there to output_is from) = omega arith
  reads_few p s (sources.of_input {x} {y} {tile} {plain} tree no_output some) = omega arith
  reads_few p s (sources.constant_bit tree there jump bare) = omega arith
  reads_few p s (sources.jump_bit {x} {y} {row} {bit} {tile} {found} tree there jump named) = omega arith
  reads_few p s (sources.end_bit {x} {y} {row} {bit} {tile} {here} tree placed_is no_jump) = omega arith
  reads_few p s (sources.into {at} {previous} {at_bit} way is) = omega arith
  reads_few p s (sources.across {at} {previous} {at_bit} way is) = omega arith
  reads_few p s (sources.passing_on {at} {previous} {at_bit} way is few) = omega arith
  reads_few p s (sources.beginning {at} {previous} {at_bit} m way is number) = omega arith
  reads_few p s (sources.cell_wire {cell_number} {site} {cell} {tile} bound there) = omega arith
  reads_few p s (sources.cell_input {cell_number} {site} {cell} {tile} {name} pin bound there few at) = omega arith
  reads_few p s (sources.cell_reset {cell_number} {init} {site} {cell} {tile} bound there latched) = omega arith
  reads_few p s (sources.cell_enable {cell_number} {init} {site} {cell} {tile} bound there latched) = omega arith
  reads_few p s (sources.cell_index {cell_number} {site} {cell} bound some) = omega arith
  reads_few p s (sources.cell_table {cell_number} {site} {cell} bound) = few_take (length cell.inputs) (bel_point site (codes "x") ∷ map (bel_point site) (take 3 (drop 1 (input_names kinds.Lut4c))))
  reads_few p s (sources.cell_output {cell_number} {site} {cell} bound) = few_shown site cell.latch
  reads_few p s (sources.cell_register bound latched) = omega arith
  reads_few p s (sources.pad_top listed) = omega arith
  reads_few p s (sources.pad_tile {port} {site} listed) = omega arith
  reads_few p s (sources.pad_bel {port} {site} listed) = omega arith
  reads_few p s (sources.pad_output {port} {site} listed) = omega arith
  reads_few p s (sources.pad_wire {port} {site} {tile} listed there) = omega arith
  reads_few p s (sources.shown_bel {port} {site} {tile} listed there) = omega arith
  reads_few p s (sources.shown_top {port} {site} listed) = omega arith
  reads_few p s (sources.shown_tile {port} {site} listed) = omega arith
  reads_few p s (sources.shown_outside {port} {site} listed) = omega arith
  reads_few p s (sources.turned_bel {port} {site} {tile} listed there) = omega arith
  reads_few p s (sources.turned_top {port} {site} listed) = omega arith
  reads_few p s (sources.turned_tile {port} {site} listed) = omega arith
  reads_few p s (sources.turned_outside {port} {site} listed) = omega arith
