-- To which nets of the top the ports of the loader and of the tiles are joined.
use Rattle.std.proofs.Common.{◌≡◌, ℕ, ◌<◌, Bool, true, false, List, [], ◌∷◌, ◌++◌, map, length, slice_get, refl, sym, ap, ◌∙◌, subst, inl, inr, arith, Option, Some, None, Contains}
use Rattle.std.specs.List.{AllZip, flat_map, enumerate_from}
use Rattle.std.proofs.lemmas.Bool.{cases_Bool}
use Rattle.std.proofs.lemmas.List.Elements.{All-weaker, All-contains_itself, Contains-append_left, Contains-append_right}
use Rattle.fab_syntax.specs.declared.tree.Shape.{Shape}
use Rattle.fab_syntax.specs.declared.tree.Shape.TheVariants.{Scalar, Vector}
use Rattle.fab_syntax.specs.declared.tree.Port.{Port}
use Rattle.fab_syntax.specs.Plain.{PlainExpr, PlainJoin, PlainItem, constant, variable, wire}
use Rattle.fab_meaning.specs.Runs.{user_clock_name, clock_name}
use Rattle.fab_meaning.specs.Ports.{scalar}
use Rattle.fab_prim.specs.Ports.{top_inputs, top_outputs}
use Rattle.fab_model.specs.declared.mode.Mode.{Mode}
use Rattle.fab_model.specs.declared.mode.Mode.TheVariants as modes
use Rattle.fab_model.specs.declared.tiles.WireRow.{WireRow}
use Rattle.fab_model.specs.declared.tiles.Bel.{Bel}
use Rattle.fab_model.specs.Rows.{is_jump, border_bits, IsWireRow}
use Rattle.fab_model.specs.Tiles.{PlainTile, counted, IsTile}
use Rattle.fab_model.specs.Grid.{PlainFabric, tile_at, AllRows, AreRows}
use Rattle.fab_model.specs.Joins.{goes, comes}
use Rattle.fab_model.specs.Cascade.{PlacedRow, previous_row, opposite}
use Rattle.fab_model.proofs.Crossings.{partner_is, goes_from, standing_is_wire_row}
use Rattle.fab_fabric.specs.Fabric.{AreTiles}
use Rattle.fab_drives_laws.specs.fab_gen_tile_Names.{begin_name, end_name, pad_name, port_join, same_join}
use Rattle.fab_drives_laws.specs.fab_gen_tile_Borders.{side_border, border_ports}
use Rattle.fab_drives_laws.specs.fab_gen_tile_ConfigModule.{config_ports}
use Rattle.fab_drives_laws.specs.fab_gen_tile_TileModule.{bels_ports, tile_ports}
use Rattle.fab_drives_laws.specs.fab_gen_tile_TileModule as tiles
use Rattle.fab_drives_laws.specs.fab_gen_loader_Loader.{loader_ports, row_port, address_port, strobe_port}
use Rattle.fab_drives_laws.specs.fab_gen_loader_Loader as loaders
use Rattle.fab_meaning.specs.Loading.{write_strobe_name, write_data_name}
use Rattle.fab_drives_laws.specs.fab_fabric_text_defs_Names.{column_strobe_name, chain_wire_name, begin_wire_name, pad_port_name}
use Rattle.fab_drives_laws.specs.fab_fabric_text_defs_Places.{PlacedTile, placed_tiles}
use Rattle.fab_drives_laws.specs.fab_fabric_text_defs_Mode.{text_mode}
use Rattle.fab_drives_laws.specs.fab_fabric_text_defs_Chain.{chain_source}
use Rattle.fab_drives_laws.specs.fab_fabric_text_defs_Top.{pad_ports, tile_pads, data_shape, data_port, top_ports, loader_wires, loader_joins, loader_instance, column_strobes, chain_wire, carrying_items, tile_begin_wires, tile_instance, top_items, end_value, numbered_row, row_joins, pad_joins, config_joins, tile_joins}
use Rattle.fab_drives_laws.proofs.fab_tile_drives_laws_BorderBits.{source_within}
use Rattle.fab_drives_laws.proofs.Lists.{contains_flat}
use Rattle.fab_drives_laws.proofs.Chains.{carried_along}
use Rattle.fab_drives_laws.proofs.Places.{placed_tile, tile_is_placed}
use Rattle.fab_drives_laws.proofs.TopNames.{begin_wire}
use Rattle.fab_tiles_sound_laws.proofs.fab_parts_sound_laws_Lists.{contains_first, contains_later, contains_map, contains_counted}
use Rattle.fab_tiles_sound_laws.proofs.Joins.{zip_append, zip_map}
use Rattle.fab_text_sound_laws.proofs.Matched.{matched_counted, matched_flat, matched_numbered, numbers_find}
use Rattle.fab_text_sound_laws.proofs.Standing.{IsStanding}

-- ---- nets of the top

-- a port or a wire of the top
pub data IsTopNet (fabric : PlainFabric) (shape : Shape) (name : List ℕ) : Type 0 where
  port_net : (input : Bool) → Contains (top_ports fabric) (record { input = input; shape = shape; name = name }) → IsTopNet fabric shape name
  wire_net : Contains (top_items fabric) (wire shape name) → IsTopNet fabric shape name

-- an input is joined to a net of its shape, or to a constant bit, and an output to a net
abbrev pub IsJoinedRight : PlainFabric → (input : Bool) → Shape → Option PlainExpr → Type 0
IsJoinedRight fabric input shape (Some (variable name)) = IsTopNet fabric shape name
IsJoinedRight fabric input shape (Some (constant bits)) = (input ≡ true) × (shape ≡ Scalar) × (length bits ≡ 1)
IsJoinedRight fabric input shape _ = ⊥

-- a join of the port that stands at its place
abbrev pub Joining : PlainFabric → PlainJoin → Port → Type 0
Joining fabric join port = (join.port ≡ port.name) × IsJoinedRight fabric port.input port.shape join.to

module _ (fabric : PlainFabric) where
  abbrev behind_loader : List PlainItem
  behind_loader = counted fabric.columns (λ x. wire (Vector 20) (column_strobe_name x)) ++ counted fabric.columns column_strobes

  abbrev rows : List PlainItem
  rows = counted fabric.rows (λ y. wire (Vector 32) (row_port y))

  pub loader_clock_net : IsTopNet fabric Scalar clock_name
  loader_clock_net = port_net true (0, omega arith, refl)

  pub clock_net : IsTopNet fabric Scalar user_clock_name
  clock_net = port_net true (1, omega arith, refl)

  write_strobe_net : IsTopNet fabric Scalar write_strobe_name
  write_strobe_net = port_net true (2, omega arith, refl)

  write_data_net : IsTopNet fabric (data_shape (text_mode fabric)) write_data_name
  write_data_net = port_net true (3, omega arith, refl)

  -- a wire among what carries the bits
  carried_net : (mode : Mode) → text_mode fabric ≡ mode → (shape : Shape) (name : List ℕ) → Contains (carrying_items mode fabric) (wire shape name) → IsTopNet fabric shape name
  carried_net mode is shape name there =
      wire_net
      (Contains-append_left (carrying_items (text_mode fabric) fabric) (flat_map tile_begin_wires (placed_tiles fabric) ++ map (tile_instance fabric) (placed_tiles fabric)) (wire shape name)
      (subst (λ mode. Contains (carrying_items mode fabric) (wire shape name)) (sym is) there))

  -- ---- in frames

  module _ (frames : text_mode fabric ≡ modes.Frames) where
    loader_net : (shape : Shape) (name : List ℕ) → Contains (loader_wires fabric.rows) (wire shape name) → IsTopNet fabric shape name
    loader_net shape name there =
        carried_net modes.Frames frames shape name (Contains-append_left (loader_wires fabric.rows) (loader_instance fabric.rows ∷ behind_loader) (wire shape name) there)

    pub address_net : IsTopNet fabric (Vector 32) address_port
    address_net = loader_net (Vector 32) address_port (contains_first (wire (Vector 32) address_port) (wire Scalar strobe_port ∷ rows))

    pub strobe_net : IsTopNet fabric Scalar strobe_port
    strobe_net = loader_net Scalar strobe_port (contains_later (wire (Vector 32) address_port) (wire Scalar strobe_port ∷ rows) (wire Scalar strobe_port) (contains_first (wire Scalar strobe_port) rows))

    pub row_net : (y : ℕ) → y < fabric.rows → IsTopNet fabric (Vector 32) (row_port y)
    row_net y few =
        loader_net (Vector 32) (row_port y)
        (contains_later (wire (Vector 32) address_port) (wire Scalar strobe_port ∷ rows) (wire (Vector 32) (row_port y))
        (contains_later (wire Scalar strobe_port) rows (wire (Vector 32) (row_port y)) (contains_counted fabric.rows (λ y. wire (Vector 32) (row_port y)) y few)))

    pub column_net : (x : ℕ) → x < fabric.columns → IsTopNet fabric (Vector 20) (column_strobe_name x)
    column_net x few =
        let item = wire (Vector 20) (column_strobe_name x) in
        let wires = counted fabric.columns (λ x. wire (Vector 20) (column_strobe_name x)) in
        carried_net modes.Frames frames (Vector 20) (column_strobe_name x)
        (Contains-append_right (loader_wires fabric.rows) (loader_instance fabric.rows ∷ behind_loader) item
        (contains_later (loader_instance fabric.rows) behind_loader item
        (Contains-append_left wires (counted fabric.columns column_strobes) item
        (contains_counted fabric.columns (λ x. wire (Vector 20) (column_strobe_name x)) x few))))

    -- words come whole
    word_net : IsTopNet fabric (Vector 32) write_data_name
    word_net = subst (λ mode. IsTopNet fabric (data_shape mode) write_data_name) frames write_data_net

    pub loader_matched : AllZip (Joining fabric) (loader_joins fabric.rows) (loader_ports fabric.rows)
    loader_matched = (
      (refl, loader_clock_net),
      (
        (refl, write_strobe_net),
        (
          (refl, word_net),
          (
            (refl, address_net),
            (
              (refl, strobe_net),
              matched_counted (Joining fabric) fabric.rows (λ y. same_join (row_port y)) (λ y. loaders.port false (Vector 32) (row_port y)) (λ y few. (refl, row_net y few)),
            ),
          ),
        ),
      ),
    )

  -- ---- in a chain

  module _ (chain : text_mode fabric ≡ modes.Chain) where
    chain_net : (x y : ℕ) (tile : PlainTile) → tile_at fabric x y ≡ Some tile → IsTopNet fabric Scalar (chain_wire_name x y)
    chain_net x y tile there =
        carried_net modes.Chain chain Scalar (chain_wire_name x y) (contains_map chain_wire (placed_tiles fabric) (placed_tile x y tile) (tile_is_placed fabric x y tile there))

    -- words come bit by bit
    bit_net : IsTopNet fabric Scalar write_data_name
    bit_net = subst (λ mode. IsTopNet fabric (data_shape mode) write_data_name) chain write_data_net

    source_net : (x y : ℕ) (tile : PlainTile) → tile_at fabric x y ≡ Some tile → IsTopNet fabric Scalar (chain_source fabric x y)
    source_net x y tile there = (carried_along fabric (IsTopNet fabric Scalar) bit_net (λ x y tile there comes. chain_net x y tile there) x y tile there).0

  module _ (are : AreTiles fabric) (p : PlacedTile) (stands : IsStanding fabric p) where
    are_rows : AreRows fabric
    are_rows = All-weaker IsTile AllRows (λ tile is. is.rows) fabric.types are

    -- ---- rows

    within_border : (row : WireRow) (side : Option (List ℕ)) (bit : ℕ) → bit < side_border row side → bit < border_bits row
    within_border row None bit few = absurd (omega (arith, few))
    within_border row (Some name) bit few = few

    end_joined : (here : PlacedRow) (previous : Option PlacedRow) (bit : ℕ) → is_jump here.row.dir ≡ false → bit < side_border here.row here.row.dest → previous_row fabric here ≡ previous →
        IsJoinedRight fabric true Scalar (Some (end_value previous bit))
    end_joined here None bit no_jump few is = (refl, refl, refl)
    end_joined here (Some previous) bit no_jump few is =
        let partner = partner_is comes goes fabric here previous (opposite here.row.dir) is in
        let out = goes_from here.row.dir previous.row partner.nth.1 in
        let previous_no_jump : is_jump previous.row.dir ≡ false = ap is_jump out.0 ∙ no_jump in
        let row_is : IsWireRow previous.row = standing_is_wire_row fabric previous are_rows partner.stands in
        let few_there : bit < border_bits previous.row = omega (arith, within_border here.row here.row.dest bit few, partner.equal) in
        let few_source : bit < side_border previous.row previous.row.source = source_within previous.row row_is previous_no_jump bit out.1 few_there in
        wire_net (begin_wire fabric previous.place.x previous.place.y previous.tile previous.place.row previous.row bit partner.stands.tile_is partner.stands.row_is previous_no_jump few_source)

    row_matched : (number : ℕ) (row : WireRow) → slice_get p.tile.rows number ≡ Some row → AllZip (Joining fabric) (row_joins fabric p (number, row)) (border_ports row)
    row_matched number row found =
        elim (cases_Bool (is_jump row.dir)) [
          | inl jumps ↦ rw jumps tt
          | inr no_jump ↦ (
              let begin_join = λ (bit : ℕ). port_join (begin_name row bit) (variable (begin_wire_name p.x p.y row bit)) in
              let end_join = λ (bit : ℕ). port_join (end_name row bit) (end_value (previous_row fabric (numbered_row p number row)) bit) in
              rw no_jump
              (zip_append (Joining fabric) (counted (side_border row row.source) begin_join) (counted (side_border row row.dest) end_join)
              (counted (side_border row row.source) (λ bit. scalar false (begin_name row bit))) (counted (side_border row row.dest) (λ bit. scalar true (end_name row bit)))
              (matched_counted (Joining fabric) (side_border row row.source) begin_join (λ bit. scalar false (begin_name row bit)) (λ bit few.
              (refl, wire_net (begin_wire fabric p.x p.y p.tile number row bit stands.there found no_jump few))))
              (matched_counted (Joining fabric) (side_border row row.dest) end_join (λ bit. scalar true (end_name row bit)) (λ bit few.
              (refl, end_joined (numbered_row p number row) (previous_row fabric (numbered_row p number row)) bit no_jump few refl)))))
        ]

    -- ---- pads

    pad_net : (placed : ℕ × Bel) (port : Port) → Contains (enumerate_from 0 p.tile.bels) placed → Contains (pad_ports p.x p.y placed) port → Contains (top_ports fabric) port
    pad_net placed port there among =
        let front = scalar true clock_name ∷ scalar true user_clock_name ∷ scalar true write_strobe_name ∷ data_port (text_mode fabric) ∷ [] in
        Contains-append_right front (flat_map tile_pads (placed_tiles fabric)) port
        (contains_flat tile_pads (placed_tiles fabric) p port (tile_is_placed fabric p.x p.y p.tile stands.there)
        (contains_flat (pad_ports p.x p.y) (enumerate_from 0 p.tile.bels) placed port there among))

    bel_matched : (placed : ℕ × Bel) → Contains (enumerate_from 0 p.tile.bels) placed → AllZip (Joining fabric) (pad_joins p.x p.y placed) (tiles.pad_ports placed.0 placed.1.kind)
    bel_matched placed there =
        let kind = placed.1.kind in
        let join = λ (port : List ℕ). port_join (pad_name placed.0 port) (variable (pad_port_name p.x p.y placed.0 port)) in
        let in_port = λ (port : List ℕ). scalar true (pad_port_name p.x p.y placed.0 port) in
        let out_port = λ (port : List ℕ). scalar false (pad_port_name p.x p.y placed.0 port) in
        zip_append (Joining fabric) (map join (top_inputs kind)) (map join (top_outputs kind)) (map (λ port. scalar true (pad_name placed.0 port)) (top_inputs kind))
        (map (λ port. scalar false (pad_name placed.0 port)) (top_outputs kind))
        (zip_map (Joining fabric) join (λ port. scalar true (pad_name placed.0 port)) (top_inputs kind)
        (All-weaker (Contains (top_inputs kind)) (λ port. Joining fabric (join port) (scalar true (pad_name placed.0 port)))
        (λ port among. (
          refl,
          port_net true (pad_net placed (in_port port) there
              (Contains-append_left (map in_port (top_inputs kind)) (map out_port (top_outputs kind)) (in_port port) (contains_map in_port (top_inputs kind) port among))),
        ))
        (top_inputs kind) (All-contains_itself (top_inputs kind))))
        (zip_map (Joining fabric) join (λ port. scalar false (pad_name placed.0 port)) (top_outputs kind)
        (All-weaker (Contains (top_outputs kind)) (λ port. Joining fabric (join port) (scalar false (pad_name placed.0 port)))
        (λ port among. (
          refl,
          port_net false (pad_net placed (out_port port) there
              (Contains-append_right (map in_port (top_inputs kind)) (map out_port (top_outputs kind)) (out_port port) (contains_map out_port (top_outputs kind) port among))),
        ))
        (top_outputs kind) (All-contains_itself (top_outputs kind))))

    -- ---- all joins of a tile

    config_matched : (mode : Mode) → text_mode fabric ≡ mode → AllZip (Joining fabric) (config_joins mode fabric p) (config_ports mode)
    config_matched modes.Frames frames = ((refl, row_net frames p.y stands.few_rows), ((refl, column_net frames p.x stands.few_columns), tt))
    config_matched modes.Chain chain = (
      (refl, loader_clock_net),
      ((refl, write_strobe_net), ((refl, source_net chain p.x p.y p.tile stands.there), ((refl, chain_net chain p.x p.y p.tile stands.there), tt))),
    )

    pub tile_matched : AllZip (Joining fabric) (tile_joins fabric p) (tile_ports (text_mode fabric) p.tile)
    tile_matched =
        let mode = text_mode fabric in
        let row_join_lists = flat_map (row_joins fabric p) (enumerate_from 0 p.tile.rows) in
        let pad_join_lists = flat_map (pad_joins p.x p.y) (enumerate_from 0 p.tile.bels) in
        let borders = flat_map border_ports p.tile.rows in
        let pads = bels_ports p.tile.bels in (
          (refl, clock_net),
          zip_append (Joining fabric) (config_joins mode fabric p) (row_join_lists ++ pad_join_lists) (config_ports mode) (borders ++ pads) (config_matched mode refl)
              (zip_append (Joining fabric) row_join_lists pad_join_lists borders pads
              (matched_numbered (Joining fabric) (row_joins fabric p) border_ports 0 p.tile.rows
              (All-weaker (λ (numbered : ℕ × WireRow). slice_get p.tile.rows numbered.0 ≡ Some numbered.1) (λ numbered. AllZip (Joining fabric) (row_joins fabric p numbered) (border_ports numbered.1))
              (λ numbered found. row_matched numbered.0 numbered.1 found) (enumerate_from 0 p.tile.rows) (numbers_find p.tile.rows)))
              (matched_flat (Joining fabric) (pad_joins p.x p.y) (λ placed. tiles.pad_ports placed.0 placed.1.kind) (enumerate_from 0 p.tile.bels)
              (All-weaker (Contains (enumerate_from 0 p.tile.bels)) (λ placed. AllZip (Joining fabric) (pad_joins p.x p.y placed) (tiles.pad_ports placed.0 placed.1.kind))
              bel_matched (enumerate_from 0 p.tile.bels) (All-contains_itself (enumerate_from 0 p.tile.bels))))),
        )
