-- To what the ports of a tile are joined in the top.
use Rattle.std.proofs.Common.{◌≡◌, ℕ, ◌<◌, true, false, List, [], ◌∷◌, ◌++◌, map, refl, Some, Contains, slice_get}
use Rattle.std.specs.List.{flat_map, enumerate_from}
use Rattle.std.proofs.lemmas.List.Elements.{Contains-append_left, Contains-append_right}
use Rattle.fab_syntax.specs.Plain.{PlainJoin, variable}
use Rattle.fab_fabric_text_defs.specs.fab_meaning_Runs.{user_clock_name}
use Rattle.fab_fabric_text_defs.specs.fab_prim_Ports.{top_name, top_inputs, top_outputs}
use Rattle.fab_fabric_text_defs.specs.fab_model_tiles_WireRow.{WireRow}
use Rattle.fab_fabric_text_defs.specs.fab_model_tiles_Bel.{Bel}
use Rattle.fab_fabric_text_defs.specs.fab_model_Rows.{is_jump}
use Rattle.fab_fabric_text_defs.specs.fab_model_Tiles.{counted}
use Rattle.fab_fabric_text_defs.specs.fab_model_Grid.{PlainFabric}
use Rattle.fab_fabric_text_defs.specs.fab_model_Cascade.{previous_row}
use Rattle.fab_fabric_text_defs.specs.fab_gen_tile_Names.{begin_name, end_name, pad_name, port_join, same_join}
use Rattle.fab_fabric_text_defs.specs.fab_gen_tile_Borders.{side_border}
use Rattle.fab_fabric_text_defs.specs.Names.{pad_port_name, begin_wire_name}
use Rattle.fab_fabric_text_defs.specs.Places.{PlacedTile}
use Rattle.fab_fabric_text_defs.specs.Mode.{text_mode}
use Rattle.fab_fabric_text_defs.specs.Top.{end_value, numbered_row, row_joins, pad_joins, config_joins, tile_joins}
use Rattle.fab_tile_drives_laws.proofs.Members.{contains_counted, contains_map}
use Rattle.fab_drives_laws.proofs.Lists.{contains_flat, contains_numbered}

module _ (fabric : PlainFabric) (placed : PlacedTile) where
  abbrev front : List PlainJoin
  front = same_join user_clock_name ∷ config_joins (text_mode fabric) fabric placed

  abbrev borders : List PlainJoin
  borders = flat_map (row_joins fabric placed) (enumerate_from 0 placed.tile.rows)

  abbrev pads : List PlainJoin
  pads = flat_map (pad_joins placed.x placed.y) (enumerate_from 0 placed.tile.bels)

  -- ---- rows

  abbrev begin_join : WireRow → (bit : ℕ) → PlainJoin
  begin_join row bit = port_join (begin_name row bit) (variable (begin_wire_name placed.x placed.y row bit))

  abbrev end_join : (number : ℕ) → WireRow → (bit : ℕ) → PlainJoin
  end_join number row bit = port_join (end_name row bit) (end_value (previous_row fabric (numbered_row placed number row)) bit)

  no_jump_joins : (number : ℕ) (row : WireRow) (join : PlainJoin) → is_jump row.dir ≡ false →
      Contains (counted (side_border row row.source) (begin_join row) ++ counted (side_border row row.dest) (end_join number row)) join →
      Contains (row_joins fabric placed (number, row)) join
  no_jump_joins number row join no_jump there = rw no_jump there

  -- a jump crosses no border
  jump_joins : (number : ℕ) (row : WireRow) → is_jump row.dir ≡ true → row_joins fabric placed (number, row) ≡ []
  jump_joins number row jumps = rw jumps refl

  border_join : (number : ℕ) (row : WireRow) (join : PlainJoin) → slice_get placed.tile.rows number ≡ Some row → Contains (row_joins fabric placed (number, row)) join →
      Contains (tile_joins fabric placed) join
  border_join number row join stands there =
      Contains-append_right front (borders ++ pads) join
      (Contains-append_left borders pads join
      (contains_flat (row_joins fabric placed) (enumerate_from 0 placed.tile.rows) (number, row) join (contains_numbered placed.tile.rows number row stands) there))

  pub begin_is_joined : (number : ℕ) (row : WireRow) (bit : ℕ) → slice_get placed.tile.rows number ≡ Some row → is_jump row.dir ≡ false → bit < side_border row row.source →
      Contains (tile_joins fabric placed) (port_join (begin_name row bit) (variable (begin_wire_name placed.x placed.y row bit)))
  begin_is_joined number row bit stands no_jump few =
      let join = begin_join row bit in
      border_join number row join stands
      (no_jump_joins number row join no_jump
      (Contains-append_left (counted (side_border row row.source) (begin_join row)) (counted (side_border row row.dest) (end_join number row)) join
      (contains_counted (side_border row row.source) (begin_join row) bit few)))

  pub end_is_joined : (number : ℕ) (row : WireRow) (bit : ℕ) → slice_get placed.tile.rows number ≡ Some row → is_jump row.dir ≡ false → bit < side_border row row.dest →
      Contains (tile_joins fabric placed) (port_join (end_name row bit) (end_value (previous_row fabric (numbered_row placed number row)) bit))
  end_is_joined number row bit stands no_jump few =
      let join = end_join number row bit in
      border_join number row join stands
      (no_jump_joins number row join no_jump
      (Contains-append_right (counted (side_border row row.source) (begin_join row)) (counted (side_border row row.dest) (end_join number row)) join
      (contains_counted (side_border row row.dest) (end_join number row) bit few)))

  -- ---- pads

  pub pad_is_joined : (number : ℕ) (bel : Bel) → slice_get placed.tile.bels number ≡ Some bel → Contains (top_inputs bel.kind) top_name →
      Contains (tile_joins fabric placed) (port_join (pad_name number top_name) (variable (pad_port_name placed.x placed.y number top_name)))
  pad_is_joined number bel stands is_pad =
      let pad_join = λ (port : List ℕ). port_join (pad_name number port) (variable (pad_port_name placed.x placed.y number port)) in
      let join = pad_join top_name in
      let numbered : ℕ × Bel = (number, bel) in
      Contains-append_right front (borders ++ pads) join
      (Contains-append_right borders pads join
      (contains_flat (pad_joins placed.x placed.y) (enumerate_from 0 placed.tile.bels) numbered join (contains_numbered placed.tile.bels number bel stands)
      (Contains-append_left (map pad_join (top_inputs bel.kind)) (map pad_join (top_outputs bel.kind)) join (contains_map pad_join (top_inputs bel.kind) top_name is_pad))))
