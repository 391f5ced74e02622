-- What a settled assignment shows at the border of a tile in a fabric's text.
use Rattle.std.proofs.Common.{◌≡◌, ℕ, ◌<◌, false, List, [], sym, subst, ◌∙◌, Some, Contains, slice_get}
use Rattle.fab_syntax.specs.Plain.{PlainModule, variable}
use Rattle.fab_fabric_text_defs.specs.fab_meaning_Points.{Point, point}
use Rattle.fab_fabric_text_defs.specs.fab_meaning_Settled.{Assignment, names_at}
use Rattle.fab_fabric_text_defs.specs.fab_meaning_Value.{value, bit_at}
use Rattle.fab_fabric_text_defs.specs.fab_prim_Ports.{top_name, top_inputs}
use Rattle.fab_fabric_text_defs.specs.fab_model_mode_Mode.{Mode}
use Rattle.fab_fabric_text_defs.specs.fab_model_tiles_Bel.{Bel}
use Rattle.fab_fabric_text_defs.specs.fab_model_Rows.{is_jump}
use Rattle.fab_fabric_text_defs.specs.fab_model_Tiles.{PlainTile}
use Rattle.fab_fabric_text_defs.specs.fab_model_Grid.{PlainFabric, tile_at}
use Rattle.fab_fabric_text_defs.specs.fab_model_Cascade.{PlacedRow, previous_row}
use Rattle.fab_fabric_text_defs.proofs.fab_model_Crossings.{IsPlaced}
use Rattle.fab_fabric_text_defs.specs.fab_fabric_Names.{place_name}
use Rattle.fab_fabric_text_defs.specs.fab_gen_tile_Names.{tile_module_name, begin_name, end_name, pad_name}
use Rattle.fab_fabric_text_defs.specs.fab_gen_tile_Borders.{side_border}
use Rattle.fab_fabric_text_defs.specs.fab_gen_tile_TileModule.{tile_module}
use Rattle.fab_fabric_text_defs.specs.Names.{pad_port_name, begin_wire_name}
use Rattle.fab_fabric_text_defs.specs.Mode.{text_mode}
use Rattle.fab_fabric_text_defs.specs.Top.{end_value, tile_joins, top_module}
use Rattle.fab_tile_drives_laws.specs.Stands.{IsSettledOnDeclared}
use Rattle.fab_tile_drives_laws.proofs.Driven.{joined_in, joined_out, variable_bit}
use Rattle.fab_tile_drives_laws.proofs.TileNames.{end_wide, top_wide}
use Rattle.fab_drives_laws.specs.Points.{place_path, row_path}
use Rattle.fab_drives_laws.proofs.Places.{placed_tile}
use Rattle.fab_drives_laws.proofs.Instances.{tile_instance_there}
use Rattle.fab_drives_laws.proofs.Texts.{HasFabric}
use Rattle.fab_drives_laws.proofs.TilePorts.{end_is_input, begin_is_output, pad_is_input}
use Rattle.fab_drives_laws.proofs.TopNames.{pad_port_has_bits, begin_wire_has_bits}
use Rattle.fab_drives_laws.proofs.TileJoins.{begin_is_joined, end_is_joined, pad_is_joined}

-- what is settled on points is settled on fewer
pub fewer : (Has Fewer : Point → Type 0) (text : List PlainModule) (inputs held now : Assignment) → ((p : Point) → Fewer p → Has p) →
    IsSettledOnDeclared Has text inputs held now → IsSettledOnDeclared Fewer text inputs held now
fewer Has Fewer text inputs held now among settled p d own drives = settled p d (among p own.0, own.1) drives

-- and so on one of them
pub at_one : (Has : Point → Type 0) (text : List PlainModule) (inputs held now : Assignment) (q : Point) → Has q →
    IsSettledOnDeclared Has text inputs held now → IsSettledOnDeclared (λ p. p ≡ q) text inputs held now
at_one Has text inputs held now q has = fewer Has (λ p. p ≡ q) text inputs held now (λ p is. subst Has (sym is) has)

module _ (fabric : PlainFabric) (text : List PlainModule) (has : HasFabric fabric text) (Has : Point → Type 0) (inputs held now : Assignment)
    (settled : IsSettledOnDeclared Has text inputs held now) where
  abbrev mode : Mode
  mode = text_mode fabric

  -- an end bit of a tile has the value of the wire that comes to it
  pub end_gets : (here : PlacedRow) (bit : ℕ) → IsPlaced fabric here → is_jump here.row.dir ≡ false → bit < side_border here.row here.row.dest →
      Has (point (row_path here) (end_name here.row bit) 0) →
      now (point (row_path here) (end_name here.row bit) 0) ≡ bit_at (value (names_at text now []) (end_value (previous_row fabric here) bit)) 0
  end_gets here bit stands no_jump few own =
      let x = here.place.x in
      let y = here.place.y in
      let tile = here.tile in
      let number = here.place.row in
      let placed = placed_tile x y tile in
      joined_in Has text inputs held now settled [] (top_module fabric) (tile_module mode tile) (tile_module_name tile) (place_name x y) (tile_joins fabric placed) has.top_is
      (has.module_is x y tile stands.tile_is) (tile_instance_there fabric x y tile stands.tile_is) (end_name here.row bit) (end_value (previous_row fabric here) bit) 0
      (end_is_joined fabric placed number here.row bit stands.row_is no_jump few) (has.stands x y tile stands.tile_is).tile_is
      (end_is_input mode tile number here.row bit stands.row_is no_jump few) (end_wide mode tile number bit here.row stands.row_is no_jump few) own

  -- a wire between tiles has the value of the begin bit from which it comes
  pub wire_gets : (here : PlacedRow) (bit : ℕ) → IsPlaced fabric here → is_jump here.row.dir ≡ false → bit < side_border here.row here.row.source →
      Has (point [] (begin_wire_name here.place.x here.place.y here.row bit) 0) →
      bit_at (value (names_at text now []) (variable (begin_wire_name here.place.x here.place.y here.row bit))) 0 ≡ now (point (row_path here) (begin_name here.row bit) 0)
  wire_gets here bit stands no_jump few own =
      let x = here.place.x in
      let y = here.place.y in
      let tile = here.tile in
      let number = here.place.row in
      let name = begin_wire_name x y here.row bit in
      let placed = placed_tile x y tile in
      let some = begin_wire_has_bits fabric x y tile number here.row bit stands.tile_is stands.row_is no_jump few in
      variable_bit text now [] (top_module fabric) has.top_is name 0 some
      ∙ joined_out Has text inputs held now settled [] (top_module fabric) (tile_module mode tile) (tile_module_name tile) (place_name x y) (tile_joins fabric placed) has.top_is
      (has.module_is x y tile stands.tile_is) (tile_instance_there fabric x y tile stands.tile_is) (begin_name here.row bit) name 0
      (begin_is_joined fabric placed number here.row bit stands.row_is no_jump few) (begin_is_output mode tile number here.row bit stands.row_is no_jump few) some own

  -- what comes to a pad comes from outside
  pub pad_gets : (x y : ℕ) (tile : PlainTile) (number : ℕ) (bel : Bel) → tile_at fabric x y ≡ Some tile → slice_get tile.bels number ≡ Some bel →
      Contains (top_inputs bel.kind) top_name → Has (point (place_path x y) (pad_name number top_name) 0) →
      now (point (place_path x y) (pad_name number top_name) 0) ≡ now (point [] (pad_port_name x y number top_name) 0)
  pad_gets x y tile number bel there stands is_pad own =
      let port = pad_port_name x y number top_name in
      let placed = placed_tile x y tile in
      joined_in Has text inputs held now settled [] (top_module fabric) (tile_module mode tile) (tile_module_name tile) (place_name x y) (tile_joins fabric placed) has.top_is
      (has.module_is x y tile there) (tile_instance_there fabric x y tile there) (pad_name number top_name) (variable port) 0
      (pad_is_joined fabric placed number bel stands is_pad) (has.stands x y tile there).tile_is (pad_is_input mode tile number bel stands is_pad)
      (top_wide mode tile number bel top_name stands is_pad) own
      ∙ variable_bit text now [] (top_module fabric) has.top_is port 0 (pad_port_has_bits fabric x y tile number bel there stands is_pad)
