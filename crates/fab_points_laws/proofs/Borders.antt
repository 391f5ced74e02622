-- Destination bits of rows, and the way of a border bit from tile to tile.
use Rattle.std.proofs.Common.{◌≡◌, ℕ, ◌+◌, ◌-◌, ◌<◌, ◌≤◌, true, false, List, [], ◌∷◌, slice_get, refl, sym, ap, ◌∙◌, subst, arith, Some, Contains}
use Rattle.std.proofs.lemmas.List.Elements.{All-contains}
use Rattle.fab_syntax.specs.Plain.{PlainExpr, variable, constant, assign, PlainModule}
use Rattle.fab_meaning.specs.Points.{Path, point, bit_of}
use Rattle.fab_meaning.specs.Settled.{Assignment}
use Rattle.fab_model.specs.declared.mode.Mode.{Mode}
use Rattle.fab_model.specs.declared.tiles.WireRow.{WireRow}
use Rattle.fab_model.specs.Rows.{is_jump, is_named, border_bits, source_bits, dest_bits, bit_name, IsWireRow}
use Rattle.fab_model.specs.Tiles.{PlainTile, IsTile}
use Rattle.fab_model.specs.Grid.{PlainFabric, AreRows}
use Rattle.fab_model.specs.Cascade.{PlacedRow, previous_row, passing_bits}
use Rattle.fab_model.specs.Wires.{PlainWire, source_of, dest_of, IsWire}
use Rattle.fab_model.proofs.Crossings.{IsPlaced}
use Rattle.fab_fabric.specs.Names.{place_name}
use Rattle.fab_use_defs.specs.fab_gen_tile_Names.{tile_module_name, begin_name, end_name}
use Rattle.fab_use_defs.specs.fab_gen_tile_Borders.{side_border, fixed_bit, dest_value}
use Rattle.fab_use_defs.specs.fab_gen_tile_TileModule.{tile_module}
use Rattle.fab_use_defs.specs.fab_fabric_text_defs_Mode.{text_mode}
use Rattle.fab_use_defs.specs.fab_fabric_text_defs_Names.{begin_wire_name}
use Rattle.fab_use_defs.specs.fab_fabric_text_defs_Top.{end_value, tile_joins, top_module}
use Rattle.fab_use_defs.specs.fab_tile_drives_laws_Stands.{TileStands, name_of, wire_point}
use Rattle.fab_use_defs.proofs.fab_tile_drives_laws_Members.{contains_at}
use Rattle.fab_use_defs.proofs.fab_tile_drives_laws_TileNames.{name_wide, end_wide}
use Rattle.fab_use_defs.proofs.fab_tile_drives_laws_TileItems.{assign_there}
use Rattle.fab_use_defs.proofs.fab_tile_drives_laws_WireNames.{name_there, source_name, dest_name, source_exists}
use Rattle.fab_use_defs.proofs.fab_tile_drives_laws_BorderBits.{dest_within, passing_within, beginning_within, passing_there, beginning_there, dest_there, jump_source}
use Rattle.fab_use_defs.proofs.fab_drives_laws_Places.{placed_tile}
use Rattle.fab_use_defs.proofs.fab_drives_laws_Instances.{tile_instance_there}
use Rattle.fab_use_defs.proofs.fab_drives_laws_Texts.{HasFabric}
use Rattle.fab_use_defs.proofs.fab_drives_laws_TilePorts.{end_is_input, begin_is_output}
use Rattle.fab_use_defs.proofs.fab_drives_laws_TopNames.{begin_wire_has_bits}
use Rattle.fab_use_defs.proofs.fab_drives_laws_TileJoins.{begin_is_joined, end_is_joined}
use Rattle.fab_use_defs.proofs.fab_text_loads_laws_Drivers.{joined_to}
use Rattle.fab_ternary_laws.specs.Operators.{tern_at}
use Rattle.fab_ternary_laws.specs.Values.{tern_value}
use Rattle.fab_use_defs.specs.Sources.{Source, shows, always}
use Rattle.fab_use_defs.specs.Ways.{end_port, begin_port, begin_wire}
use Rattle.fab_ternary_laws.specs.Shown.{Terns, tern_names}
use Rattle.fab_points_laws.specs.Shown.{tern_source, Shown}
use Rattle.fab_points_laws.proofs.Shown.{variable_tern, shown_assigned, shown_out}

module _ (mode : Mode) (text : List PlainModule) (path : Path) (tile : PlainTile) (is_tile : IsTile tile) (stands : TileStands mode text path tile) (inputs held : Assignment) (t : Terns)
    (row bit : ℕ) (found : WireRow) (there : slice_get tile.rows row ≡ Some found) where
  row_is : IsWireRow found
  row_is = All-contains IsWireRow tile.rows found is_tile.rows (contains_at tile.rows row found there)

  abbrev m : PlainModule
  m = tile_module mode tile

  -- what a wire shows to an expression
  wire_tern : (wire : PlainWire) → IsWire tile wire → tern_at (tern_value (tern_names text t path) (variable (name_of tile wire))) 0 ≡ t (wire_point path tile wire)
  wire_tern wire exists = variable_tern text t path m stands.tile_is (name_of tile wire) 0 (name_wide mode tile (name_of tile wire) (name_there tile wire exists))

  dest_assigned : (e : PlainExpr) (s : Source) → bit < dest_bits found → dest_value found bit ≡ e →
      tern_at (tern_value (tern_names text t path) e) 0 ≡ tern_source inputs held t (wire_point path tile (dest_of row bit)) s →
      Shown text inputs held t (wire_point path tile (dest_of row bit)) s
  dest_assigned e s few is value =
      let item : Contains m.items (assign (bit_name found.dest bit) (dest_value found bit)) =
      assign_there mode tile row found (assign (bit_name found.dest bit) (dest_value found bit)) there (dest_there found bit few) in
      shown_assigned text inputs held t path m stands.tile_is (name_of tile (dest_of row bit)) e 0 s
      (subst (λ n. Contains m.items (assign n e)) (sym (dest_name tile row bit found there)) (subst (λ e. Contains m.items (assign (bit_name found.dest bit) e)) is item)) value

  -- ---- jumps

  pub constant_shown : bit < dest_bits found → is_jump found.dir ≡ true → is_named found.source ≡ false →
      Shown text inputs held t (wire_point path tile (dest_of row bit)) (always (fixed_bit found.dest))
  constant_shown few jump bare = dest_assigned (constant (fixed_bit found.dest ∷ [])) (always (fixed_bit found.dest)) few (rw (jump, bare) refl) refl

  pub jump_shown : bit < dest_bits found → is_jump found.dir ≡ true → is_named found.source ≡ true →
      Shown text inputs held t (wire_point path tile (dest_of row bit)) (shows (wire_point path tile (source_of row bit)))
  jump_shown few jump named =
      let e : dest_value found bit ≡ variable (bit_name found.source bit) = rw (jump, named) refl in
      dest_assigned (variable (name_of tile (source_of row bit))) (shows (wire_point path tile (source_of row bit))) few
      (e ∙ ap variable (sym (source_name tile row bit found there)))
      (wire_tern (source_of row bit) (source_exists tile row bit found there (jump_source found bit jump named few)))

  -- ---- border bits

  pub end_bit_shown : bit < dest_bits found → is_jump found.dir ≡ false →
      Shown text inputs held t (wire_point path tile (dest_of row bit)) (shows (point path (end_name found bit) 0))
  end_bit_shown few other =
      dest_assigned (variable (end_name found bit)) (shows (point path (end_name found bit) 0)) few (rw other refl)
      (variable_tern text t path m stands.tile_is (end_name found bit) 0 (end_wide mode tile row bit found there other (dest_within found row_is other bit few)))

  pub passing_shown : is_jump found.dir ≡ false → is_named found.source ≡ true → bit < passing_bits found →
      Shown text inputs held t (point path (begin_name found bit) 0) (shows (point path (end_name found (bit + found.count)) 0))
  passing_shown other named passes =
      let from = end_name found (bit + found.count) in
      shown_assigned text inputs held t path m stands.tile_is (begin_name found bit) (variable from) 0 (shows (point path from 0))
      (assign_there mode tile row found (assign (begin_name found bit) (variable from)) there (passing_there found row_is other bit named passes))
      (variable_tern text t path m stands.tile_is from 0 (end_wide mode tile row (bit + found.count) found there other (passing_within found row_is other bit passes)))

  pub beginning_shown : (output : ℕ) → is_jump found.dir ≡ false → is_named found.source ≡ true → bit < border_bits found → bit ≡ passing_bits found + output →
      Shown text inputs held t (point path (begin_name found bit) 0) (shows (wire_point path tile (source_of row output)))
  beginning_shown output other named few is =
      let past : passing_bits found ≤ bit = omega arith in
      let number : bit - passing_bits found ≡ output = omega arith in
      let item : Contains m.items (assign (begin_name found bit) (variable (bit_name found.source (bit - passing_bits found)))) =
      assign_there mode tile row found (assign (begin_name found bit) (variable (bit_name found.source (bit - passing_bits found)))) there (beginning_there found row_is other bit named past few) in
      let exists : output < source_bits found = subst (λ n. n < source_bits found) number (beginning_within found row_is other bit named past few) in
      shown_assigned text inputs held t path m stands.tile_is (begin_name found bit) (variable (name_of tile (source_of row output))) 0 (shows (wire_point path tile (source_of row output)))
      (subst (λ n. Contains m.items (assign (begin_name found bit) (variable n))) (ap (bit_name found.source) number ∙ sym (source_name tile row output found there)) item)
      (wire_tern (source_of row output) (source_exists tile row output found there exists))

-- ---- between tiles

module _ (fabric : PlainFabric) (text : List PlainModule) (has : HasFabric fabric text) (are : AreRows fabric) (inputs held : Assignment) (t : Terns) where
  -- a border bit that comes in shows the wire from the row before
  pub into_shown : (here previous : PlacedRow) (bit : ℕ) → IsPlaced fabric here → is_jump here.row.dir ≡ false → bit < side_border here.row here.row.dest →
      previous_row fabric here ≡ Some previous → bit < side_border previous.row previous.row.source → IsPlaced fabric previous → is_jump previous.row.dir ≡ false →
      Shown text inputs held t (end_port here bit) (shows (begin_wire previous bit))
  into_shown here previous bit stands no_jump few is few_there before before_no_jump =
      let x = here.place.x in
      let y = here.place.y in
      let tile = here.tile in
      let number = here.place.row in
      let placed = placed_tile x y tile in
      let name = begin_wire_name previous.place.x previous.place.y previous.row bit in
      let e : end_value (previous_row fabric here) bit ≡ variable name = ap (λ o. end_value o bit) is in
      record {
        driver = bit_of [] (end_value (previous_row fabric here) bit) 0;
        drives = joined_to text [] (top_module fabric) has.top_is (tile_module (text_mode fabric) tile) (tile_module_name tile) (place_name x y) (tile_joins fabric placed)
            (has.module_is x y tile stands.tile_is) (tile_instance_there fabric x y tile stands.tile_is) (end_name here.row bit) (end_value (previous_row fabric here) bit) 0
            (end_is_joined fabric placed number here.row bit stands.row_is no_jump few) (end_is_input (text_mode fabric) tile number here.row bit stands.row_is no_jump few);
        is = ap (λ e. tern_at (tern_value (tern_names text t []) e) 0) e
            ∙ variable_tern text t [] (top_module fabric) has.top_is name 0
            (begin_wire_has_bits fabric previous.place.x previous.place.y previous.tile previous.place.row previous.row bit before.tile_is before.row_is before_no_jump few_there);
      }

  -- a wire of the top shows the bit that goes out
  pub across_shown : (here : PlacedRow) (bit : ℕ) → IsPlaced fabric here → is_jump here.row.dir ≡ false → bit < side_border here.row here.row.source →
      Shown text inputs held t (begin_wire here bit) (shows (begin_port here bit))
  across_shown here bit stands no_jump few =
      let x = here.place.x in
      let y = here.place.y in
      let tile = here.tile in
      let number = here.place.row in
      let placed = placed_tile x y tile in
      shown_out text inputs held t [] (top_module fabric) has.top_is (tile_module (text_mode fabric) tile) (tile_module_name tile) (place_name x y) (tile_joins fabric placed)
      (has.module_is x y tile stands.tile_is) (tile_instance_there fabric x y tile stands.tile_is) (begin_name here.row bit) (begin_wire_name x y here.row bit)
      (begin_is_joined fabric placed number here.row bit stands.row_is no_jump few) (begin_is_output (text_mode fabric) tile number here.row bit stands.row_is no_jump few)
