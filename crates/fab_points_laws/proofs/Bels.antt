-- The pins of BELs: ports of inputs, wires of outputs, and what pads have to the outside in their tile.
use Rattle.std.proofs.Common.{◌≡◌, ℕ, ◌<◌, List, [], ◌++◌, map, slice_get, refl, sym, ap, ◌∙◌, subst, Some, option_map, All, Contains}
use Rattle.std.specs.Option.{option_map_or}
use Rattle.std.proofs.lemmas.List.Elements.{All-contains, Contains-append_right}
use Rattle.std.proofs.lemmas.Option.{slice_get_within, get_or_from_slice_get}
use Rattle.fab_kinds.specs.declared.kind.Kind.{Kind}
use Rattle.fab_kinds.specs.declared.kind.Kind.TheVariants as kinds
use Rattle.fab_kinds.specs.Pins.{input_names, output_names, pin_names, bit_count}
use Rattle.fab_syntax.specs.Plain.{PlainJoin, PlainModule}
use Rattle.fab_syntax.specs.Declarations.{module_named}
use Rattle.fab_meaning.specs.Points.{Path, point, module_at}
use Rattle.fab_meaning.specs.Settled.{Assignment}
use Rattle.fab_meaning.proofs.Modules.{each_all}
use Rattle.fab_model.specs.declared.mode.Mode.{Mode}
use Rattle.fab_model.specs.declared.tiles.Bel.{Bel}
use Rattle.fab_model.specs.Tiles.{PlainTile, bel_pin, wire_name, bits_before}
use Rattle.fab_model.specs.Wires.{pin_of, pin_count, IsWire}
use Rattle.fab_prim.specs.Ports.{clock_names, top_inputs, top_outputs}
use Rattle.fab_prim.specs.Modules.{module_name, module_of_kind}
use Rattle.fab_use_defs.specs.fab_gen_tile_Names.{bel_instance_name, pad_name, same_join}
use Rattle.fab_use_defs.specs.fab_gen_tile_TileModule.{bits_join, pin_join, pad_join, bel_joins, tile_module}
use Rattle.fab_use_defs.specs.fab_tile_drives_laws_Stands.{TileStands, bel_path, name_of, wire_point}
use Rattle.fab_use_defs.proofs.fab_tile_drives_laws_Members.{contains_at, contains_map}
use Rattle.fab_use_defs.proofs.fab_tile_drives_laws_TileNames.{name_wide, top_wide}
use Rattle.fab_use_defs.proofs.fab_tile_drives_laws_TileItems.{bel_found, bel_there}
use Rattle.fab_use_defs.proofs.fab_tile_drives_laws_WireNames.{name_there}
use Rattle.fab_use_defs.proofs.fab_tile_drives_laws_BitValues.{inside}
use Rattle.fab_use_defs.proofs.fab_tile_drives_laws_PinPorts.{IsNoInput, first_input, outputs_are_outputs, top_input, input_joined, top_joined, output_joined}
use Rattle.fab_use_defs.specs.Sources.{shows}
use Rattle.fab_ternary_laws.specs.Shown.{Terns}
use Rattle.fab_points_laws.specs.Shown.{Shown}
use Rattle.fab_points_laws.proofs.Shown.{shown_in, shown_out}

-- what goes to the outside is no input
pub top_outputs_are_outputs : (kind : Kind) → All (IsNoInput kind) (top_outputs kind)
top_outputs_are_outputs kinds.Lut4c = each_all (IsNoInput kinds.Lut4c) [] tt
top_outputs_are_outputs kinds.Io = each_all (IsNoInput kinds.Io) (top_outputs kinds.Io) (refl, (refl, tt))
top_outputs_are_outputs kinds.Mux8 = each_all (IsNoInput kinds.Mux8) [] tt

-- and is joined to the tile's port
pub outside_joined : (place low : ℕ) (bel : Bel) (port : List ℕ) → Contains (top_outputs bel.kind) port → Contains (bel_joins place low bel) (pad_join place port)
outside_joined place low bel port there =
    let join = pad_join place port in
    let clocks = map same_join (clock_names bel.kind) in
    let config = bits_join low (bit_count bel.kind) in
    let tops = map (pad_join place) (top_inputs bel.kind) in
    let outputs = map (pin_join bel) (output_names bel.kind) in
    let to_outside = map (pad_join place) (top_outputs bel.kind) in
    Contains-append_right (map (pin_join bel) (input_names bel.kind)) (clocks ++ (config ++ (tops ++ (outputs ++ to_outside)))) join
    (Contains-append_right clocks (config ++ (tops ++ (outputs ++ to_outside))) join
    (Contains-append_right config (tops ++ (outputs ++ to_outside)) join
    (Contains-append_right tops (outputs ++ to_outside) join
    (Contains-append_right outputs to_outside join (contains_map (pad_join place) (top_outputs bel.kind) port there)))))

module _ (mode : Mode) (text : List PlainModule) (path : Path) (tile : PlainTile) (stands : TileStands mode text path tile) (inputs held : Assignment) (t : Terns)
    (bel : ℕ) (found : Bel) (there : slice_get tile.bels bel ≡ Some found) where
  abbrev kind_module : PlainModule
  kind_module = module_of_kind found.kind

  abbrev here : Path
  here = bel_path path bel

  abbrev joins : List PlainJoin
  joins = bel_joins bel (bits_before tile.bels bel) found

  of_kind : module_named text (module_name found.kind) ≡ Some kind_module
  of_kind =
      All-contains (λ (b : Bel). module_named text (module_name b.kind) ≡ Some (module_of_kind b.kind)) tile.bels found stands.kinds_are (contains_at tile.bels bel found there)

  pub bel_stands : module_at text here ≡ Some kind_module
  bel_stands = inside mode text path tile (bel_instance_name bel) _ kind_module stands.tile_is (bel_found mode tile bel found there) of_kind

  -- ---- pins

  module _ (pin : ℕ) (name : List ℕ) (at : slice_get (pin_names found.kind) pin ≡ Some name) where
    pub pin_exists : IsWire tile (pin_of bel pin)
    pin_exists = subst (λ o. pin < option_map_or pin_count o 0) (sym there) (slice_get_within (pin_names found.kind) pin name at)

    pub pin_named : name_of tile (pin_of bel pin) ≡ found.prefix ++ name
    pin_named =
        ap (λ o. option_map_or wire_name (option_map (λ found. bel_pin found pin) o) []) there
        ∙ ap (λ n. found.prefix ++ n) (get_or_from_slice_get (pin_names found.kind) pin name [] at)

    -- an input port shows the wire of the pin
    pub input_shown : Contains (input_names found.kind) name → Shown text inputs held t (point here name 0) (shows (wire_point path tile (pin_of bel pin)))
    input_shown among =
        let wide : 0 < _ = name_wide mode tile (name_of tile (pin_of bel pin)) (name_there tile (pin_of bel pin) pin_exists) in
        subst (λ n. Shown text inputs held t (point here name 0) (shows (point path n 0))) (sym pin_named)
        (shown_in text inputs held t path (tile_module mode tile) stands.tile_is kind_module (module_name found.kind) (bel_instance_name bel) joins of_kind (bel_there mode tile bel found there)
        name (found.prefix ++ name) (input_joined bel (bits_before tile.bels bel) found name among) (first_input (input_names found.kind) _ name among)
        (rw pin_named at wide))

    -- the wire of an output shows its port
    pub output_shown : Contains (output_names found.kind) name → Shown text inputs held t (wire_point path tile (pin_of bel pin)) (shows (point here name 0))
    output_shown among =
        subst (λ n. Shown text inputs held t (point path n 0) (shows (point here name 0))) (sym pin_named)
        (shown_out text inputs held t path (tile_module mode tile) stands.tile_is kind_module (module_name found.kind) (bel_instance_name bel) joins of_kind (bel_there mode tile bel found there)
        name (found.prefix ++ name) (output_joined bel (bits_before tile.bels bel) found name among)
        (All-contains (IsNoInput found.kind) (output_names found.kind) name (outputs_are_outputs found.kind) among))

  -- ---- the outside

  pub from_outside_shown : (port : List ℕ) → Contains (top_inputs found.kind) port → Shown text inputs held t (point here port 0) (shows (point path (pad_name bel port) 0))
  from_outside_shown port among =
      shown_in text inputs held t path (tile_module mode tile) stands.tile_is kind_module (module_name found.kind) (bel_instance_name bel) joins of_kind (bel_there mode tile bel found there)
      port (pad_name bel port) (top_joined bel (bits_before tile.bels bel) found port among) (top_input found.kind port among) (top_wide mode tile bel found port there among)

  pub to_outside_shown : (port : List ℕ) → Contains (top_outputs found.kind) port → Shown text inputs held t (point path (pad_name bel port) 0) (shows (point here port 0))
  to_outside_shown port among =
      shown_out text inputs held t path (tile_module mode tile) stands.tile_is kind_module (module_name found.kind) (bel_instance_name bel) joins of_kind (bel_there mode tile bel found there)
      port (pad_name bel port) (outside_joined bel (bits_before tile.bels bel) found port among)
      (All-contains (IsNoInput found.kind) (top_outputs found.kind) port (top_outputs_are_outputs found.kind) among)
