-- The instances of a tile's module fit the modules that they are of.
use Rattle.std.proofs.Common.{◌≡◌, ℕ, zero, suc, ◌<◌, Bool, true, false, List, [], ◌∷◌, ◌++◌, map, slice_get, get_or, length, nat_eq, refl, sym, ap, subst, arith, Some, All, Contains, IsSomeAnd}
use Rattle.std.specs.List.{AllZip, enumerate_from}
use Rattle.std.proofs.lemmas.List.Elements.{All-nil, All-cons, All-append, All-map, All-weaker, All-contains, All-contains_itself}
use Rattle.fab_kinds.specs.Pins.{input_names, output_names, bit_count}
use Rattle.fab_select.specs.Selection.{select_bits}
use Rattle.fab_syntax.specs.declared.tree.Shape.TheVariants.{Scalar, Vector}
use Rattle.fab_syntax.specs.declared.tree.Port.{Port}
use Rattle.fab_syntax.specs.Plain.{PlainJoin, PlainItem, PlainModule, variable, instance}
use Rattle.fab_syntax.specs.Declarations.{module_named}
use Rattle.fab_syntax.specs.Sound.{InstanceFits, JoinFits, IsJoinedOnce}
use Rattle.fab_meaning.specs.Ports.{config_port, config_name, scalar}
use Rattle.fab_model.specs.declared.mode.Mode.{Mode}
use Rattle.fab_model.specs.declared.tiles.Bel.{Bel}
use Rattle.fab_model.specs.Tiles.{PlainTile, matrix_names, numbered_pairs, bel_bits, tile_bits, IsTile, bits_before}
use Rattle.fab_prim.specs.Ports.{clock_names, top_inputs, top_outputs, module_ports}
use Rattle.fab_prim.specs.Modules.{module_name, module_of_kind}
use Rattle.fab_parts_sound_laws.specs.fab_gen_tile_Words.{IsNamed}
use Rattle.fab_parts_sound_laws.specs.fab_gen_tile_Names.{config_module_name, matrix_module_name, config_instance_name, matrix_instance_name, bits_name, bel_instance_name, pad_name, vector, port_join, same_join}
use Rattle.fab_parts_sound_laws.specs.fab_gen_tile_ConfigModule.{config_ports, config_module}
use Rattle.fab_parts_sound_laws.specs.fab_gen_tile_MatrixModule.{named_pairs, matrix_module}
use Rattle.fab_parts_sound_laws.specs.fab_gen_tile_TileModule.{config_joins, config_instances, bits_join, matrix_input_names, matrix_output_names, matrix_joins, matrix_instances, pin_join, pad_join, bel_joins, bel_instance, bel_instances, tile_items, tile_module}
use Rattle.fab_parts_sound_laws.proofs.fab_tile_drives_laws_NamedPairs.{bits_same}
use Rattle.fab_parts_sound_laws.proofs.fab_tile_drives_laws_Members.{contains_at}
use Rattle.fab_tiles_sound_laws.specs.Has.{HasModules}
use Rattle.fab_tiles_sound_laws.proofs.Apart.{each_unconfigured, each_of_tile}
use Rattle.fab_tiles_sound_laws.proofs.Shapes.{shape_of, bits_shape}
use Rattle.fab_tiles_sound_laws.proofs.Items.{width_is}
use Rattle.fab_tiles_sound_laws.proofs.Standing.{each_placed, carried_shape, side_scalars, inputs_scalar, outputs_scalar, clocks_scalar, tops_scalar, outside_scalar}
use Rattle.fab_tiles_sound_laws.proofs.Joins.{JoinsPort, zip_append, zip_map, zip_made, name_fits, instance_fits}
use Rattle.fab_tiles_sound_laws.proofs.PortNames.{config_ports_apart, kind_ports_apart, output_ports, matrix_ports_apart}

module _ (mode : Mode) (tile : PlainTile) (is : IsTile tile) (named : IsNamed tile) where
  abbrev ToPort : PlainJoin → Port → Type 0
  ToPort = JoinsPort (tile_module mode tile)

  -- ---- joins in the order of the ports

  config_zip : 0 < tile_bits tile → AllZip ToPort (config_joins mode) (config_module mode tile).ports
  config_zip some =
      let same : Port → PlainJoin = λ port. same_join port.name in
      zip_append ToPort (map same (config_ports mode)) (port_join config_name (variable bits_name) ∷ []) (config_ports mode) (vector false (tile_bits tile) config_name ∷ [])
      (zip_made ToPort same (config_ports mode)
      (All-weaker (Contains (config_ports mode)) (λ port. ToPort (same port) port)
      (λ port there. (refl, name_fits (tile_module mode tile) port.input _ port.name (width_is mode tile port.name port.shape (carried_shape mode tile is named port there))))
      (config_ports mode) (All-contains_itself (config_ports mode))))
      ((refl, width_is mode tile bits_name (Vector (tile_bits tile)) (bits_shape mode tile is named some)), tt)

  scalar_zip : (input : Bool) (names : List (List ℕ)) → All (λ name. shape_of mode tile name ≡ Some Scalar) names → AllZip ToPort (map same_join names) (map (scalar input) names)
  scalar_zip true names scalars =
      zip_map ToPort same_join (scalar true) names
      (All-weaker (λ name. shape_of mode tile name ≡ Some Scalar) (λ name. ToPort (same_join name) (scalar true name)) (λ name e. (refl, width_is mode tile name Scalar e)) names scalars)
  scalar_zip false names scalars =
      zip_map ToPort same_join (scalar false) names
      (All-weaker (λ name. shape_of mode tile name ≡ Some Scalar) (λ name. ToPort (same_join name) (scalar false name)) (λ name e. (refl, width_is mode tile name Scalar e)) names scalars)

  bits_zip : (low bits : ℕ) → AllZip ToPort (bits_join low bits) (config_port bits)
  bits_zip low zero = tt
  bits_zip low (suc bits) = ((refl, omega arith), tt)

  kind_bits_zip : (low bits : ℕ) → AllZip ToPort (bits_join low bits) (config_port bits)
  kind_bits_zip low zero = tt
  kind_bits_zip low (suc bits) = ((refl, omega arith), tt)

  matrix_zip : AllZip ToPort (matrix_joins tile) (matrix_module tile).ports
  matrix_zip =
      let low = bel_bits tile in
      let bits = select_bits nat_eq (numbered_pairs tile) in
      let same : select_bits nat_eq (named_pairs tile) ≡ bits = bits_same (matrix_names tile) tile.pairs in
      zip_append ToPort (map same_join (matrix_input_names tile)) (bits_join low bits ++ map same_join (matrix_output_names tile)) (map (scalar true) (matrix_input_names tile)) _
      (scalar_zip true (matrix_input_names tile) (side_scalars mode tile is named false))
      (zip_append ToPort (bits_join low bits) (map same_join (matrix_output_names tile)) (config_port (select_bits nat_eq (named_pairs tile))) _
      (subst (λ n. AllZip ToPort (bits_join low bits) (config_port n)) (sym same) (bits_zip low bits))
      (subst (AllZip ToPort (map same_join (matrix_output_names tile))) (sym (output_ports tile)) (scalar_zip false (matrix_output_names tile) (side_scalars mode tile is named true))))

  module _ (place : ℕ) (bel : Bel) (there : slice_get tile.bels place ≡ Some bel) where
    bel_zip : AllZip ToPort (bel_joins place (bits_before tile.bels place) bel) (module_ports bel.kind)
    bel_zip =
        let low = bits_before tile.bels place in
        let kind = bel.kind in
        zip_append ToPort (map (pin_join bel) (input_names kind)) _ (map (scalar true) (input_names kind)) _
        (zip_map ToPort (pin_join bel) (scalar true) (input_names kind)
        (All-weaker (λ pin. shape_of mode tile (bel.prefix ++ pin) ≡ Some Scalar) (λ pin. ToPort (pin_join bel pin) (scalar true pin))
        (λ pin e. (refl, width_is mode tile (bel.prefix ++ pin) Scalar e)) (input_names kind) (inputs_scalar mode tile is named place bel there)))
        (zip_append ToPort (map same_join (clock_names kind)) _ (map (scalar true) (clock_names kind)) _
        (zip_map ToPort same_join (scalar true) (clock_names kind)
        (All-weaker (λ name. shape_of mode tile name ≡ Some Scalar) (λ name. ToPort (same_join name) (scalar true name))
        (λ name e. (refl, width_is mode tile name Scalar e)) (clock_names kind) (clocks_scalar mode tile is named place bel there)))
        (zip_append ToPort (bits_join low (bit_count kind)) _ (config_port (bit_count kind)) _ (kind_bits_zip low (bit_count kind))
        (zip_append ToPort (map (pad_join place) (top_inputs kind)) _ (map (scalar true) (top_inputs kind)) _
        (zip_map ToPort (pad_join place) (scalar true) (top_inputs kind)
        (λ k d few. (refl, width_is mode tile (pad_name place (get_or (top_inputs kind) k d)) Scalar (tops_scalar mode tile is named place bel there k d few))))
        (zip_append ToPort (map (pin_join bel) (output_names kind)) _ (map (scalar false) (output_names kind)) _
        (zip_map ToPort (pin_join bel) (scalar false) (output_names kind)
        (λ k d few. (refl, width_is mode tile (bel.prefix ++ get_or (output_names kind) k d) Scalar (outputs_scalar mode tile is named place bel there k d few))))
        (zip_map ToPort (pad_join place) (scalar false) (top_outputs kind)
        (λ k d few. (refl, width_is mode tile (pad_name place (get_or (top_outputs kind) k d)) Scalar (outside_scalar mode tile is named place bel there k d few))))))))

  -- ---- the rule

  module _ (before : List PlainModule) (has : HasModules mode before tile) where
    abbrev Fits : PlainItem → Type 0
    Fits = InstanceFits before (tile_module mode tile)

    fits : (below : PlainModule) (module_name i : List ℕ) (joins : List PlainJoin) → module_named before module_name ≡ Some below →
        All (JoinFits (tile_module mode tile) below) joins × All (IsJoinedOnce joins) below.ports → InstanceFits before (tile_module mode tile) (instance module_name i joins)
    fits below module_name i joins found both =
        subst (λ found. IsSomeAnd found (λ below. All (JoinFits (tile_module mode tile) below) joins × All (IsJoinedOnce joins) below.ports)) (sym found) both

    config_fits : (bits : ℕ) → tile_bits tile ≡ bits → All Fits (config_instances mode tile bits)
    config_fits zero are = each_unconfigured Fits (λ target e. tt) mode
    config_fits (suc bits) are =
        let some : 0 < tile_bits tile = (let all : tile_bits tile ≡ suc bits = are in omega arith) in
        All-cons Fits (instance (config_module_name tile) config_instance_name (config_joins mode)) []
        (fits (config_module mode tile) (config_module_name tile) config_instance_name (config_joins mode) (has.config_is some)
        (instance_fits (tile_module mode tile) (config_module mode tile) (config_joins mode) (config_ports_apart mode tile) (config_zip some)))
        (All-nil Fits)

    matrix_fits : (outputs : List (List ℕ)) → matrix_output_names tile ≡ outputs → All Fits (matrix_instances tile outputs)
    matrix_fits [] are = All-nil Fits
    matrix_fits (output ∷ outputs) are =
        let some : 0 < length (matrix_output_names tile) = (let all : length (matrix_output_names tile) ≡ suc (length outputs) = ap length are in omega arith) in
        All-cons Fits (instance (matrix_module_name tile) matrix_instance_name (matrix_joins tile)) []
        (fits (matrix_module tile) (matrix_module_name tile) matrix_instance_name (matrix_joins tile) (has.matrix_is some)
        (instance_fits (tile_module mode tile) (matrix_module tile) (matrix_joins tile) (matrix_ports_apart tile is) matrix_zip))
        (All-nil Fits)

    bel_fits : (place : ℕ) (bel : Bel) → slice_get tile.bels place ≡ Some bel → InstanceFits before (tile_module mode tile) (bel_instance place (bits_before tile.bels place) bel)
    bel_fits place bel there =
        fits (module_of_kind bel.kind) (module_name bel.kind) (bel_instance_name place) (bel_joins place (bits_before tile.bels place) bel)
        (All-contains (λ (bel : Bel). module_named before (module_name bel.kind) ≡ Some (module_of_kind bel.kind)) tile.bels bel has.kinds_are (contains_at tile.bels place bel there))
        (instance_fits (tile_module mode tile) (module_of_kind bel.kind) (bel_joins place (bits_before tile.bels place) bel) (kind_ports_apart bel.kind) (bel_zip place bel there))

    pub instances_fit : All Fits (tile_items mode tile)
    instances_fit =
        each_of_tile Fits mode tile (λ shape name. tt) (λ target e. tt)
        (All-append Fits (config_instances mode tile (tile_bits tile)) _ (config_fits (tile_bits tile) refl)
        (All-append Fits (matrix_instances tile (matrix_output_names tile)) (bel_instances tile.bels) (matrix_fits (matrix_output_names tile) refl)
        (All-map Fits (λ (placed : ℕ × Bel). bel_instance placed.0 (bits_before tile.bels placed.0) placed.1) (enumerate_from 0 tile.bels)
        (each_placed (λ (placed : ℕ × Bel). InstanceFits before (tile_module mode tile) (bel_instance placed.0 (bits_before tile.bels placed.0) placed.1)) tile.bels bel_fits))))
