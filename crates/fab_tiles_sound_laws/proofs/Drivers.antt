-- Each net of a tile's module has its drivers: an input port none, all others one.
use Rattle.std.proofs.Common.{◌≡◌, ℕ, zero, suc, ◌+◌, ◌<◌, true, false, List, [], ◌∷◌, ◌++◌, map, length, nat_eq, refl, ap, ◌∙◌, subst, arith, Some, All, append-nil}
use Rattle.std.specs.List.{flat_map, enumerate_from}
use Rattle.std.proofs.lemmas.List.{map-append}
use Rattle.std.proofs.lemmas.List.Elements.{All-nil, All-cons, All-head, All-tail, All-map}
use Rattle.fab_kinds.specs.declared.kind.Kind.{Kind}
use Rattle.fab_kinds.specs.declared.kind.Kind.TheVariants.{Lut4c, Io, Mux8}
use Rattle.fab_kinds.specs.Pins.{output_names}
use Rattle.fab_select.specs.Selection.{select_bits}
use Rattle.fab_syntax.specs.declared.tree.Shape.TheVariants.{Scalar}
use Rattle.fab_syntax.specs.declared.tree.Port.{Port}
use Rattle.fab_syntax.specs.Plain.{PlainJoin, PlainItem, PlainModule, wire}
use Rattle.fab_syntax.specs.Declarations.{module_named, is_input, is_input_of}
use Rattle.fab_meaning.specs.Ports.{config_port, scalar}
use Rattle.fab_model.specs.declared.mode.Mode.{Mode}
use Rattle.fab_model.specs.declared.mode.Mode.TheVariants as modes
use Rattle.fab_model.specs.declared.tiles.Bel.{Bel}
use Rattle.fab_model.specs.Tiles.{PlainTile, row_wires, bel_wires, counted, wire_name, matrix_names, numbered_pairs, bel_bits, tile_bits, IsTile, bits_before}
use Rattle.fab_prim.specs.Ports.{top_outputs}
use Rattle.fab_prim.specs.Modules.{module_name, module_of_kind}
use Rattle.fab_parts_sound_laws.specs.fab_gen_tile_Names.{bits_name, pad_name, same_join}
use Rattle.fab_parts_sound_laws.specs.fab_gen_tile_ConfigModule.{config_ports, config_module}
use Rattle.fab_parts_sound_laws.specs.fab_gen_tile_Borders.{border_ports, row_assigns}
use Rattle.fab_parts_sound_laws.specs.fab_gen_tile_MatrixModule.{named_pairs, matrix_module}
use Rattle.fab_parts_sound_laws.specs.fab_gen_tile_TileModule.{pad_ports, bels_ports, tile_ports, bits_wire, config_joins, no_config, config_instances, bits_join, matrix_input_names, matrix_output_names, matrix_joins, matrix_instances, bel_joins, bel_instance, bel_instances, tile_items}
use Rattle.fab_parts_sound_laws.proofs.Counts.{joined_names}
use Rattle.fab_parts_sound_laws.proofs.Names.{net_names}
use Rattle.fab_parts_sound_laws.proofs.Lists.{all_right}
use Rattle.fab_parts_sound_laws.proofs.fab_tile_drives_laws_NamedPairs.{bits_same}
use Rattle.fab_tiles_sound_laws.specs.Has.{HasModules}
use Rattle.fab_tiles_sound_laws.proofs.Apart.{declarations, bits_names, declared_names}
use Rattle.fab_tiles_sound_laws.proofs.Standing.{all_left}
use Rattle.fab_tiles_sound_laws.proofs.Joins.{all_unmap, directions, drives_append, inputs_drive_none, outputs_drive}
use Rattle.fab_tiles_sound_laws.proofs.PortNames.{output_ports, matrix_ports_apart}
use Rattle.fab_tiles_sound_laws.proofs.Drives.{out_names, out_append, outputs_of, outputs_append, drives, drives_both, count, counts, rows_count}

-- ---- BELs

-- the names of the output pins, and those of the ports of a pad
abbrev pin_drives : Bel → List (List ℕ)
pin_drives bel = map (λ pin. bel.prefix ++ pin) (output_names bel.kind)

abbrev pad_drives : ℕ → Kind → List (List ℕ)
pad_drives place kind = map (pad_name place) (top_outputs kind)

bel_drives : (place low : ℕ) (kind : Kind) (prefix : List ℕ) →
    joined_names (Some (module_of_kind kind)) (bel_joins place low (record { kind = kind; prefix = prefix })) ≡ pin_drives (record { kind = kind; prefix = prefix }) ++ pad_drives place kind
bel_drives place low Lut4c prefix = refl
bel_drives place low Io prefix = refl
bel_drives place low Mux8 prefix = refl

pad_outs : (place : ℕ) (kind : Kind) → out_names (pad_ports place kind) ≡ pad_drives place kind
pad_outs place Lut4c = refl
pad_outs place Io = refl
pad_outs place Mux8 = refl

-- the pins are the outputs of the matrix, and then those of the BEL
pins_split : (kind : Kind) (prefix : List ℕ) →
    map wire_name (bel_wires (record { kind = kind; prefix = prefix })) ≡ outputs_of (bel_wires (record { kind = kind; prefix = prefix })) ++ pin_drives (record { kind = kind; prefix = prefix })
unfolding counted
pins_split Lut4c prefix = refl
pins_split Io prefix = refl
pins_split Mux8 prefix = refl

abbrev ports_of : ℕ × Bel → List Port
ports_of placed = pad_ports placed.0 placed.1.kind

abbrev items_from : (low : ℕ → ℕ) (first : ℕ) → List Bel → List PlainItem
items_from low first bels = map (λ (placed : ℕ × Bel). bel_instance placed.0 (low placed.0) placed.1) (enumerate_from first bels)

module _ (text : List PlainModule) (name : List ℕ) where
  bels_count : (low : ℕ → ℕ) (first : ℕ) (bels : List Bel) → All (λ (bel : Bel). module_named text (module_name bel.kind) ≡ Some (module_of_kind bel.kind)) bels →
      count text name (drives text (items_from low first bels)) + count text name (outputs_of (flat_map bel_wires bels))
      ≡ count text name (out_names (flat_map ports_of (enumerate_from first bels))) + count text name (map wire_name (flat_map bel_wires bels))
  bels_count low first [] are = refl
  bels_count low first (bel ∷ bels) are =
      let later = bels_count low (first + 1) bels (All-tail (λ (bel : Bel). module_named text (module_name bel.kind) ≡ Some (module_of_kind bel.kind)) bel bels are) in
      let is : module_named text (module_name bel.kind) ≡ Some (module_of_kind bel.kind) =
      All-head (λ (bel : Bel). module_named text (module_name bel.kind) ≡ Some (module_of_kind bel.kind)) bel bels are in
      let here : joined_names (module_named text (module_name bel.kind)) (bel_joins first (low first) bel) ≡ pin_drives bel ++ pad_drives first bel.kind =
      ap (λ of. joined_names of (bel_joins first (low first) bel)) is ∙ bel_drives first (low first) bel.kind bel.prefix in
      let driven : count text name (drives text (items_from low first (bel ∷ bels))) ≡ count text name (pin_drives bel ++ pad_drives first bel.kind) + count text name (drives text (items_from low (first + 1) bels)) =
      counts text name _ (pin_drives bel ++ pad_drives first bel.kind) (drives text (items_from low (first + 1) bels)) (ap (λ front. front ++ drives text (items_from low (first + 1) bels)) here) in
      let both : count text name (pin_drives bel ++ pad_drives first bel.kind) ≡ count text name (pin_drives bel) + count text name (pad_drives first bel.kind) =
      counts text name _ (pin_drives bel) (pad_drives first bel.kind) refl in
      let outputs : count text name (outputs_of (flat_map bel_wires (bel ∷ bels))) ≡ count text name (outputs_of (bel_wires bel)) + count text name (outputs_of (flat_map bel_wires bels)) =
      counts text name _ (outputs_of (bel_wires bel)) (outputs_of (flat_map bel_wires bels)) (outputs_append (bel_wires bel) (flat_map bel_wires bels)) in
      let pads : count text name (out_names (flat_map ports_of (enumerate_from first (bel ∷ bels)))) ≡ count text name (pad_drives first bel.kind) + count text name (out_names (flat_map ports_of (enumerate_from (first + 1) bels))) =
      counts text name _ (pad_drives first bel.kind) (out_names (flat_map ports_of (enumerate_from (first + 1) bels)))
      (out_append (pad_ports first bel.kind) (flat_map ports_of (enumerate_from (first + 1) bels))
      ∙ ap (λ front. front ++ out_names (flat_map ports_of (enumerate_from (first + 1) bels))) (pad_outs first bel.kind)) in
      let all : count text name (map wire_name (flat_map bel_wires (bel ∷ bels))) ≡ count text name (map wire_name (bel_wires bel)) + count text name (map wire_name (flat_map bel_wires bels)) =
      counts text name _ (map wire_name (bel_wires bel)) (map wire_name (flat_map bel_wires bels)) (map-append wire_name (bel_wires bel) (flat_map bel_wires bels)) in
      let pins : count text name (map wire_name (bel_wires bel)) ≡ count text name (outputs_of (bel_wires bel)) + count text name (pin_drives bel) =
      counts text name _ (outputs_of (bel_wires bel)) (pin_drives bel) (pins_split bel.kind bel.prefix) in
      omega (arith, later)

-- ---- configuration and matrix

wires_drive_none : (text : List PlainModule) (names : List (List ℕ)) → drives text (map (wire Scalar) names) ≡ []
wires_drive_none text [] = refl
wires_drive_none text (name ∷ names) = wires_drive_none text names

bits_drive_none : (text : List PlainModule) (bits : ℕ) → drives text (bits_wire bits) ≡ []
bits_drive_none text zero = refl
bits_drive_none text (suc bits) = refl

-- a configuration drives the outputs by which its bits come and go, and its bits; without bits an assignment drives those outputs
config_joined : (mode : Mode) (tile : PlainTile) → joined_names (Some (config_module mode tile)) (config_joins mode) ++ [] ≡ out_names (config_ports mode) ++ bits_name ∷ []
config_joined modes.Frames tile = refl
config_joined modes.Chain tile = refl

unconfigured_drives : (mode : Mode) (text : List PlainModule) → drives text (no_config mode) ≡ out_names (config_ports mode) ++ []
unconfigured_drives modes.Frames text = refl
unconfigured_drives modes.Chain text = refl

module _ (tile : PlainTile) (is : IsTile tile) where
  abbrev Directed : Port → Type 0
  Directed port = is_input (matrix_module tile).ports port.name ≡ port.input

  abbrev IsToInput : PlainJoin → Type 0
  IsToInput join = is_input_of (Some (matrix_module tile)) join.port ≡ true

  bits_inputs : (low bits : ℕ) → All Directed (config_port bits) → All IsToInput (bits_join low bits)
  bits_inputs low zero directed = All-nil IsToInput
  bits_inputs low (suc bits) directed = All-cons IsToInput _ [] (All-head Directed _ [] directed) (All-nil IsToInput)

  matrix_drives : joined_names (Some (matrix_module tile)) (matrix_joins tile) ≡ matrix_output_names tile
  matrix_drives =
      let below = Some (matrix_module tile) in
      let low = bel_bits tile in
      let bits = select_bits nat_eq (numbered_pairs tile) in
      let inputs = map (scalar true) (matrix_input_names tile) in
      let selects = config_port (select_bits nat_eq (named_pairs tile)) in
      let same : select_bits nat_eq (named_pairs tile) ≡ bits = bits_same (matrix_names tile) tile.pairs in
      let all : All Directed (matrix_module tile).ports = directions (matrix_module tile).ports (matrix_ports_apart tile is) in
      let later : All Directed (selects ++ _) = all_right Directed inputs _ all in
      let outputs : All Directed (map (scalar false) (matrix_output_names tile)) = subst (All Directed) (output_ports tile) (all_right Directed selects _ later) in
      let to_inputs : All IsToInput (map same_join (matrix_input_names tile)) =
      All-map IsToInput same_join (matrix_input_names tile) (all_unmap Directed (scalar true) (matrix_input_names tile) (all_left Directed inputs _ all)) in
      let to_selects : All IsToInput (bits_join low bits) = bits_inputs low bits (subst (λ n. All Directed (config_port n)) same (all_left Directed selects _ later)) in
      drives_append below (map same_join (matrix_input_names tile)) (bits_join low bits ++ map same_join (matrix_output_names tile))
      ∙ ap (λ front. front ++ joined_names below (bits_join low bits ++ map same_join (matrix_output_names tile))) (inputs_drive_none below (map same_join (matrix_input_names tile)) to_inputs)
      ∙ drives_append below (bits_join low bits) (map same_join (matrix_output_names tile))
      ∙ ap (λ front. front ++ joined_names below (map same_join (matrix_output_names tile))) (inputs_drive_none below (bits_join low bits) to_selects)
      ∙ outputs_drive below (λ name. name) (matrix_output_names tile) (all_unmap Directed (scalar false) (matrix_output_names tile) outputs)
      ∙ map_same (matrix_output_names tile)
    where
      map_same : (names : List (List ℕ)) → map (λ name. name) names ≡ names
      map_same [] = refl
      map_same (name ∷ names) = ap (λ rest. name ∷ rest) (map_same names)

  module _ (mode : Mode) (text : List PlainModule) (has : HasModules mode text tile) where
    config_drives : (bits : ℕ) → tile_bits tile ≡ bits → drives text (config_instances mode tile bits) ≡ out_names (config_ports mode) ++ bits_names bits
    config_drives zero are = unconfigured_drives mode text
    config_drives (suc bits) are =
        let some : 0 < tile_bits tile = (let all : tile_bits tile ≡ suc bits = are in omega arith) in
        ap (λ of. joined_names of (config_joins mode) ++ []) (has.config_is some) ∙ config_joined mode tile

    matrix_instance_drives : (outputs : List (List ℕ)) → matrix_output_names tile ≡ outputs → drives text (matrix_instances tile outputs) ≡ outputs
    matrix_instance_drives [] are = refl
    matrix_instance_drives (output ∷ outputs) are =
        let some : 0 < length (matrix_output_names tile) = (let all : length (matrix_output_names tile) ≡ suc (length outputs) = ap length are in omega arith) in
        ap (λ of. joined_names of (matrix_joins tile) ++ []) (has.matrix_is some)
        ∙ append-nil (joined_names (Some (matrix_module tile)) (matrix_joins tile))
        ∙ matrix_drives
        ∙ are

    module _ (name : List ℕ) where
      -- together: a name is driven as often as it is an output or a net of the tile
      pub drives_declared : count text name (drives text (tile_items mode tile)) ≡ count text name (out_names (tile_ports mode tile)) + count text name (net_names (declarations tile))
      drives_declared =
          let wires = map (wire Scalar) (matrix_names tile) in
          let rows = flat_map row_assigns tile.rows in
          let config = config_instances mode tile (tile_bits tile) in
          let matrix = matrix_instances tile (matrix_output_names tile) in
          let bels = bel_instances tile.bels in
          let first : count text name (drives text (tile_items mode tile)) ≡ count text name (drives text wires) + count text name (drives text (bits_wire (tile_bits tile) ++ (rows ++ (config ++ (matrix ++ bels))))) =
          counts text name _ (drives text wires) (drives text (bits_wire (tile_bits tile) ++ (rows ++ (config ++ (matrix ++ bels))))) (drives_both text wires (bits_wire (tile_bits tile) ++ (rows ++ (config ++ (matrix ++ bels))))) in
          let second : count text name (drives text (bits_wire (tile_bits tile) ++ (rows ++ (config ++ (matrix ++ bels))))) ≡ count text name (drives text (bits_wire (tile_bits tile))) + count text name (drives text (rows ++ (config ++ (matrix ++ bels)))) =
          counts text name _ (drives text (bits_wire (tile_bits tile))) (drives text (rows ++ (config ++ (matrix ++ bels)))) (drives_both text (bits_wire (tile_bits tile)) (rows ++ (config ++ (matrix ++ bels)))) in
          let third : count text name (drives text (rows ++ (config ++ (matrix ++ bels)))) ≡ count text name (drives text rows) + count text name (drives text (config ++ (matrix ++ bels))) =
          counts text name _ (drives text rows) (drives text (config ++ (matrix ++ bels))) (drives_both text rows (config ++ (matrix ++ bels))) in
          let fourth : count text name (drives text (config ++ (matrix ++ bels))) ≡ count text name (drives text config) + count text name (drives text (matrix ++ bels)) =
          counts text name _ (drives text config) (drives text (matrix ++ bels)) (drives_both text config (matrix ++ bels)) in
          let fifth : count text name (drives text (matrix ++ bels)) ≡ count text name (drives text matrix) + count text name (drives text bels) =
          counts text name _ (drives text matrix) (drives text bels) (drives_both text matrix bels) in
          let of_wires : count text name (drives text wires) ≡ 0 = ap (count text name) (wires_drive_none text (matrix_names tile)) in
          let of_bits : count text name (drives text (bits_wire (tile_bits tile))) ≡ 0 = ap (count text name) (bits_drive_none text (tile_bits tile)) in
          let of_config : count text name (drives text config) ≡ count text name (out_names (config_ports mode)) + count text name (bits_names (tile_bits tile)) =
          counts text name _ (out_names (config_ports mode)) (bits_names (tile_bits tile)) (config_drives (tile_bits tile) refl) in
          let of_matrix : count text name (drives text matrix) ≡ count text name (matrix_output_names tile) = ap (count text name) (matrix_instance_drives (matrix_output_names tile) refl) in
          let outputs : count text name (matrix_output_names tile) ≡ count text name (outputs_of (flat_map row_wires tile.rows)) + count text name (outputs_of (flat_map bel_wires tile.bels)) =
          counts text name _ (outputs_of (flat_map row_wires tile.rows)) (outputs_of (flat_map bel_wires tile.bels)) (outputs_append (flat_map row_wires tile.rows) (flat_map bel_wires tile.bels)) in
          let names : count text name (matrix_names tile) ≡ count text name (map wire_name (flat_map row_wires tile.rows)) + count text name (map wire_name (flat_map bel_wires tile.bels)) =
          counts text name _ (map wire_name (flat_map row_wires tile.rows)) (map wire_name (flat_map bel_wires tile.bels)) (map-append wire_name (flat_map row_wires tile.rows) (flat_map bel_wires tile.bels)) in
          let declared : count text name (net_names (declarations tile)) ≡ count text name (matrix_names tile) + count text name (bits_names (tile_bits tile)) =
          counts text name _ (matrix_names tile) (bits_names (tile_bits tile)) (declared_names tile) in
          let ports : count text name (out_names (tile_ports mode tile)) ≡ count text name (out_names (config_ports mode)) + count text name (out_names (flat_map border_ports tile.rows ++ bels_ports tile.bels)) =
          counts text name _ (out_names (config_ports mode)) (out_names (flat_map border_ports tile.rows ++ bels_ports tile.bels)) (out_append (config_ports mode) (flat_map border_ports tile.rows ++ bels_ports tile.bels)) in
          let later_ports : count text name (out_names (flat_map border_ports tile.rows ++ bels_ports tile.bels)) ≡ count text name (out_names (flat_map border_ports tile.rows)) + count text name (out_names (bels_ports tile.bels)) =
          counts text name _ (out_names (flat_map border_ports tile.rows)) (out_names (bels_ports tile.bels)) (out_append (flat_map border_ports tile.rows) (bels_ports tile.bels)) in
          omega (arith, rows_count text name tile.rows is.rows, bels_count text name (bits_before tile.bels) 0 tile.bels has.kinds_are)
