-- The values of output pins.
use Rattle.std.proofs.Common.{◌≡◌, ℕ, ◌+◌, ◌-◌, ◌<◌, ◌≤◌, Bool, List, [], ◌∷◌, ◌++◌, length, map, slice_get, get_or, refl, sym, ap, ◌∙◌, subst, arith, Some, option_map, All, Contains}
use Rattle.std.specs.Option.{option_map_or}
use Rattle.std.proofs.lemmas.List.{get_or_default, get_or-append_right, length-append}
use Rattle.std.proofs.lemmas.List.Elements.{All-head, All-tail, All-contains, Contains-append_left, Contains-get_or}
use Rattle.std.proofs.lemmas.Option.{slice_get-get_or}
use Rattle.fab_bits.specs.Bits.{first_bits}
use Rattle.fab_bits.proofs.Numbers.{first_bits_same}
use Rattle.fab_kinds.specs.Pins.{input_names, output_names, input_count, pin_names, bit_count}
use Rattle.fab_kinds.specs.Kinds.{output_of}
use Rattle.fab_gen_tile.specs.fab_syntax.specs.Plain.{PlainModule, variable}
use Rattle.fab_gen_tile.specs.fab_syntax.specs.Declarations.{module_named}
use Rattle.fab_gen_tile.specs.fab_meaning.specs.Points.{Path, point, module_at}
use Rattle.fab_gen_tile.specs.fab_meaning.specs.Settled.{Assignment}
use Rattle.fab_gen_tile.specs.fab_model.specs.declared.mode.Mode.{Mode}
use Rattle.fab_gen_tile.specs.fab_model.specs.declared.tiles.Bel.{Bel}
use Rattle.fab_gen_tile.specs.fab_model.specs.Tiles.{PlainTile, bel_pin, wire_name, matrix_names, bits_before}
use Rattle.fab_gen_tile.specs.fab_model.specs.Wires.{pin_of, pin_count, IsWire}
use Rattle.fab_gen_tile.specs.fab_meaning.specs.Ports.{config_name}
use Rattle.fab_gen_tile.specs.fab_prim.specs.Ports.{top_name, top_inputs}
use Rattle.fab_gen_tile.specs.fab_prim.specs.Modules.{module_name, module_of_kind, flip_flop_name}
use Rattle.fab_gen_tile.specs.fab_prim.specs.Works.{pin_values, config_values, top_value}
use Rattle.fab_gen_tile.specs.fab_prim.proofs.Works.{primitive_works}
use Rattle.fab_gen_tile.specs.Names.{bel_instance_name, pad_name}
use Rattle.fab_gen_tile.specs.TileModule.{bel_joins, tile_module}
use Rattle.fab_tile_drives_laws.specs.Stands.{TileStands, bel_path, name_of, IsSettledOnDeclared}
use Rattle.fab_tile_drives_laws.specs.Tiles.{ShowsTileBits, IsOwnOfPin, itself, configuration, in_bel, ShowsPins, pin_value}
use Rattle.fab_tile_drives_laws.proofs.Members.{contains_at}
use Rattle.fab_tile_drives_laws.proofs.TileNames.{name_wide, top_wide}
use Rattle.fab_tile_drives_laws.proofs.TileItems.{bel_found, bel_there}
use Rattle.fab_tile_drives_laws.proofs.Driven.{width_of, variable_bit, joined_in, joined_out}
use Rattle.fab_tile_drives_laws.proofs.WireNames.{name_there}
use Rattle.fab_tile_drives_laws.proofs.BitValues.{inside, instance_shows}
use Rattle.fab_tile_drives_laws.proofs.PinPorts.{IsNoInput, first_input, first_width, config_input, config_width, outputs_are_outputs, top_input, top_width, top_matters, input_joined, config_joined, top_joined, output_joined, bits_within}

-- names with equal values, one after another
values_same : (value other : List ℕ → Bool) (names : List (List ℕ)) → All (λ name. value name ≡ other name) names → map value names ≡ map other names
values_same value other [] same = refl
values_same value other (name ∷ names) same =
    let here : value name ≡ other name = All-head (λ n. value n ≡ other n) name names same in
    let rest : map value names ≡ map other names = values_same value other names (All-tail (λ n. value n ≡ other n) name names same) in
    λ j. here j ∷ rest j

module _ (tile : PlainTile) (bel : ℕ) (found : Bel) (there : slice_get tile.bels bel ≡ Some found) where
  pin_exists : (pin : ℕ) → pin < pin_count found → IsWire tile (pin_of bel pin)
  pin_exists pin few = subst (λ o. pin < option_map_or pin_count o 0) (sym there) few

  abbrev pin_name : ℕ → List ℕ
  pin_name pin = get_or (pin_names found.kind) pin []

  named : (pin : ℕ) → name_of tile (pin_of bel pin) ≡ found.prefix ++ pin_name pin
  named pin = ap (λ o. option_map_or wire_name (option_map (λ found. bel_pin found pin) o) []) there

  -- a pin's matrix name
  pin_there : (pin : ℕ) → pin < pin_count found → Contains (matrix_names tile) (found.prefix ++ pin_name pin)
  pin_there pin few = subst (Contains (matrix_names tile)) (named pin) (name_there tile (pin_of bel pin) (pin_exists pin few))

  input_wide : (mode : Mode) (name : List ℕ) → Contains (input_names found.kind) name → 0 < width_of (tile_module mode tile) (found.prefix ++ name)
  input_wide mode name among =
      let all : Contains (pin_names found.kind) name = Contains-append_left (input_names found.kind) (output_names found.kind) name among in
      let same : get_or (pin_names found.kind) all.0 [] ≡ name = get_or_default (pin_names found.kind) all.0 [] name all.1 ∙ all.2 in
      name_wide mode tile (found.prefix ++ name) (subst (λ n. Contains (matrix_names tile) (found.prefix ++ n)) same (pin_there all.0 all.1))

  -- a pin behind the inputs is an output
  output_there : (pin : ℕ) → input_count found.kind ≤ pin → pin < pin_count found → Contains (output_names found.kind) (pin_name pin)
  output_there pin past few =
      let inputs = input_names found.kind in
      let outputs = output_names found.kind in
      let inside : pin - length inputs < length outputs = omega (arith, length-append inputs outputs) in
      let same : pin_name pin ≡ get_or outputs (pin - length inputs) [] = get_or-append_right inputs outputs (length inputs) pin [] refl past in
      contains_at outputs (pin - length inputs) (pin_name pin) (slice_get-get_or outputs (pin - length inputs) [] inside ∙ ap Some (sym same))

  module _ (mode : Mode) (text : List PlainModule) (path : Path) (stands : TileStands mode text path tile) (bits : ℕ → Bool) (pin : ℕ) (past : input_count found.kind ≤ pin) (few : pin < pin_count found)
      (inputs held now : Assignment) (shows : ShowsTileBits path tile bits now) (settled : IsSettledOnDeclared (IsOwnOfPin path tile bel pin) text inputs held now) where
    abbrev kind_module : PlainModule
    kind_module = module_of_kind found.kind

    abbrev here : Path
    here = bel_path path bel

    abbrev low : ℕ
    low = bits_before tile.bels bel

    of_kind : module_named text (module_name found.kind) ≡ Some kind_module
    of_kind =
        All-contains (λ (b : Bel). module_named text (module_name b.kind) ≡ Some (module_of_kind b.kind)) tile.bels found stands.kinds_are (contains_at tile.bels bel found there)

    placed : module_at text here ≡ Some kind_module
    placed = inside mode text path tile (bel_instance_name bel) _ kind_module stands.tile_is (bel_found mode tile bel found there) of_kind

    -- the pin copies its port
    copies : now (point path (found.prefix ++ pin_name pin) 0) ≡ now (point here (pin_name pin) 0)
    copies =
        joined_out (IsOwnOfPin path tile bel pin) text inputs held now settled path (tile_module mode tile) kind_module (module_name found.kind) (bel_instance_name bel)
        (bel_joins bel low found) stands.tile_is of_kind (bel_there mode tile bel found there) (pin_name pin) (found.prefix ++ pin_name pin) 0
        (output_joined bel low found (pin_name pin) (output_there pin past few))
        (All-contains (IsNoInput found.kind) (output_names found.kind) (pin_name pin) (outputs_are_outputs found.kind) (output_there pin past few))
        (name_wide mode tile (found.prefix ++ pin_name pin) (pin_there pin few))
        (subst (λ n. IsOwnOfPin path tile bel pin (point path n 0)) (named pin) itself)

    -- an input port has the value of its pin
    input_value : (name : List ℕ) → Contains (input_names found.kind) name → now (point here name 0) ≡ now (point path (found.prefix ++ name) 0)
    input_value name among =
        let one : width_of kind_module name ≡ 1 = first_width (input_names found.kind) _ kind_module.items name among in
        joined_in (IsOwnOfPin path tile bel pin) text inputs held now settled path (tile_module mode tile) kind_module (module_name found.kind) (bel_instance_name bel)
        (bel_joins bel low found) stands.tile_is of_kind (bel_there mode tile bel found there) name (variable (found.prefix ++ name)) 0
        (input_joined bel low found name among) placed (first_input (input_names found.kind) _ name among) (omega arith) (in_bel refl)
        ∙ variable_bit text now path (tile_module mode tile) stands.tile_is (found.prefix ++ name) 0 (input_wide mode name among)

    -- and what comes from outside that of its port of the tile
    top_value_is : Contains (top_inputs found.kind) top_name → now (point here top_name 0) ≡ now (point path (pad_name bel top_name) 0)
    top_value_is among =
        let one : width_of kind_module top_name ≡ 1 = top_width found.kind top_name among in
        joined_in (IsOwnOfPin path tile bel pin) text inputs held now settled path (tile_module mode tile) kind_module (module_name found.kind) (bel_instance_name bel)
        (bel_joins bel low found) stands.tile_is of_kind (bel_there mode tile bel found there) top_name (variable (pad_name bel top_name)) 0
        (top_joined bel low found top_name among) placed (top_input found.kind top_name among) (omega arith) (in_bel refl)
        ∙ variable_bit text now path (tile_module mode tile) stands.tile_is (pad_name bel top_name) 0 (top_wide mode tile bel found top_name there among)

    -- the configuration bits are those of the BEL
    config_bit : (bit : ℕ) → bit < bit_count found.kind → now (point here config_name bit) ≡ bits (low + bit)
    config_bit bit within =
        let width : width_of kind_module config_name ≡ bit_count found.kind = config_width found.kind (omega arith) in
        let enough : bits_before tile.bels bel + bit_count found.kind ≤ _ = bits_within tile.bels bel found there in
        instance_shows mode text path tile stands bits (IsOwnOfPin path tile bel pin) (λ p own. configuration own) inputs held now shows settled
        kind_module (module_name found.kind) (bel_instance_name bel) (bel_joins bel low found) placed of_kind (bel_there mode tile bel found there)
        low (bit_count found.kind) bit (config_joined bel low found) (config_input found.kind (omega arith)) (omega arith) (omega arith) within

    pub pin_shows : now (point path (name_of tile (pin_of bel pin)) 0) ≡ pin_value path tile bits held now bel pin found
    pin_shows =
        let works = primitive_works found.kind text here inputs held now placed (λ p d own drives. settled p d (in_bel own.here, own.declared) drives) in
        let pins : pin_values found.kind now here ≡ map (λ name. now (point path (found.prefix ++ name) 0)) (input_names found.kind) =
        values_same (λ name. now (point here name 0)) (λ name. now (point path (found.prefix ++ name) 0)) (input_names found.kind)
        (λ k d within. input_value (get_or (input_names found.kind) k d) (Contains-get_or (input_names found.kind) k d within)) in
        let config : config_values found.kind now here ≡ first_bits (bit_count found.kind) (λ bit. bits (low + bit)) =
        first_bits_same (bit_count found.kind) (λ bit. now (point here config_name bit)) (λ bit. bits (low + bit)) config_bit in
        let kept = held (point here flip_flop_name 0) in
        ap (λ n. now (point path n 0)) (named pin)
        ∙ copies
        ∙ works.outputs pin (pin_name pin) past (slice_get-get_or (pin_names found.kind) pin [] few)
        ∙ (λ j. output_of found.kind pin (pins j) (config j) kept (top_value now here))
        ∙ top_matters found.kind pin _ _ kept (top_value now here) (now (point path (pad_name bel top_name) 0)) top_value_is

pub pins_show : (mode : Mode) (text : List PlainModule) (path : Path) (tile : PlainTile) → TileStands mode text path tile → ShowsPins text path tile
pins_show mode text path tile stands bits inputs held now bel pin found shows there past few settled =
    pin_shows tile bel found there mode text path stands bits pin past few inputs held now shows settled
