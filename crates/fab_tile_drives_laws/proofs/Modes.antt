-- What the ports of a configuration have in common in both modes, and what stands in a tile without configuration bits.
use Rattle.std.proofs.Common.{◌≡◌, ℕ, false, List, [], ◌∷◌, ◌++◌, map, refl, All, Contains}
use Rattle.std.proofs.lemmas.List.Elements.{Contains-append_right}
use Rattle.fab_gen_tile.specs.fab_syntax.specs.declared.tree.Port.{Port}
use Rattle.fab_gen_tile.specs.fab_syntax.specs.Plain.{PlainItem, variable}
use Rattle.fab_gen_tile.specs.fab_syntax.specs.Declarations.{width_if_any, item_shape, declared_width, is_input}
use Rattle.fab_gen_tile.specs.fab_meaning.specs.Points.{instance_named}
use Rattle.fab_gen_tile.specs.fab_meaning.specs.Ports.{config_name}
use Rattle.fab_gen_tile.specs.fab_model.specs.declared.mode.Mode.{Mode}
use Rattle.fab_gen_tile.specs.fab_model.specs.declared.mode.Mode.TheVariants as modes
use Rattle.fab_gen_tile.specs.Names.{latch_name, bits_name, vector, port_join, same_join}
use Rattle.fab_gen_tile.specs.ConfigModule.{config_ports, frame_ports, chain_ports}
use Rattle.fab_gen_tile.specs.TileModule.{no_config, config_joins}
use Rattle.fab_tile_drives_laws.proofs.Members.{contains_first}

-- what holds of the ports of each mode holds of those of any
pub each_mode : (P : Port → Type 0) → All P frame_ports → All P chain_ports → (mode : Mode) → All P (config_ports mode)
each_mode P frames chain modes.Frames = frames
each_mode P frames chain modes.Chain = chain

-- ---- the ports of a configuration of so many bits

abbrev all_ports : Mode → (bits : ℕ) → List Port
all_ports mode bits = config_ports mode ++ vector false bits config_name ∷ []

pub bits_port : (mode : Mode) (bits : ℕ) (items : List PlainItem) → declared_width (all_ports mode bits) items config_name ≡ bits
bits_port modes.Frames bits items = refl
bits_port modes.Chain bits items = refl

pub bits_output : (mode : Mode) (bits : ℕ) → is_input (all_ports mode bits) config_name ≡ false
bits_output modes.Frames bits = refl
bits_output modes.Chain bits = refl

-- no port has the name of a bit's register
pub register_behind : (mode : Mode) (bits bit : ℕ) (items : List PlainItem) →
    declared_width (all_ports mode bits) items (latch_name bit) ≡ width_if_any (item_shape items (latch_name bit))
register_behind modes.Frames bits bit items = refl
register_behind modes.Chain bits bit items = refl

-- ---- in the tile

-- what stands there without configuration bits is no instance
pub no_instance : (mode : Mode) (items : List PlainItem) (name : List ℕ) → instance_named (no_config mode ++ items) name ≡ instance_named items name
no_instance modes.Frames items name = refl
no_instance modes.Chain items name = refl

pub bits_joined : (mode : Mode) → Contains (config_joins mode) (port_join config_name (variable bits_name))
bits_joined mode =
    let join = port_join config_name (variable bits_name) in
    Contains-append_right (map (λ (port : Port). same_join port.name) (config_ports mode)) (join ∷ []) join (contains_first join [])
