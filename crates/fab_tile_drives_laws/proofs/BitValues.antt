-- The configuration bits come from what keeps them to the instances that use them.
use Rattle.std.proofs.Common.{◌≡◌, ℕ, zero, suc, ◌+◌, ◌<◌, ◌≤◌, Bool, true, List, [], ◌∷◌, refl, ap, ◌∙◌, arith, Some, Contains}
use Rattle.fab_gen_tile.specs.fab_syntax.specs.Plain.{PlainJoin, PlainModule, part, instance}
use Rattle.fab_gen_tile.specs.fab_syntax.specs.Declarations.{module_named, is_input}
use Rattle.fab_gen_tile.specs.fab_meaning.specs.Points.{Path, Point, point, Found, instance_in, instance_named, module_of, module_at}
use Rattle.fab_gen_tile.specs.fab_meaning.specs.Settled.{Assignment}
use Rattle.fab_gen_tile.specs.fab_meaning.specs.Ports.{config_name}
use Rattle.fab_gen_tile.specs.fab_model.specs.declared.mode.Mode.{Mode}
use Rattle.fab_gen_tile.specs.fab_model.specs.Tiles.{PlainTile, tile_bits}
use Rattle.fab_gen_tile.specs.Names.{config_module_name, config_instance_name, bits_name, port_join}
use Rattle.fab_gen_tile.specs.ConfigModule.{all_latches, config_module}
use Rattle.fab_gen_tile.specs.TileModule.{config_joins, bits_join, tile_items, tile_module}
use Rattle.fab_tile_drives_laws.specs.Stands.{TileStands, IsSettledOnDeclared}
use Rattle.fab_tile_drives_laws.specs.Tiles.{ShowsTileBits, IsBitsPoint, in_configuration, in_tile, in_instance}
use Rattle.fab_tile_drives_laws.proofs.Members.{contains_first}
use Rattle.fab_tile_drives_laws.proofs.Modes.{bits_joined, bits_output}
use Rattle.fab_tile_drives_laws.proofs.TileNames.{tile_width, bits_wide}
use Rattle.fab_tile_drives_laws.proofs.TileItems.{config_found, config_there}
use Rattle.fab_tile_drives_laws.proofs.Driven.{width_of, part_bit, assigned, joined_in, joined_out}
use Rattle.fab_tile_drives_laws.proofs.Latches.{all_there, all_width, latches_seen}

-- the module of an instance in a tile
pub inside : (mode : Mode) (text : List PlainModule) (path : Path) (tile : PlainTile) (name : List ℕ) (found : Found) (m : PlainModule) → module_at text path ≡ Some (tile_module mode tile) →
    instance_named (tile_items mode tile) name ≡ Some found → module_named text found.module_name ≡ Some m → module_at text (name ∷ path) ≡ Some m
inside mode text path tile name found m stands is named =
    ap (λ here. module_of text (instance_in here name)) stands ∙ ap (module_of text) is ∙ named

module _ (mode : Mode) (text : List PlainModule) (path : Path) (tile : PlainTile) (stands : TileStands mode text path tile)
    (bits : ℕ → Bool) (Has : Point → Type 0) (covers : (p : Point) → IsBitsPoint path p → Has p)
    (inputs held now : Assignment) (shows : ShowsTileBits path tile bits now) (settled : IsSettledOnDeclared Has text inputs held now) where
  abbrev config_path : Path
  config_path = config_instance_name ∷ path

  configured : 0 < tile_bits tile → module_at text config_path ≡ Some (config_module mode tile)
  configured some = inside mode text path tile config_instance_name _ (config_module mode tile) stands.tile_is (config_found mode tile some) (stands.config_is some)

  -- the port of the configuration
  port_shows : (bit : ℕ) → bit < tile_bits tile → now (point config_path config_name bit) ≡ bits bit
  port_shows bit few =
      let some : 0 < tile_bits tile = omega arith in
      assigned Has text inputs held now settled config_path (config_module mode tile) config_name (all_latches (tile_bits tile)) bit (configured some) (all_there mode tile) (let whole = all_width mode tile in omega (arith, few, whole))
      (covers (point config_path config_name bit) (in_configuration refl))
      ∙ latches_seen mode text now config_path tile (configured some) bit few
      ∙ shows bit few

  -- the wire in the tile
  pub wire_shows : (bit : ℕ) → bit < tile_bits tile → now (point path bits_name bit) ≡ bits bit
  wire_shows bit few =
      let some : 0 < tile_bits tile = omega arith in
      let wide : tile_width mode tile bits_name ≡ tile_bits tile = bits_wide mode tile some in
      joined_out Has text inputs held now settled path (tile_module mode tile) (config_module mode tile) (config_module_name tile) config_instance_name (config_joins mode) stands.tile_is
      (stands.config_is some) (config_there mode tile some) config_name bits_name bit (bits_joined mode) (bits_output mode (tile_bits tile)) (omega arith) (covers (point path bits_name bit) (in_tile refl refl))
      ∙ port_shows bit few

  -- the port of an instance that has some of them
  module _ (inner : PlainModule) (module_name name : List ℕ) (joins : List PlainJoin) (here : module_at text (name ∷ path) ≡ Some inner)
      (named : module_named text module_name ≡ Some inner) (there : Contains (tile_items mode tile) (instance module_name name joins)) where
    pub instance_shows : (low count bit : ℕ) → ((join : PlainJoin) → Contains (bits_join low count) join → Contains joins join) →
        is_input inner.ports config_name ≡ true → count ≤ width_of inner config_name → low + count ≤ tile_bits tile → bit < count →
        now (point (name ∷ path) config_name bit) ≡ bits (low + bit)
    instance_shows low zero bit among input wide within few = absurd (omega arith)
    instance_shows low (suc last) bit among input wide within few =
        let join = port_join config_name (part bits_name (low + last) low) in
        let all : tile_width mode tile bits_name ≡ tile_bits tile = bits_wide mode tile (omega arith) in
        joined_in Has text inputs held now settled path (tile_module mode tile) inner module_name name joins stands.tile_is named there
        config_name (part bits_name (low + last) low) bit (among join (contains_first join [])) here input (omega arith)
        (covers (point (name ∷ path) config_name bit) (in_instance name refl refl))
        ∙ part_bit text now path (tile_module mode tile) stands.tile_is bits_name low last bit (omega arith) (omega arith)
        ∙ wire_shows (low + bit) (omega arith)
