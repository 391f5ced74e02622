-- When the configuration bits of a fabric are known where its text uses them.
use Rattle.std.specs.Prelude.{◌≡◌, ◌<◌, ℕ, ◌+◌, Bool, codes, length, nat_eq, slice_get, Some}
use Rattle.fab_kinds.specs.declared.kind.Kind.TheVariants as kinds
use Rattle.fab_kinds.specs.Pins.{bit_count}
use Rattle.fab_systems_laws.specs.Ternary.{known}
use Rattle.fab_meaning.specs.Points.{Path, point}
use Rattle.fab_select.specs.Selection.{select_bits}
use Rattle.fab_model.specs.declared.tiles.Bel.{Bel}
use Rattle.fab_model.specs.Tiles.{PlainTile, numbered_pairs, bel_bits, bits_before}
use Rattle.fab_model.specs.Grid.{PlainFabric, tile_at}
use Rattle.fab_model.specs.Drive.{PlainBits}
use Rattle.fab_meaning.specs.Ports.{config_name}
use Rattle.fab_use_defs.specs.fab_gen_tile_TileModule.{matrix_output_names}
use Rattle.fab_use_defs.specs.fab_tile_drives_laws_Stands.{matrix_path, bel_path}
use Rattle.fab_use_defs.specs.fab_drives_laws_Points.{place_path}
use Rattle.fab_ternary_laws.specs.Shown.{Terns}

-- In a tile: the select bits of the switch matrix, the configuration bits of BELs, and the tables of LUTs.
pub record KnowsTile (path : Path) (tile : PlainTile) (bits : ℕ → Bool) (t : Terns) : Type 0 where
  pub selects : (bit : ℕ) → 0 < length (matrix_output_names tile) → bit < select_bits nat_eq (numbered_pairs tile) → t (point (matrix_path path) config_name bit) ≡ known (bits (bel_bits tile + bit))
  pub bels : (bel bit : ℕ) (found : Bel) → slice_get tile.bels bel ≡ Some found → bit < bit_count found.kind →
      t (point (bel_path path bel) config_name bit) ≡ known (bits (bits_before tile.bels bel + bit))
  pub tables : (bel bit : ℕ) (found : Bel) → slice_get tile.bels bel ≡ Some found → found.kind ≡ kinds.Lut4c → bit < 16 →
      t (point (bel_path path bel) (codes "init") bit) ≡ known (bits (bits_before tile.bels bel + bit))

-- of each tile of a fabric
abbrev pub KnowsBits : PlainFabric → PlainBits → Terns → Type 0
KnowsBits fabric bits t = (x y : ℕ) (tile : PlainTile) → tile_at fabric x y ≡ Some tile → KnowsTile (place_path x y) tile (bits x y) t
