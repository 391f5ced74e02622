-- A fabric that files spell is a fabric of tiles.
use Rattle.std.proofs.Common.{◌≡◌, ℕ, true, List, All, refl, sym, subst}
use Rattle.std.proofs.lemmas.List.Elements.{All-weaker}
use Rattle.fab_desk.specs.Files.{Map}
use Rattle.fab_lines.specs.Names.{is_identifier}
use Rattle.fab_model.specs.Grid.{PlainFabric}
use Rattle.fab_model.specs.Tables.{HasTable}
use Rattle.fab_model.specs.Tiles.{IsTile, matrix_names}
use Rattle.fab_blocks.specs.Reading.{IsReading}
use Rattle.fab_fabric.specs.Fabric.{AreTiles, IsFabric, wire_count}
use Rattle.fab_fabric.proofs.Kept.{is_fabric_in}
use Rattle.fab_gen_tile.specs.Words.{IsNamed}
use Rattle.fab_spelled_fabrics_laws.specs.fab_read_Fabrics.{SpellsFabric, column_count, grid_fabric, places}
use Rattle.fab_spelled_fabrics_laws.proofs.fab_read_Grids.{reading_is_fabric, some_lines}
use Rattle.fab_spelled_fabrics_laws.proofs.Blocks.{names_kept}
use Rattle.fab_spelled_fabrics_laws.proofs.Readings.{spelled_keep}
use Rattle.fab_spelled_fabrics_laws.proofs.Rows.{sound_rows, sound_start}
use Rattle.fab_spelled_fabrics_laws.proofs.Tiles.{IsRead, IsStarted, tiles_kept}
use Rattle.fab_spelled_fabrics_laws.proofs.Words.{tile_named}

module _ (files : Map) (name : List ℕ) (fabric : PlainFabric) (spelled : SpellsFabric files name fabric) where
  all_read : All IsRead fabric.types
  all_read = spelled_keep IsStarted IsRead tiles_kept files name fabric spelled

  sound : IsReading spelled.parts.reading
  sound = sound_rows files spelled.parts.read.reads sound_start

  tables : All HasTable spelled.parts.reading.types
  tables =
      let types = subst (λ (f : PlainFabric). All IsRead f.types) spelled.is all_read in
      All-weaker IsRead HasTable (λ tile read. read.1) spelled.parts.reading.types (subst (All IsRead) spelled.parts.types_are types)

  pub spelled_fabric : IsFabric fabric
  spelled_fabric =
      let parts = spelled.parts in
      let types = spelled.types in
      let lines = spelled.lines in
      subst IsFabric (sym spelled.is)
      (is_fabric_in parts.reading.configuration (grid_fabric types lines)
      (reading_is_fabric parts.reading types lines (column_count lines) (places types lines) (wire_count (grid_fabric types lines)) parts.types_are parts.grid_is sound
      (some_lines parts.reading lines sound parts.read.closed parts.grid_is) tables refl refl refl spelled.few_wires))

  pub spelled_tiles : AreTiles fabric
  spelled_tiles = All-weaker IsRead IsTile (λ tile read. read.0) fabric.types all_read

  pub spelled_words : All (λ tile. All (λ wire. is_identifier wire ≡ true) (matrix_names tile)) fabric.types
  spelled_words =
      All-weaker IsNamed (λ tile. All (λ wire. is_identifier wire ≡ true) (matrix_names tile)) tile_named fabric.types
      (spelled_keep IsNamed IsNamed names_kept files name fabric spelled)
