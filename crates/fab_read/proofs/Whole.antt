-- What stands behind all rows of a fabric file.
use Rattle.std.proofs.Common.{◌≡◌, ◌<◌, ◌≤◌, ℕ, List, Option, Some, None, sym, ◌∙◌, subst}
use Rattle.fab_base.specs.Reading.{fault_at}
use Rattle.fab_base.specs.declared.words.Reason.TheVariants as reasons
use Rattle.fab_base.specs.declared.words.Quantity.TheVariants as quantities
use Rattle.fab_base.specs.declared.problem.Problem.TheVariants as problems
use Rattle.fab_desk.specs.Files.{Map}
use Rattle.fab_model.specs.Tiles.{PlainTile}
use Rattle.fab_model.specs.Grid.{PlainFabric}
use Rattle.fab_fabric.specs.Fabric.{fabric_of, in_mode, wire_count}
use Rattle.fab_lines.specs.Counts.{last_line}
use Rattle.fab_files.specs.Files.{refuses}
use Rattle.fab_blocks.specs.Reading.{PlainReading, PlainGridLine, start}
use Rattle.fab_read.specs.inner.Following.{ReadsFileTo}
use Rattle.fab_read.specs.Fabrics.{top, strange_line, column_count, places, grid_fabric, most_wires, ReadsParts, SpellsFabric, MeetsFabric, no_grid, no_tile, many_wires}

module _ (files : Map) (name : List ℕ) (reading : PlainReading) (last : ℕ) (read : ReadsFileTo files (top name) start reading last) where
  pub grid_absent : reading.grid ≡ None → MeetsFabric files name (refuses (fault_at name last (problems.Malformed reasons.Grid)))
  grid_absent none = subst (λ (n : ℕ). MeetsFabric files name (refuses (fault_at name n (problems.Malformed reasons.Grid)))) (sym read.2) (no_grid read.1 none)

  module _ (types : List PlainTile) (types_are : types ≡ reading.types) (lines : List PlainGridLine) (grid_is : reading.grid ≡ Some lines) where
    pub tile_absent : (line : PlainGridLine) → strange_line types lines ≡ Some line → MeetsFabric files name (refuses (fault_at line.file line.line (problems.Malformed reasons.Tile)))
    tile_absent line strange = no_tile read.1 grid_is (subst (λ (ts : List PlainTile). strange_line ts lines ≡ Some line) types_are strange)

    parts : strange_line types lines ≡ None → ReadsParts files name read.0 types lines
    parts named = record { reading = reading; read = read.1; types_are = types_are; grid_is = grid_is; named = named }

    pub wires_past : (columns : ℕ) (grid : List (Option ℕ)) (wires : ℕ) → strange_line types lines ≡ None → columns ≡ column_count lines → grid ≡ places types lines → wires ≡ wire_count (fabric_of types columns grid) → most_wires < wires
        → MeetsFabric files name (refuses (fault_at name last (problems.Limit quantities.Wires wires most_wires)))
    wires_past columns grid wires named columns_are grid_are wires_are past =
        let count : wires ≡ wire_count (grid_fabric types lines) = wires_are ∙ (λ j. wire_count (fabric_of types (columns_are j) (grid_are j))) in
        let met = many_wires (parts named) (subst (λ (n : ℕ). most_wires < n) count past) in
        let here : refuses (fault_at name (last_line read.0) (problems.Limit quantities.Wires (wire_count (grid_fabric types lines)) most_wires)) ≡ refuses (fault_at name last (problems.Limit quantities.Wires wires most_wires)) =
        λ j. refuses (fault_at name (sym read.2 j) (problems.Limit quantities.Wires (sym count j) most_wires)) in
        subst (MeetsFabric files name) here met

    -- the fabric is in the mode that the rows told
    pub spells : (columns : ℕ) (grid : List (Option ℕ)) (wires : ℕ) (fabric : PlainFabric) → strange_line types lines ≡ None → columns ≡ column_count lines → grid ≡ places types lines
        → wires ≡ wire_count (fabric_of types columns grid) → wires ≤ most_wires → fabric ≡ in_mode reading.configuration (fabric_of types columns grid) → SpellsFabric files name fabric
    unfolding parts
    spells columns grid wires fabric named columns_are grid_are wires_are few is =
        let count : wires ≡ wire_count (grid_fabric types lines) = wires_are ∙ (λ j. wire_count (fabric_of types (columns_are j) (grid_are j))) in
        record {
          bytes = read.0;
          types = types;
          lines = lines;
          parts = parts named;
          few_wires = subst (λ (n : ℕ). n ≤ most_wires) count few;
          is = is ∙ (λ j. in_mode reading.configuration (fabric_of types (columns_are j) (grid_are j)));
        }
