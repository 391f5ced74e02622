-- The table of a sample's fabric comes to three tiles and a grid, at each size.
use Rattle.std.proofs.Common.{◌≡◌, ◌≤◌, ℕ, ◌+◌, true, false, List, [], ◌∷◌, length, codes, refl, Some, None, arith}
use Rattle.std.specs.Prelude.{nat_le, nat_lt, replicate}
use Rattle.std.specs.List.{flat_map}
use Rattle.std.specs.Fmt.{digits}
use Rattle.std.specs.Str.{is_utf8, chars}
use lib.Utf8.{encode}
use Rattle.csv.specs.Machine.{next_record}
use Rattle.csv.specs.Reading.{strip_bom}
use Rattle.fab_base.specs.declared.TheConstants.{MAX_FILE_BYTES}
use Rattle.fab_rows.specs.Rows.{rows_of}
use Rattle.fab_paths.specs.Paths.{stem, resolved, is_file_name}
use Rattle.fab_select.specs.declared.pair.Pair.{Pair as NumberPair}
use Rattle.fab_names.specs.Names.{come_twice, all_names, text_of}
use Rattle.fab_model.specs.declared.mode.Mode.TheVariants as modes
use Rattle.fab_model.specs.Grid.{PlainFabric}
use Rattle.fab_model.specs.Tiles.{PlainTile, with_table, counted}
use Rattle.fab_fabric.specs.Fabric.{wire_count}
use Rattle.fab_fabric.specs.Sums.{sum_to}
use Rattle.fab_blocks.specs.Cells.{is_signed, is_null, is_tile_name, is_side, long_of, long_problem}
use Rattle.fab_blocks.specs.Words.{is_foreign, dir_of, inner_word, word_of}
use Rattle.fab_blocks.specs.Blocks.{PlainBlock, names, row_names}
use Rattle.fab_blocks.specs.Rows.{has_numbers, has_sides, points, has_ends, wire_reason, kind_of, is_prefix, may_lack_prefix, bel_reason, kind_problem, is_matrix_file, matrix_problem}
use Rattle.fab_blocks.specs.Inner.{foreign_row, path_problem, outer_row, wire_row, bel_row, matrix_row, block_row}
use Rattle.fab_blocks.specs.Reading.{PlainReading, start}
use Rattle.fab_blocks.specs.declared.standing.OpenBlock.TheVariants as blocks
use Rattle.fab_blocks.specs.declared.standing.Parameters.TheVariants as parts
use Rattle.fab_blocks.specs.Saying.{is_place, stands, may_begin, begin_grid, end_grid, is_grid_cell, fits_grid, line_reason, line_limit, grid_line, begin_reason, begin_limit, begin_tile, end_tile, row_in, say, said_of}
use Rattle.fab_read.specs.Tiles.{paired}
use Rattle.fab_read.specs.Fabrics.{top, strange_line, grid_fabric, most_wires}
use Rattle.fab_sample.specs.Lines.{text}
use Rattle.fab_sample.specs.Grid.{fabric_lines}
use Rattle.fab_sample_laws.specs.Fabrics.{row_types}
use Rattle.fab_sample_laws.proofs.Blocks.{west, logic, east, grid_from}
use Rattle.fab_sample_laws.proofs.Selected.{one}
use Rattle.fab_sample_laws.proofs.Runs.{run}

module _ (pairs_of : PlainBlock → List NumberPair) (table_of : PlainBlock → List (ℕ × ℕ)) where
  abbrev pub tile_of : PlainBlock → PlainTile
  tile_of block = with_table (paired block (pairs_of block)) (table_of block)

  abbrev pub types : List PlainTile
  types = tile_of west ∷ tile_of logic ∷ tile_of east ∷ []

  abbrev pub reading_of : (size : ℕ) → PlainReading
  reading_of size =
      record { types = types; grid = Some (grid_from size 2 size); parameters = parts.Absent; configuration = modes.Frames; begun = blocks.Outside }

  abbrev pub fabric_at : (size : ℕ) → PlainFabric
  fabric_at size = grid_fabric types (grid_from size 2 size)

  pub record IsRun (size : ℕ) : Type 0 where
    pub outcome : run tile_of (top (codes "sample.csv")) start (rows_of (text (fabric_lines size))) ≡ record { reading = reading_of size; blocks = west ∷ logic ∷ east ∷ []; is_fine = true }
    pub short : nat_lt MAX_FILE_BYTES (length (text (fabric_lines size))) ≡ false
    pub named : strange_line types (grid_from size 2 size) ≡ None
    pub few_wires : nat_le (wire_count (fabric_at size)) most_wires ≡ true
    pub columns : (fabric_at size).columns ≡ size + 2
    pub rows : (fabric_at size).rows ≡ size
    pub grid : (fabric_at size).grid ≡ flat_map (λ row. row) (replicate size (row_types size))

  each_run : IsRun 2 × IsRun 3 × IsRun 4 × IsRun 5 × IsRun 6 × IsRun 7 × IsRun 8 × IsRun 9 × IsRun 10 × IsRun 11 × IsRun 12 × IsRun 13 × IsRun 14 × IsRun 15 × IsRun 16
  unfolding digits is_utf8 chars encode next_record strip_bom stem resolved is_file_name come_twice all_names text_of counted sum_to is_signed is_null is_tile_name is_side long_of long_problem is_foreign dir_of inner_word word_of names row_names has_numbers has_sides points has_ends wire_reason kind_of is_prefix may_lack_prefix bel_reason kind_problem is_matrix_file matrix_problem foreign_row path_problem outer_row wire_row bel_row matrix_row block_row is_place stands may_begin begin_grid end_grid is_grid_cell fits_grid line_reason line_limit grid_line begin_reason begin_limit begin_tile end_tile row_in say said_of
  each_run = (
    record { outcome = refl; short = refl; named = refl; few_wires = refl; columns = refl; rows = refl; grid = refl },
    record { outcome = refl; short = refl; named = refl; few_wires = refl; columns = refl; rows = refl; grid = refl },
    record { outcome = refl; short = refl; named = refl; few_wires = refl; columns = refl; rows = refl; grid = refl },
    record { outcome = refl; short = refl; named = refl; few_wires = refl; columns = refl; rows = refl; grid = refl },
    record { outcome = refl; short = refl; named = refl; few_wires = refl; columns = refl; rows = refl; grid = refl },
    record { outcome = refl; short = refl; named = refl; few_wires = refl; columns = refl; rows = refl; grid = refl },
    record { outcome = refl; short = refl; named = refl; few_wires = refl; columns = refl; rows = refl; grid = refl },
    record { outcome = refl; short = refl; named = refl; few_wires = refl; columns = refl; rows = refl; grid = refl },
    record { outcome = refl; short = refl; named = refl; few_wires = refl; columns = refl; rows = refl; grid = refl },
    record { outcome = refl; short = refl; named = refl; few_wires = refl; columns = refl; rows = refl; grid = refl },
    record { outcome = refl; short = refl; named = refl; few_wires = refl; columns = refl; rows = refl; grid = refl },
    record { outcome = refl; short = refl; named = refl; few_wires = refl; columns = refl; rows = refl; grid = refl },
    record { outcome = refl; short = refl; named = refl; few_wires = refl; columns = refl; rows = refl; grid = refl },
    record { outcome = refl; short = refl; named = refl; few_wires = refl; columns = refl; rows = refl; grid = refl },
    record { outcome = refl; short = refl; named = refl; few_wires = refl; columns = refl; rows = refl; grid = refl },
  )

  pub runs : (size : ℕ) → 2 ≤ size → size ≤ 16 → IsRun size
  runs size least most =
      one IsRun 2 15 size least (omega (arith, most))
      (each_run.0, (each_run.1, (each_run.2, (each_run.3, (each_run.4, (each_run.5, (each_run.6, (each_run.7, (each_run.8, (each_run.9, (each_run.10, (each_run.11, (each_run.12, (each_run.13, (each_run.14, tt)))))))))))))))
