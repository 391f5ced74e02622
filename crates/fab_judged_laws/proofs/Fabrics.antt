-- A fabric file spells a fabric with all files that it names, or it is refused.
use Rattle.std.proofs.Common.{◌≡◌, ◌+◌, ℕ, zero, suc, Bool, true, false, List, [], ◌∷◌, Option, Some, None, Result, Ok, Err, refl, inl, inr, arith}
use Rattle.std.proofs.lemmas.Bool.{cases_lt}
use Rattle.fab_base.specs.declared.fault.Fault.{Fault}
use Rattle.fab_base.specs.declared.problem.Problem.{Problem}
use Rattle.fab_base.specs.declared.problem.Problem.TheVariants as problems
use Rattle.fab_base.specs.declared.words.Quantity.TheVariants as quantities
use Rattle.fab_base.specs.declared.words.Reason.TheVariants as reasons
use Rattle.fab_base.specs.Reading.{fault_at}
use Rattle.fab_desk.specs.Files.{Map}
use Rattle.fab_rows.specs.Rows.{PlainRow, rows_of}
use Rattle.fab_model.specs.Grid.{PlainFabric}
use Rattle.fab_fabric.specs.Fabric.{in_mode, wire_count}
use Rattle.fab_lines.specs.Counts.{last_line}
use Rattle.fab_files.specs.Files.{handed_out}
use Rattle.fab_blocks.specs.Blocks.{PlainBlock}
use Rattle.fab_blocks.specs.Reading.{PlainReading, PlainHolder, PlainGridLine, start, with_type}
use Rattle.fab_blocks.specs.Saying.{Step, said_of}
use Rattle.fab_blocks.specs.declared.standing.Said.{Said}
use Rattle.fab_blocks.specs.declared.standing.Said.TheVariants as said
use Rattle.fab_read.specs.Rows.{opened_by, is_left_open, end_at, ReadsRows, ends, takes_row, opens_file, ends_tile, MeetsRows, bad_row, at_file, inside, left_open, in_tile, behind_row, behind_file, behind_tile, ReadsFile, MeetsRowsFile, of_file, of_rows, of_end}
use Rattle.fab_read.specs.Fabrics.{top, strange_line, grid_fabric, most_wires, ReadsParts, SpellsFabric, MeetsFabric, of_rows as in_files, no_grid, no_tile, many_wires}
use Rattle.fab_read.proofs.RowByRow.{depth}
use Rattle.fab_read.proofs.Said.{less_deep}
use Rattle.fab_judged_laws.specs.Judged.{IsReadyOrRefused}
use Rattle.fab_judged_laws.proofs.Tiles.{tile_judged}

module _ (files : Map) where
  -- rows come to a reading, or are refused
  abbrev AreJudged : (holder : PlainHolder) (before : PlainReading) → List PlainRow → Type 0
  AreJudged holder before rows = IsReadyOrRefused ((after : PlainReading) × ReadsRows files holder before rows after) (MeetsRows files holder before rows)

  -- rows of files are, from which files may be opened so deep
  abbrev AreJudgedTo : (deep : ℕ) → Type 0
  AreJudgedTo deep = (holder : PlainHolder) (before : PlainReading) (rows : List PlainRow) → depth holder ≡ deep → AreJudged holder before rows

  -- ---- one row, and behind it the rest

  module _ (holder : PlainHolder) (deeper : (other : PlainHolder) → depth holder ≡ depth other + 1 → (before : PlainReading) (rows : List PlainRow) → AreJudged other before rows)
      (before : PlainReading) (row : PlainRow) (rows : List PlainRow) (rest : (next : PlainReading) → AreJudged holder next rows) where
    taken_judged : (next : PlainReading) → said_of before holder row ≡ Ok (next, said.Taken) → AreJudged holder before (row ∷ rows)
    taken_judged next says = elim (rest next) [
      | inl read ↦ inl (read.0, takes_row says read.1)
      | inr refusal ↦ inr (refusal.0, behind_row says refusal.1)
    ]

    tile_ends : (next : PlainReading) (block : PlainBlock) → said_of before holder row ≡ Ok (next, said.EndsTile block) → AreJudged holder before (row ∷ rows)
    tile_ends next block says = elim (tile_judged files (end_at holder row) block) [
      | inr refusal ↦ inr (refusal.0, in_tile says refusal.1)
      | inl tile ↦
          elim (rest (with_type next tile.0)) [
            | inl read ↦ inl (read.0, ends_tile says tile.1 read.1)
            | inr refusal ↦ inr (refusal.0, behind_tile says tile.1 refusal.1)
          ]
    ]

    module _ (next : PlainReading) (says : Said) (other : PlainHolder) (is : said_of before holder row ≡ Ok (next, says)) (opened : opened_by holder next says ≡ Some other) where
      closed_judged : (bytes : List ℕ) (between : PlainReading) → handed_out files other.file ≡ Ok bytes → ReadsRows files other next (rows_of bytes) between
          → (open_still : Bool) → is_left_open other between ≡ open_still → AreJudged holder before (row ∷ rows)
      closed_judged bytes between found inner true open_is =
          inr (fault_at other.file (last_line bytes) (problems.Malformed reasons.EndOfFile), left_open is opened found inner open_is)
      closed_judged bytes between found inner false open_is = elim (rest between) [
        | inl read ↦ inl (read.0, opens_file is opened found inner open_is read.1)
        | inr refusal ↦ inr (refusal.0, behind_file is opened found inner open_is refusal.1)
      ]

      file_judged : (given : Result (List ℕ) Fault) → handed_out files other.file ≡ given → AreJudged holder before (row ∷ rows)
      file_judged (Err fault) found = inr (fault, at_file is opened found)
      file_judged (Ok bytes) found = elim (deeper other (less_deep before holder row next says other is opened) next (rows_of bytes)) [
        | inl read ↦ closed_judged bytes read.0 found read.1 (is_left_open other read.0) refl
        | inr refusal ↦ inr (refusal.0, inside is opened found refusal.1)
      ]

      opened_judged : AreJudged holder before (row ∷ rows)
      opened_judged = file_judged (handed_out files other.file) refl

    by_step : (step : Result Step Problem) → said_of before holder row ≡ step → AreJudged holder before (row ∷ rows)
    by_step (Err problem) is = inr (fault_at holder.file row.line problem, bad_row is)
    by_step (Ok (next, said.Taken)) is = taken_judged next is
    by_step (Ok (next, said.EndsTile block)) is = tile_ends next block is
    by_step (Ok (next, said.Includes file)) is = opened_judged next (said.Includes file) _ is refl
    by_step (Ok (next, said.NamesTiles file)) is = opened_judged next (said.NamesTiles file) _ is refl

  -- ---- all rows, and the files that they open

  one_deeper : (holder : PlainHolder) → ((other : PlainHolder) → depth holder ≡ depth other + 1 → (before : PlainReading) (rows : List PlainRow) → AreJudged other before rows)
      → (before : PlainReading) (rows : List PlainRow) → AreJudged holder before rows
  one_deeper holder deeper before [] = inl (before, ends)
  one_deeper holder deeper before (row ∷ rows) =
      by_step holder deeper before row rows (λ next. one_deeper holder deeper next rows) (said_of before holder row) refl

  rows_judged : (deep : ℕ) → AreJudgedTo deep
  rows_judged zero holder before rows is = one_deeper holder (λ other less. absurd (omega (arith, is, less))) before rows
  rows_judged (suc deep) holder before rows is =
      one_deeper holder (λ other less reading more. rows_judged deep other reading more (omega (arith, is, less))) before rows

-- ---- a file as a whole

module _ (files : Map) (holder : PlainHolder) (before : PlainReading) where
  abbrev FileIsJudged : Type 0
  FileIsJudged = IsReadyOrRefused ((bytes : List ℕ) × (after : PlainReading) × ReadsFile files holder before bytes after) (MeetsRowsFile files holder before)

  by_end : (bytes : List ℕ) (after : PlainReading) → handed_out files holder.file ≡ Ok bytes → ReadsRows files holder before (rows_of bytes) after
      → (open_still : Bool) → is_left_open holder after ≡ open_still → FileIsJudged
  by_end bytes after found read true is = inr (fault_at holder.file (last_line bytes) (problems.Malformed reasons.EndOfFile), of_end found read is)
  by_end bytes after found read false is = inl (bytes, after, record { found = found; reads = read; closed = is })

  handed : (given : Result (List ℕ) Fault) → handed_out files holder.file ≡ given → FileIsJudged
  handed (Err fault) is = inr (fault, of_file is)
  handed (Ok bytes) is = elim (rows_judged files (depth holder) holder before (rows_of bytes) refl) [
    | inl read ↦ by_end bytes read.0 is read.1 (is_left_open holder read.0) refl
    | inr refusal ↦ inr (refusal.0, of_rows is refusal.1)
  ]

  file_is_judged : FileIsJudged
  file_is_judged = handed (handed_out files holder.file) refl

-- ---- the fabric

module _ (files : Map) (name : List ℕ) where
  abbrev FabricIsJudged : Type 0
  FabricIsJudged = IsReadyOrRefused ((fabric : PlainFabric) × SpellsFabric files name fabric) (MeetsFabric files name)

  by_wires : (bytes : List ℕ) (reading : PlainReading) (lines : List PlainGridLine) → ReadsParts files name bytes reading.types lines → FabricIsJudged
  by_wires bytes reading lines parts = elim (cases_lt most_wires (wire_count (grid_fabric reading.types lines))) [
    | inl many ↦
        inr (fault_at name (last_line bytes) (problems.Limit quantities.Wires (wire_count (grid_fabric reading.types lines)) most_wires), many_wires parts many)
    | inr few ↦ inl (
      in_mode parts.reading.configuration (grid_fabric reading.types lines),
      record { bytes = bytes; types = reading.types; lines = lines; parts = parts; few_wires = few; is = refl },
    )
  ]

  by_names : (bytes : List ℕ) (reading : PlainReading) (lines : List PlainGridLine) → ReadsFile files (top name) start bytes reading → reading.grid ≡ Some lines
      → (strange : Option PlainGridLine) → strange_line reading.types lines ≡ strange → FabricIsJudged
  by_names bytes reading lines read grid (Some line) is = inr (fault_at line.file line.line (problems.Malformed reasons.Tile), no_tile read grid is)
  by_names bytes reading lines read grid None is = by_wires bytes reading lines (record { reading = reading; read = read; types_are = refl; grid_is = grid; named = is })

  by_grid : (bytes : List ℕ) (reading : PlainReading) → ReadsFile files (top name) start bytes reading → (grid : Option (List PlainGridLine)) → reading.grid ≡ grid → FabricIsJudged
  by_grid bytes reading read None is = inr (fault_at name (last_line bytes) (problems.Malformed reasons.Grid), no_grid read is)
  by_grid bytes reading read (Some lines) is = by_names bytes reading lines read is (strange_line reading.types lines) refl

  pub fabric_judged : FabricIsJudged
  fabric_judged = elim (file_is_judged files (top name) start) [
    | inl read ↦ by_grid read.0 read.1 read.2 read.1.grid refl
    | inr refusal ↦ inr (refusal.0, in_files refusal.1)
  ]
