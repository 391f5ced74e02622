-- The block of a tile is read with its files, or it is refused.
use Rattle.std.proofs.Common.{◌≡◌, ℕ, Bool, true, false, List, [], Option, Some, None, Result, Ok, Err, refl, inl, inr}
use Rattle.fab_base.specs.declared.fault.Fault.{Fault}
use Rattle.fab_base.specs.declared.problem.Problem.{Problem}
use Rattle.fab_base.specs.Reading.{fault_at}
use Rattle.fab_desk.specs.Files.{Map}
use Rattle.fab_lines.specs.Counts.{last_line}
use Rattle.fab_rows.specs.Rows.{rows_of}
use Rattle.fab_select.specs.declared.pair.Pair.{Pair as NumberPair}
use Rattle.fab_model.specs.Tiles.{PlainTile, counted, tile_bits, with_table}
use Rattle.fab_tables.specs.Matrix.{matrix_format, matrix_pairs}
use Rattle.fab_tables.specs.Config.{config_format, entries_of, rows_behind}
use Rattle.fab_tables.specs.Frames.{default_place}
use Rattle.fab_tables.specs.inner.FollowingConfig.{table_of}
use Rattle.fab_tables.proofs.Runs.{length-counted}
use Rattle.fab_tables.proofs.Tabled.{spelled_table}
use Rattle.fab_files.specs.Files.{handed_out}
use Rattle.fab_blocks.specs.Blocks.{PlainBlock, bare}
use Rattle.fab_read.specs.Tiles.{End, known_in, pairs_by_number, is_table, ReadsMatrix, no_matrix, of_list, of_table, MeetsMatrix, in_list, at_table, in_table, table_file, table_bytes, HasDefaultPlaces, ReadsTable, by_default, by_table, MeetsTable, long_table, bad_table, paired, block_problem, pairs_problem, ReadsPairs, ReadsTile, MeetsTile, bad_block, in_matrix, bad_pairs, in_places}
use Rattle.fab_judged_laws.specs.Judged.{IsReadyOrRefused}
use Rattle.fab_judged_laws.proofs.Texts.{texts_judged}
use Rattle.fab_judged_laws.proofs.Counted.{counted_at}
use Rattle.fab_judged_laws.proofs.ListFiles.{list_file_judged}

-- ---- the switch matrix

module _ (files : Map) (left : ℕ) (tile : PlainTile) where
  abbrev MatrixIsJudged : Option (List ℕ) → Type 0
  MatrixIsJudged file = IsReadyOrRefused ((pairs : List NumberPair) × ReadsMatrix files left tile file pairs) (MeetsMatrix files left tile file)

  list_judged : (file : List ℕ) → is_table file ≡ false → MatrixIsJudged (Some file)
  list_judged file is = elim (list_file_judged files (known_in tile) left file []) [
    | inl read ↦ inl (pairs_by_number tile read.0, of_list is read.1)
    | inr refusal ↦ inr (refusal.0, in_list is refusal.1)
  ]

  table_judged : (file : List ℕ) → is_table file ≡ true → (given : Result (List ℕ) Fault) → handed_out files file ≡ given → MatrixIsJudged (Some file)
  table_judged file is (Err fault) found = inr (fault, at_table is found)
  table_judged file is (Ok bytes) found = elim (texts_judged (matrix_format tile) file (rows_of bytes) (last_line bytes)) [
    | inl whole ↦ inl (matrix_pairs tile (rows_of bytes), of_table is found (record { whole = whole; in_order = refl }))
    | inr refusal ↦ inr (refusal.0, in_table is found refusal.1)
  ]

  by_name : (file : List ℕ) (table : Bool) → is_table file ≡ table → MatrixIsJudged (Some file)
  by_name file true is = table_judged file is (handed_out files file) refl
  by_name file false is = list_judged file is

  pub matrix_judged : (file : Option (List ℕ)) → MatrixIsJudged file
  matrix_judged None = inl ([], no_matrix)
  matrix_judged (Some file) = by_name file (is_table file) refl

-- ---- the places of configuration bits

module _ (files : Map) (tile : PlainTile) where
  abbrev TableIsJudged : Option (List ℕ) → Type 0
  TableIsJudged file = IsReadyOrRefused ((table : List (ℕ × ℕ)) × ReadsTable files tile file table) (MeetsTable files tile file)

  default_places : (bits : ℕ) → (table : List (ℕ × ℕ)) × HasDefaultPlaces bits table
  default_places bits = (counted bits (default_place bits), record { as_many = length-counted bits (default_place bits); each = λ bit below. counted_at bits (default_place bits) bit (0, 0) below })

  text_judged : (file bytes : List ℕ) → table_bytes files (Some file) ≡ Ok (Some bytes) → TableIsJudged (Some file)
  text_judged file bytes found = elim (texts_judged (config_format tile) file (rows_of bytes) (last_line bytes)) [
    | inl whole ↦
        let table : List (ℕ × ℕ) = table_of (tile_bits tile) (entries_of (rows_behind (rows_of bytes))) in
        inl (table, by_table found (spelled_table tile (rows_of bytes) table (whole, refl)))
    | inr refusal ↦ inr (refusal.0, bad_table found refusal.1)
  ]

  by_bytes : (file : Option (List ℕ)) (given : Result (Option (List ℕ)) Fault) → table_bytes files file ≡ given → TableIsJudged file
  by_bytes file (Err fault) is = inr (fault, long_table is)
  by_bytes file (Ok None) is = let places = default_places (tile_bits tile) in inl (places.0, by_default is places.1)
  by_bytes None (Ok (Some bytes)) is = absurd cc
  by_bytes (Some file) (Ok (Some bytes)) is = text_judged file bytes is

  pub places_judged : (file : Option (List ℕ)) → TableIsJudged file
  places_judged file = by_bytes file (table_bytes files file) refl

-- ---- the tile

module _ (files : Map) (end : End) (block : PlainBlock) where
  abbrev TileIsJudged : Type 0
  TileIsJudged = IsReadyOrRefused ((tile : PlainTile) × ReadsTile files end block tile) (MeetsTile files end block)

  placed_judged : (pairs : List NumberPair) → ReadsPairs files end block pairs → pairs_problem (bare block) pairs ≡ None → TileIsJudged
  placed_judged pairs read fitting = elim (places_judged files (paired block pairs) (table_file end.file block.name)) [
    | inl placed ↦ inl (with_table (paired block pairs) placed.0, record { pairs = pairs; table = placed.0; read = read; fitting = fitting; placed = placed.1; is = refl })
    | inr refusal ↦ inr (refusal.0, in_places read fitting refusal.1)
  ]

  by_pairs : (pairs : List NumberPair) → ReadsPairs files end block pairs → (why : Option Problem) → pairs_problem (bare block) pairs ≡ why → TileIsJudged
  by_pairs pairs read None is = placed_judged pairs read is
  by_pairs pairs read (Some problem) is = inr (fault_at end.file end.line problem, bad_pairs read is)

  by_block : (why : Option Problem) → block_problem block ≡ why → TileIsJudged
  by_block (Some problem) is = inr (fault_at end.file end.line problem, bad_block is)
  by_block None is = elim (matrix_judged files end.left (bare block) block.matrix) [
    | inl read ↦ by_pairs read.0 (record { few_names = is; matrix = read.1 }) (pairs_problem (bare block) read.0) refl
    | inr refusal ↦ inr (refusal.0, in_matrix is refusal.1)
  ]

  pub tile_judged : TileIsJudged
  tile_judged = by_block (block_problem block) refl
