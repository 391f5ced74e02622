-- What rows keep of blocks holds of all that is read of a fabric: of the tiles that were read, and of the block that is open or was handed out.
use Rattle.std.proofs.Common.{◌≡◌, ℕ, ◌==◌, ◌||◌, ◌&&◌, not, nat_lt, Bool, true, false, List, [], length, is_some, Option, Some, None, Result, Ok, Err, refl, sym, subst, if◌then◌else◌}
use Rattle.std.specs.Prelude.{All}
use Rattle.std.proofs.lemmas.List.Elements.{All-nil, All-push}
use Rattle.fab_base.specs.declared.problem.Problem.{Problem}
use Rattle.fab_desk.specs.Files.{Map}
use Rattle.fab_lines.specs.Order.{judged}
use Rattle.fab_paths.specs.Paths.{stem}
use Rattle.fab_rows.specs.Rows.{PlainRow}
use Rattle.fab_model.specs.Grid.{PlainFabric}
use Rattle.fab_model.specs.Tiles.{PlainTile}
use Rattle.fab_read.specs.fab_blocks_words_Word.{Word}
use Rattle.fab_read.specs.fab_blocks_words_Word_TheVariants as words
use Rattle.fab_read.specs.fab_blocks_standing_OpenBlock.{OpenBlock}
use Rattle.fab_read.specs.fab_blocks_standing_OpenBlock_TheVariants as blocks
use Rattle.fab_read.specs.fab_blocks_standing_Parameters_TheVariants as parts
use Rattle.fab_read.specs.fab_blocks_standing_Place_TheVariants as places
use Rattle.fab_read.specs.fab_blocks_standing_Said.{Said}
use Rattle.fab_read.specs.fab_blocks_standing_Said_TheVariants as said
use Rattle.fab_read.specs.fab_blocks_Blocks.{PlainBlock, bare, new_block, with_row, with_matrix}
use Rattle.fab_read.specs.fab_blocks_Cells.{first_problem, cell_at, is_tile_name}
use Rattle.fab_read.specs.fab_blocks_Inner.{foreign_row, value_problem, path_problem, depth_problem, include_row, tiles_row, outer_row, beside, wire_cells, wire_row, bel_row, matrix_row, block_row, file_named}
use Rattle.fab_read.specs.fab_blocks_Rows.{WireCells, row_of, wire_problem, kind_of, bel_problem, matrix_problem, with_bel_of}
use Rattle.fab_read.specs.fab_blocks_Reading.{PlainReading, PlainHolder, start, with_open_block, with_grid, with_parameters, with_type}
use Rattle.fab_read.specs.fab_blocks_Saying.{Step, stands, may_begin, lines_of, line_problem, with_line, parameters_begun, begin_problem, begin_reason, begin_limit, begin_grid, end_grid, grid_line, begin_parameters, end_parameters, with_parameter, parameter_row, inner_parameter, begin_tile, handed_out, end_tile, with_said, with_block, row_in, say, said_of}
use Rattle.fab_read.specs.fab_blocks_Words.{word_of}
use Rattle.fab_read.proofs.fab_blocks_Readings.{passed, no_problem}
use Rattle.fab_read.specs.Rows.{end_at, ReadsRows, ends, takes_row, opens_file, ends_tile}
use Rattle.fab_read.specs.Fabrics.{SpellsFabric}
use Rattle.fab_spelled_fabrics_laws.proofs.Keeping.{Keeps}

either : {X : Type 0} (P : X → Type 0) (test : Bool) (x y : X) → P x → P y → P (if test then x else y)
either P true x y p q = p
either P false x y p q = q

module _ (P Q : PlainTile → Type 0) (keeps : Keeps P Q) where
  -- ---- what is to be kept

  abbrev IsOpenKept : OpenBlock → Type 0
  IsOpenKept (blocks.Tile block) = P (bare block)
  IsOpenKept _ = Unit {0}

  record IsKeptReading (reading : PlainReading) : Type 0 where
    pub types : All Q reading.types
    pub open_block : IsOpenKept reading.begun

  -- the block that a row hands out
  abbrev IsKeptSaid : Said → Type 0
  IsKeptSaid (said.EndsTile block) = P (bare block)
  IsKeptSaid _ = Unit {0}

  abbrev OnSaid : Result Said Problem → Type 0
  OnSaid (Ok says) = IsKeptSaid says
  OnSaid (Err problem) = Unit {0}

  abbrev OnBlock : Result (PlainBlock × Said) Problem → Type 0
  OnBlock (Ok step) = P (bare step.0) × IsKeptSaid step.1
  OnBlock (Err problem) = Unit {0}

  abbrev OnStep : Result Step Problem → Type 0
  OnStep (Ok step) = IsKeptReading step.0 × IsKeptSaid step.1
  OnStep (Err problem) = Unit {0}

  -- ---- rows that end no block

  judged_said : (problem : Option Problem) (says : Said) → IsKeptSaid says → OnSaid (judged problem says)
  judged_said None says plain = plain
  judged_said (Some problem) says plain = tt

  foreign : (cells : List (List ℕ)) → OnSaid (foreign_row cells)
  unfolding foreign_row
  foreign cells = tt

  names_tiles : (holder : PlainHolder) (cells : List (List ℕ)) → OnSaid (tiles_row holder cells)
  unfolding tiles_row
  names_tiles holder cells = judged_said (path_problem holder cells) (said.NamesTiles (file_named holder cells)) tt

  includes : (holder : PlainHolder) (cells : List (List ℕ)) → OnSaid (include_row holder cells)
  unfolding include_row
  includes holder cells = judged_said (first_problem (path_problem holder cells) (depth_problem holder)) (said.Includes (file_named holder cells)) tt

  outer : (holder : PlainHolder) (word : Word) (cells : List (List ℕ)) → OnSaid (outer_row holder word cells)
  unfolding outer_row
  outer holder words.Foreign cells = foreign cells
  outer holder words.Tile cells = either OnSaid holder.is_fabric _ _ (names_tiles holder cells) tt
  outer holder words.Include cells = includes holder cells
  outer holder word cells = tt

  -- ---- rows of a block

  judged_block : (problem : Option Problem) (block : PlainBlock) → (problem ≡ None → P (bare block)) → OnBlock (judged problem (block, said.Taken))
  judged_block None block kept = (kept refl, tt)
  judged_block (Some problem) block kept = tt

  module _ (holder : PlainHolder) (block : PlainBlock) (kept : P (bare block)) where
    beside_said : (says : Result Said Problem) → OnSaid says → OnBlock (beside block says)
    beside_said (Ok says) plain = (kept, plain)
    beside_said (Err problem) plain = tt

    wires : (cells : WireCells) → OnBlock (judged (wire_problem block cells) (with_row block (row_of cells), said.Taken))
    wires cells = judged_block (wire_problem block cells) (with_row block (row_of cells)) (λ fine. keeps.wire block cells kept fine)

    bel : (file prefix : List ℕ) → OnBlock (judged (bel_problem block holder.file file prefix) (with_bel_of block (kind_of (stem file)) prefix, said.Taken))
    bel file prefix = judged_block (bel_problem block holder.file file prefix) (with_bel_of block (kind_of (stem file)) prefix) (λ fine. keeps.bel block (kind_of (stem file)) holder.file file prefix kept fine)

    matrix : (cells : List (List ℕ)) → OnBlock (judged (matrix_problem block holder.file (cell_at cells 1)) (with_matrix block (file_named holder cells), said.Taken))
    matrix cells = judged_block (matrix_problem block holder.file (cell_at cells 1)) (with_matrix block (file_named holder cells)) (λ fine. keeps.matrix block (file_named holder cells) kept)

    in_block : (word : Word) (cells : List (List ℕ)) → OnBlock (block_row block holder word cells)
    unfolding block_row wire_row bel_row matrix_row
    in_block words.Foreign cells = beside_said (foreign_row cells) (foreign cells)
    in_block words.Include cells = beside_said (include_row holder cells) (includes holder cells)
    in_block words.Bel cells = either OnBlock (not ((length cells == 2) || (length cells == 3))) _ _ tt (bel (cell_at cells 1) (cell_at cells 2))
    in_block words.Matrix cells = either OnBlock (not (length cells == 2)) _ _ tt (matrix cells)
    in_block (words.Wire dir) cells = either OnBlock (nat_lt (length cells) 6) _ _ tt (wires (wire_cells dir cells))
    in_block word cells = tt

  -- ---- any row

  module _ (before : PlainReading) (holder : PlainHolder) (kept : IsKeptReading before) where
    judged_step : (problem : Option Problem) (after : PlainReading) → IsKeptReading after → OnStep (judged problem (after, said.Taken))
    judged_step None after kept = (kept, tt)
    judged_step (Some problem) after kept = tt

    judged_when : (problem : Option Problem) (after : PlainReading) → (problem ≡ None → IsKeptReading after) → OnStep (judged problem (after, said.Taken))
    judged_when None after kept_after = (kept_after refl, tt)
    judged_when (Some problem) after kept_after = tt

    -- a block that begins has the name of a tile
    begun_name : (cells : List (List ℕ)) → begin_problem before holder cells ≡ None → is_tile_name (cell_at cells 1) ≡ true
    unfolding begin_reason
    begun_name cells fine =
        let reason = (no_problem (begin_reason before holder cells) (begin_limit before (cell_at cells 1)) fine).0 in
        (passed (is_tile_name (cell_at cells 1)) _ _ (passed (length cells == 2) _ _ reason).1).0

    with_open : (begun : OpenBlock) → IsOpenKept begun → IsKeptReading (with_open_block before begun)
    with_open begun open_kept = record { types = kept.types; open_block = open_kept }

    said_step : (says : Result Said Problem) → OnSaid says → OnStep (with_said before says)
    said_step (Ok says) plain = (kept, plain)
    said_step (Err problem) plain = tt

    block_step : (says : Result (PlainBlock × Said) Problem) → OnBlock says → OnStep (with_block before says)
    block_step (Ok step) on = (with_open (blocks.Tile step.0) on.0, on.1)
    block_step (Err problem) on = tt

    grid_begins : (cells : List (List ℕ)) → OnStep (begin_grid before holder cells)
    unfolding begin_grid
    grid_begins cells =
        let begun : OnStep (Ok (with_grid before [] blocks.Grid, said.Taken)) = (record { types = kept.types; open_block = tt }, tt) in
        either OnStep (not (length cells == 1)) _ _ tt (either OnStep (not (may_begin before holder (is_some before.grid))) _ _ tt begun)

    grid_ends : (cells : List (List ℕ)) → OnStep (end_grid before holder cells)
    unfolding end_grid
    grid_ends cells =
        let done : OnStep (Ok (with_open_block before blocks.Outside, said.Taken)) = (with_open blocks.Outside tt, tt) in
        either OnStep (not (length cells == 1)) _ _ tt
        (either OnStep (not (stands before holder places.Grid && holder.is_own)) _ _ tt (either OnStep (length (lines_of before) == 0) _ _ tt done))

    a_line : (row : PlainRow) → OnStep (grid_line before holder row)
    unfolding grid_line
    a_line row = judged_step (line_problem (lines_of before) row.cells) (with_line before holder row) (record { types = kept.types; open_block = kept.open_block })

    parameters_begin : (cells : List (List ℕ)) → OnStep (begin_parameters before holder cells)
    unfolding begin_parameters
    parameters_begin cells =
        let begun : OnStep (Ok (with_parameters before parts.Open, said.Taken)) = (record { types = kept.types; open_block = kept.open_block }, tt) in
        either OnStep (not (length cells == 1)) _ _ tt (either OnStep (not (may_begin before holder (parameters_begun before.parameters))) _ _ tt begun)

    parameters_end : (cells : List (List ℕ)) → OnStep (end_parameters before holder cells)
    unfolding end_parameters
    parameters_end cells =
        let done : OnStep (Ok (with_parameters before parts.Ended, said.Taken)) = (record { types = kept.types; open_block = kept.open_block }, tt) in
        either OnStep (not (length cells == 1)) _ _ tt (either OnStep (not (stands before holder places.Parameters && holder.is_own)) _ _ tt done)

    parameter : (cells : List (List ℕ)) → OnStep (parameter_row before cells)
    unfolding parameter_row
    parameter cells = either OnStep (not (length cells == 2)) _ _ tt
        (judged_step (value_problem (cell_at cells 0) (cell_at cells 1)) (with_parameter before (cell_at cells 0) (cell_at cells 1)) (record { types = kept.types; open_block = kept.open_block }))

    in_parameters : (word : Word) (cells : List (List ℕ)) → OnStep (inner_parameter before holder word cells)
    unfolding inner_parameter
    in_parameters words.Foreign cells = said_step (foreign_row cells) (foreign cells)
    in_parameters words.Tile cells = said_step (tiles_row holder cells) (names_tiles holder cells)
    in_parameters word cells = parameter cells

    tile_begins : (cells : List (List ℕ)) → OnStep (begin_tile before holder cells)
    unfolding begin_tile
    tile_begins cells = judged_when (begin_problem before holder cells) (with_open_block before (blocks.Tile (new_block (cell_at cells 1)))) (λ fine.
        with_open (blocks.Tile (new_block (cell_at cells 1))) (keeps.new (cell_at cells 1) (begun_name cells fine)))

    block_out : (begun : OpenBlock) (own : Bool) → IsOpenKept begun → OnStep (handed_out before begun own)
    block_out (blocks.Tile block) true open_kept = (with_open blocks.Outside tt, open_kept)
    block_out (blocks.Tile block) false open_kept = tt
    block_out blocks.Grid own open_kept = tt
    block_out blocks.Outside own open_kept = tt

    tile_ends : (cells : List (List ℕ)) → OnStep (end_tile before holder cells)
    unfolding end_tile
    tile_ends cells = either OnStep (not (length cells == 1)) _ _ tt (block_out before.begun holder.is_own kept.open_block)

    standing : (begun : OpenBlock) (word : Word) (row : PlainRow) → IsOpenKept begun → OnStep (row_in before begun holder word row)
    unfolding row_in
    standing blocks.Grid word row open_kept = a_line row
    standing (blocks.Tile block) word row open_kept = block_step (block_row block holder word row.cells) (in_block holder block open_kept word row.cells)
    standing blocks.Outside word row open_kept =
        either OnStep (stands before holder places.Parameters) _ _ (in_parameters word row.cells) (said_step (outer_row holder word row.cells) (outer holder word row.cells))

    by_word : (word : Word) (row : PlainRow) → OnStep (say before holder word row)
    unfolding say
    by_word words.FabricBegin row = grid_begins row.cells
    by_word words.FabricEnd row = grid_ends row.cells
    by_word words.ParametersBegin row = parameters_begin row.cells
    by_word words.ParametersEnd row = parameters_end row.cells
    by_word words.TileBegin row = tile_begins row.cells
    by_word words.TileEnd row = tile_ends row.cells
    by_word word row = standing before.begun word row kept.open_block

    of_row : (row : PlainRow) → OnStep (said_of before holder row)
    unfolding said_of
    of_row row = either OnStep (length row.cells == 0) _ _ tt (by_word (word_of (cell_at row.cells 0)) row)

    after_row : (row : PlainRow) (after : PlainReading) (says : Said) → said_of before holder row ≡ Ok (after, says) → OnStep (Ok (after, says))
    after_row row after says is = subst OnStep is (of_row row)

  -- ---- all rows

  kept_type : (reading : PlainReading) (tile : PlainTile) → IsKeptReading reading → Q tile → IsKeptReading (with_type reading tile)
  kept_type reading tile before kept = record { types = All-push Q reading.types tile before.types kept; open_block = before.open_block }

  module _ (files : Map) where
    kept_rows : {holder : PlainHolder} {before : PlainReading} {rows : List PlainRow} {after : PlainReading} → ReadsRows files holder before rows after → IsKeptReading before → IsKeptReading after
    kept_rows ends kept = kept
    kept_rows (takes_row {holder = holder} {before = before} {next = next} {row = row} is rest) kept = kept_rows rest (after_row before holder kept row next said.Taken is).0
    kept_rows (opens_file {holder = holder} {before = before} {next = next} {row = row} {says = says} is opened found inner shut rest) kept =
        kept_rows rest (kept_rows inner (after_row before holder kept row next says is).0)
    kept_rows (ends_tile {holder = holder} {before = before} {next = next} {row = row} {block = block} {tile = tile} is read rest) kept =
        let step = after_row before holder kept row next (said.EndsTile block) is in
        kept_rows rest (kept_type next tile step.0 (keeps.tile files (end_at holder row) block tile step.1 read))

  kept_start : IsKeptReading start
  kept_start = record { types = All-nil Q; open_block = tt }

  pub spelled_keep : (files : Map) (name : List ℕ) (fabric : PlainFabric) → SpellsFabric files name fabric → All Q fabric.types
  spelled_keep files name fabric spelled =
      let parts = spelled.parts in
      let kept : All Q parts.reading.types = (kept_rows files parts.read.reads kept_start).types in
      let types : All Q spelled.types = subst (All Q) (sym parts.types_are) kept in
      subst (λ (f : PlainFabric). All Q f.types) (sym spelled.is) types
