-- What is read of the rows of a fabric's files stays sound, row by row.
use Rattle.std.proofs.Common.{◌≡◌, ℕ, ◌<◌, ◌≤◌, ◌==◌, ◌||◌, ◌&&◌, not, nat_le, nat_lt, Bool, true, false, List, [], ◌∷◌, ◌++◌, length, is_some, Option, Some, None, Result, Ok, Err, refl, sym, ap, subst, arith, length-append, if◌then◌else◌}
use Rattle.std.specs.Prelude.{unwrap_or}
use Rattle.std.proofs.lemmas.Bool.Decides.{nat_tests}
use Rattle.std.proofs.lemmas.List.Elements.{All-nil}
use Rattle.fab_base.specs.declared.problem.Problem.{Problem}
use Rattle.fab_desk.specs.Files.{Map}
use Rattle.fab_kinds.specs.declared.kind.Kind.{Kind}
use Rattle.fab_lines.specs.Order.{judged}
use Rattle.fab_paths.specs.Paths.{stem}
use Rattle.fab_rows.specs.Rows.{PlainRow}
use Rattle.fab_model.specs.Tiles.{PlainTile}
use Rattle.fab_blocks.specs.declared.words.Word.{Word}
use Rattle.fab_blocks.specs.declared.words.Word.TheVariants as words
use Rattle.fab_blocks.specs.declared.standing.OpenBlock.{OpenBlock}
use Rattle.fab_blocks.specs.declared.standing.OpenBlock.TheVariants as blocks
use Rattle.fab_blocks.specs.declared.standing.Parameters.TheVariants as parts
use Rattle.fab_blocks.specs.declared.standing.Place.TheVariants as places
use Rattle.fab_blocks.specs.declared.standing.Said.{Said}
use Rattle.fab_blocks.specs.declared.standing.Said.TheVariants as said
use Rattle.fab_blocks.specs.Blocks.{PlainBlock, new_block, with_matrix, with_row}
use Rattle.fab_blocks.specs.Cells.{cell_at, first_problem}
use Rattle.fab_blocks.specs.Inner.{IsPlain, bel_row, beside, block_row, depth_problem, file_named, foreign_row, include_row, matrix_row, outer_row, path_problem, tiles_row, value_problem, wire_cells, wire_row}
use Rattle.fab_blocks.specs.Reading.{HasLines, HasRoom, HasRoomFor, IsGrid, IsReading, PlainGridLine, PlainHolder, PlainReading, start, with_grid, with_open_block, with_parameters, with_type}
use Rattle.fab_blocks.specs.Rows.{WireCells, bel_problem, bel_reason, kind_of, kind_problem, matrix_problem, row_of, wire_problem, with_bel_of}
use Rattle.fab_blocks.specs.Saying.{HasRoomIfEnded, Step, begin_grid, begin_parameters, begin_problem, begin_tile, end_grid, end_parameters, end_tile, grid_line, handed_out, inner_parameter, line_problem, lines_of, may_begin, parameter_row, parameters_begun, row_in, said_of, say, stands, with_block, with_line, with_parameter, with_said}
use Rattle.fab_blocks.specs.Words.{word_of}
use Rattle.fab_blocks.proofs.Readings.{begin_has_room, begin_outside, failed, grid_more, lines_are_grid, no_problem, passed, plain_room, room_of_next, sound_closed, sound_lines, sound_open, sound_type}
use Rattle.fab_spelled_fabrics_laws.specs.fab_read_Rows.{ReadsRows, end_at, ends, ends_tile, opens_file, takes_row}
use Rattle.fab_spelled_fabrics_laws.specs.fab_read_Tiles.{ReadsTile}

either : {X : Type 0} (P : X → Type 0) (test : Bool) (x y : X) → P x → P y → P (if test then x else y)
either P true x y p q = p
either P false x y p q = q

-- ---- rows that end no block

abbrev OnSaid : Result Said Problem → Type 0
OnSaid (Ok says) = IsPlain says
OnSaid (Err problem) = Unit {0}

judged_said : (problem : Option Problem) (says : Said) → IsPlain says → OnSaid (judged problem says)
judged_said None says plain = plain
judged_said (Some problem) says plain = tt

foreign : (cells : List (List ℕ)) → OnSaid (foreign_row cells)
unfolding foreign_row
foreign cells = tt

names_tiles : (holder : PlainHolder) (cells : List (List ℕ)) → OnSaid (tiles_row holder cells)
unfolding tiles_row
names_tiles holder cells = judged_said (path_problem holder cells) (said.NamesTiles (file_named holder cells)) tt

includes : (holder : PlainHolder) (cells : List (List ℕ)) → OnSaid (include_row holder cells)
unfolding include_row
includes holder cells = judged_said (first_problem (path_problem holder cells) (depth_problem holder)) (said.Includes (file_named holder cells)) tt

outer : (holder : PlainHolder) (word : Word) (cells : List (List ℕ)) → OnSaid (outer_row holder word cells)
unfolding outer_row
outer holder words.Foreign cells = foreign cells
outer holder words.Tile cells = either OnSaid holder.is_fabric _ _ (names_tiles holder cells) tt
outer holder words.Include cells = includes holder cells
outer holder word cells = tt

-- ---- rows of a block

few_of : (count : ℕ) → nat_le 26 count ≡ false → count < 26
few_of count is = grind (arith, nat_tests)

room_for_bel : (block : PlainBlock) (kind : Option Kind) (file prefix : List ℕ) → kind_problem block kind file prefix ≡ None → length block.bels < 26
unfolding kind_problem
room_for_bel block kind file prefix fine =
    let known = passed (is_some kind) _ _ fine in
    few_of (length block.bels) (failed (nat_le 26 (length block.bels)) _ _ known.1).0

bels_of : (block : PlainBlock) (kind : Option Kind) (prefix : List ℕ) → length block.bels < 26 → length (with_bel_of block kind prefix).bels ≤ 26
bels_of block None prefix less = omega (arith, less)
bels_of block (Some kind) prefix less = omega (arith, less, length-append block.bels (record { kind = kind; prefix = prefix } ∷ []))

name_of_bels : (block : PlainBlock) (kind : Option Kind) (prefix : List ℕ) → (with_bel_of block kind prefix).name ≡ block.name
name_of_bels block None prefix = refl
name_of_bels block (Some kind) prefix = refl

module _ (holder : PlainHolder) (block : PlainBlock) (few : length block.bels ≤ 26) where
  abbrev IsNext : PlainBlock → Type 0
  IsNext next = (next.name ≡ block.name) × (length next.bels ≤ 26)

  abbrev OnBlock : Result (PlainBlock × Said) Problem → Type 0
  OnBlock (Ok step) = IsNext step.0 × IsPlain step.1
  OnBlock (Err problem) = Unit {0}

  judged_block : (problem : Option Problem) (next : PlainBlock) → (problem ≡ None → IsNext next) → OnBlock (judged problem (next, said.Taken))
  judged_block None next is = (is refl, tt)
  judged_block (Some problem) next is = tt

  beside_said : (says : Result Said Problem) → OnSaid says → OnBlock (beside block says)
  beside_said (Ok says) plain = ((refl, few), plain)
  beside_said (Err problem) plain = tt

  wires : (cells : WireCells) → OnBlock (judged (wire_problem block cells) (with_row block (row_of cells), said.Taken))
  wires cells = judged_block (wire_problem block cells) (with_row block (row_of cells)) (λ fine. (refl, few))

  bel : (file prefix : List ℕ) → OnBlock (judged (bel_problem block holder.file file prefix) (with_bel_of block (kind_of (stem file)) prefix, said.Taken))
  bel file prefix =
      let kind = kind_of (stem file) in
      judged_block (bel_problem block holder.file file prefix) (with_bel_of block kind prefix) (λ fine.
      let parts = no_problem (bel_reason block kind holder.file file prefix) (kind_problem block kind file prefix) fine in
      (name_of_bels block kind prefix, bels_of block kind prefix (room_for_bel block kind file prefix parts.1)))

  matrix : (cells : List (List ℕ)) → OnBlock (judged (matrix_problem block holder.file (cell_at cells 1)) (with_matrix block (file_named holder cells), said.Taken))
  matrix cells = judged_block (matrix_problem block holder.file (cell_at cells 1)) (with_matrix block (file_named holder cells)) (λ fine. (refl, few))

  in_block : (word : Word) (cells : List (List ℕ)) → OnBlock (block_row block holder word cells)
  unfolding block_row wire_row bel_row matrix_row
  in_block words.Foreign cells = beside_said (foreign_row cells) (foreign cells)
  in_block words.Include cells = beside_said (include_row holder cells) (includes holder cells)
  in_block words.Bel cells = either OnBlock (not ((length cells == 2) || (length cells == 3))) _ _ tt (bel (cell_at cells 1) (cell_at cells 2))
  in_block words.Matrix cells = either OnBlock (not (length cells == 2)) _ _ tt (matrix cells)
  in_block (words.Wire dir) cells = either OnBlock (nat_lt (length cells) 6) _ _ tt (wires (wire_cells dir cells))
  in_block word cells = tt

-- ---- any row

abbrev OnStep : Result Step Problem → Type 0
OnStep (Ok step) = IsReading step.0 × HasRoomIfEnded step.0 step.1
OnStep (Err problem) = Unit {0}

no_lines : IsGrid []
no_lines = lines_are_grid None (λ lines is. absurd cc)

some_is : {X : Type 0} (x y : X) → Some x ≡ Some y → x ≡ y
some_is x y same = cc

not_none : (count : ℕ) → (count == 0) ≡ false → 0 < count
not_none count is = grind (arith, nat_tests)

module _ (before : PlainReading) (holder : PlainHolder) (sound : IsReading before) where
  judged_when : (problem : Option Problem) (after : PlainReading) → (problem ≡ None → IsReading after) → OnStep (judged problem (after, said.Taken))
  judged_when None after is = (is refl, tt)
  judged_when (Some problem) after is = tt

  said_step : (says : Result Said Problem) → OnSaid says → OnStep (with_said before says)
  said_step (Ok says) plain = (sound, plain_room before says plain)
  said_step (Err problem) plain = tt

  -- a grid that begins has no line yet
  begun : IsReading (with_grid before [] blocks.Grid)
  begun = record {
    names = sound.names;
    few_types = sound.few_types;
    few_bels = sound.few_bels;
    room = tt;
    grid = λ lines is. subst IsGrid (some_is [] lines is) no_lines;
    lines = λ lines is. tt;
  }

  grid_begins : (cells : List (List ℕ)) → OnStep (begin_grid before holder cells)
  unfolding begin_grid
  grid_begins cells = either OnStep (not (length cells == 1)) _ _ tt (either OnStep (not (may_begin before holder (is_some before.grid))) _ _ tt (begun, tt))

  -- one that ends has some
  grid_ended : (empty : Bool) (problem : Problem) → (length (lines_of before) == 0) ≡ empty → OnStep (if empty then Err problem else Ok (with_open_block before blocks.Outside, said.Taken))
  grid_ended true problem is = tt
  grid_ended false problem is = (
    record {
      names = sound.names;
      few_types = sound.few_types;
      few_bels = sound.few_bels;
      room = tt;
      grid = sound.grid;
      lines = λ lines there. (let some = not_none (length (lines_of before)) is in omega (arith, some, ap (λ (g : Option (List PlainGridLine)). length (unwrap_or g [])) there));
    },
    tt,
  )

  grid_ends : (cells : List (List ℕ)) → OnStep (end_grid before holder cells)
  unfolding end_grid
  grid_ends cells =
      either OnStep (not (length cells == 1)) _ _ tt (either OnStep (not (stands before holder places.Grid && holder.is_own)) _ _ tt (grid_ended (length (lines_of before) == 0) _ refl))

  a_line : (row : PlainRow) → 0 < length row.cells → OnStep (grid_line before holder row)
  unfolding grid_line
  a_line row some =
      let line : PlainGridLine = record { file = holder.file; line = row.line; cells = row.cells } in
      judged_when (line_problem (lines_of before) row.cells) (with_line before holder row) (λ fine.
      sound_lines before (lines_of before ++ line ∷ []) sound (grid_more (lines_of before) line (lines_are_grid before.grid sound.grid) fine some)
      (omega (arith, length-append (lines_of before) (line ∷ []))))

  parameters_begin : (cells : List (List ℕ)) → OnStep (begin_parameters before holder cells)
  unfolding begin_parameters
  parameters_begin cells =
      let after : IsReading (with_parameters before parts.Open) =
      record { names = sound.names; few_types = sound.few_types; few_bels = sound.few_bels; room = sound.room; grid = sound.grid; lines = sound.lines } in
      either OnStep (not (length cells == 1)) _ _ tt (either OnStep (not (may_begin before holder (parameters_begun before.parameters))) _ _ tt (after, tt))

  parameters_end : (cells : List (List ℕ)) → OnStep (end_parameters before holder cells)
  unfolding end_parameters
  parameters_end cells =
      let after : IsReading (with_parameters before parts.Ended) =
      record { names = sound.names; few_types = sound.few_types; few_bels = sound.few_bels; room = sound.room; grid = sound.grid; lines = sound.lines } in
      either OnStep (not (length cells == 1)) _ _ tt (either OnStep (not (stands before holder places.Parameters && holder.is_own)) _ _ tt (after, tt))

  parameter : (cells : List (List ℕ)) → OnStep (parameter_row before cells)
  unfolding parameter_row
  parameter cells =
      let key = cell_at cells 0 in
      let value = cell_at cells 1 in
      let after : IsReading (with_parameter before key value) =
      record { names = sound.names; few_types = sound.few_types; few_bels = sound.few_bels; room = sound.room; grid = sound.grid; lines = sound.lines } in
      either OnStep (not (length cells == 2)) _ _ tt (judged_when (value_problem key value) (with_parameter before key value) (λ fine. after))

  in_parameters : (word : Word) (cells : List (List ℕ)) → OnStep (inner_parameter before holder word cells)
  unfolding inner_parameter
  in_parameters words.Foreign cells = said_step (foreign_row cells) (foreign cells)
  in_parameters words.Tile cells = said_step (tiles_row holder cells) (names_tiles holder cells)
  in_parameters word cells = parameter cells

  tile_begins : (cells : List (List ℕ)) → OnStep (begin_tile before holder cells)
  unfolding begin_tile
  tile_begins cells = judged_when (begin_problem before holder cells) (with_open_block before (blocks.Tile (new_block (cell_at cells 1)))) (λ fine.
      sound_open before (new_block (cell_at cells 1)) sound (begin_outside before holder cells fine) (begin_has_room before holder cells fine))

  -- the block that is open
  room_of : (begun : OpenBlock) → before.begun ≡ begun → HasRoomFor before.types begun
  room_of begun is = subst (HasRoomFor before.types) is sound.room

  block_out : (begun : OpenBlock) (own : Bool) → before.begun ≡ begun → OnStep (handed_out before begun own)
  block_out (blocks.Tile block) true is = (sound_closed before block blocks.Outside sound is refl, (refl, room_of (blocks.Tile block) is))
  block_out (blocks.Tile block) false is = tt
  block_out blocks.Grid own is = tt
  block_out blocks.Outside own is = tt

  tile_ends : (cells : List (List ℕ)) → OnStep (end_tile before holder cells)
  unfolding end_tile
  tile_ends cells = either OnStep (not (length cells == 1)) _ _ tt (block_out before.begun holder.is_own refl)

  block_step : (block : PlainBlock) (is : before.begun ≡ blocks.Tile block) (few : length block.bels ≤ 26) (says : Result (PlainBlock × Said) Problem) → OnBlock holder block few says → OnStep (with_block before says)
  block_step block is few (Ok step) on = (
    record {
      names = sound.names;
      few_types = sound.few_types;
      few_bels = sound.few_bels;
      room = room_of_next before.types block step.0 (room_of (blocks.Tile block) is) on.0.0 on.0.1;
      grid = sound.grid;
      lines = λ lines there. subst (λ (begun : OpenBlock). HasLines begun lines) is (sound.lines lines there);
    },
    plain_room (with_open_block before (blocks.Tile step.0)) step.1 on.1,
  )
  block_step block is few (Err problem) on = tt

  standing : (begun : OpenBlock) (word : Word) (row : PlainRow) → before.begun ≡ begun → 0 < length row.cells → OnStep (row_in before begun holder word row)
  unfolding row_in
  standing blocks.Grid word row is some = a_line row some
  standing (blocks.Tile block) word row is some =
      let few = (room_of (blocks.Tile block) is).few_bels in
      block_step block is few (block_row block holder word row.cells) (in_block holder block few word row.cells)
  standing blocks.Outside word row is some =
      either OnStep (stands before holder places.Parameters) _ _ (in_parameters word row.cells) (said_step (outer_row holder word row.cells) (outer holder word row.cells))

  by_word : (word : Word) (row : PlainRow) → 0 < length row.cells → OnStep (say before holder word row)
  unfolding say
  by_word words.FabricBegin row some = grid_begins row.cells
  by_word words.FabricEnd row some = grid_ends row.cells
  by_word words.ParametersBegin row some = parameters_begin row.cells
  by_word words.ParametersEnd row some = parameters_end row.cells
  by_word words.TileBegin row some = tile_begins row.cells
  by_word words.TileEnd row some = tile_ends row.cells
  by_word word row some = standing before.begun word row refl some

  by_cells : (row : PlainRow) (none : Bool) (problem : Problem) → (length row.cells == 0) ≡ none → OnStep (if none then Err problem else say before holder (word_of (cell_at row.cells 0)) row)
  by_cells row true problem is = tt
  by_cells row false problem is = by_word (word_of (cell_at row.cells 0)) row (not_none (length row.cells) is)

  of_row : (row : PlainRow) → OnStep (said_of before holder row)
  unfolding said_of
  of_row row = by_cells row (length row.cells == 0) _ refl

  after_row : (row : PlainRow) (after : PlainReading) (says : Said) → said_of before holder row ≡ Ok (after, says) → OnStep (Ok (after, says))
  after_row row after says is = subst OnStep is (of_row row)

-- ---- all rows

module _ (files : Map) where
  -- the tile of a block that was handed out comes to the others
  with_tile : (holder : PlainHolder) (row : PlainRow) (next : PlainReading) (block : PlainBlock) (tile : PlainTile) → IsReading next → HasRoomIfEnded next (said.EndsTile block) →
      ReadsTile files (end_at holder row) block tile → IsReading (with_type next tile)
  with_tile holder row next block tile sound ended read =
      sound_type next (next.types ++ tile ∷ []) tile sound ended.0 (subst (λ (t : PlainTile). HasRoom next.types t.name t.bels) (sym read.is) ended.1) refl

  pub sound_rows : {holder : PlainHolder} {before : PlainReading} {rows : List PlainRow} {after : PlainReading} → ReadsRows files holder before rows after → IsReading before → IsReading after
  sound_rows ends sound = sound
  sound_rows (takes_row {holder = holder} {before = before} {next = next} {row = row} is rest) sound = sound_rows rest (after_row before holder sound row next said.Taken is).0
  sound_rows (opens_file {holder = holder} {before = before} {next = next} {row = row} {says = says} is opened found inner shut rest) sound =
      sound_rows rest (sound_rows inner (after_row before holder sound row next says is).0)
  sound_rows (ends_tile {holder = holder} {before = before} {next = next} {row = row} {block = block} {tile = tile} is read rest) sound =
      let step = after_row before holder sound row next (said.EndsTile block) is in
      sound_rows rest (with_tile holder row next block tile step.0 step.1 read)

pub sound_start : IsReading start
sound_start = record {
  names = λ i j d less inside. absurd (omega (arith, inside));
  few_types = omega arith;
  few_bels = All-nil (λ (tile : PlainTile). length tile.bels ≤ 26);
  room = tt;
  grid = λ lines is. absurd cc;
  lines = λ lines is. absurd cc;
}
