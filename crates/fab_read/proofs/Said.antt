-- What is to be known of what a row says: it leaves the tiles that were read, and opens a file only where it may.
use Rattle.std.proofs.Common.{◌≡◌, ◌≤◌, ◌+◌, ◌-◌, ◌==◌, ◌||◌, ◌&&◌, not, nat_lt, ℕ, zero, suc, Bool, true, false, List, [], length, is_some, Option, Some, None, Result, Ok, Err, refl, ap, subst, arith, if◌then◌else◌}
use Rattle.std.specs.Prelude.{IfOk}
use Rattle.fab_base.specs.Reading.{Answers}
use Rattle.fab_base.specs.declared.problem.Problem.{Problem}
use Rattle.fab_base.specs.declared.words.Reason.TheVariants as reasons
use Rattle.fab_lines.specs.Order.{judged}
use Rattle.fab_rows.specs.Rows.{PlainRow}
use Rattle.fab_blocks.specs.declared.words.Word.{Word}
use Rattle.fab_blocks.specs.declared.words.Word.TheVariants as words
use Rattle.fab_blocks.specs.declared.standing.OpenBlock.{OpenBlock}
use Rattle.fab_blocks.specs.declared.standing.OpenBlock.TheVariants as blocks
use Rattle.fab_blocks.specs.declared.standing.Parameters.{Parameters}
use Rattle.fab_blocks.specs.declared.standing.Parameters.TheVariants as parts
use Rattle.fab_blocks.specs.declared.standing.Place.TheVariants as places
use Rattle.fab_blocks.specs.declared.standing.Said.{Said}
use Rattle.fab_blocks.specs.declared.standing.Said.TheVariants as said
use Rattle.fab_blocks.specs.Blocks.{PlainBlock}
use Rattle.fab_blocks.specs.Cells.{first_problem, cell_at}
use Rattle.fab_blocks.specs.Inner.{malformed, foreign_row, value_problem, path_problem, depth_problem, include_row, tiles_row, outer_row, beside, wire_row, bel_row, matrix_row, block_row, file_named}
use Rattle.fab_blocks.specs.Reading.{PlainReading, PlainHolder, place_in, place_of, with_open_block, with_grid, with_parameters}
use Rattle.fab_blocks.specs.Saying.{Step, is_place, stands, may_begin, lines_of, parameters_begun, begin_grid, end_grid, grid_line, begin_parameters, end_parameters, with_parameter, parameter_row, inner_parameter, begin_tile, handed_out, end_tile, with_said, with_block, row_in, say, said_of, HasRoomIfEnded}
use Rattle.fab_blocks.specs.Words.{word_of}
use Rattle.fab_read.specs.inner.Following.{IsSaid}
use Rattle.fab_read.specs.Rows.{opened_by}
use Rattle.fab_read.proofs.RowByRow.{depth}

-- where a file may be opened
abbrev MayOpen : PlainHolder → Said → Type 0
MayOpen holder (said.Includes file) = 1 ≤ holder.left
MayOpen holder (said.NamesTiles file) = holder.is_fabric ≡ true
MayOpen holder _ = Unit {0}

abbrev OnSaid : PlainHolder → Result Said Problem → Type 0
OnSaid holder (Ok says) = MayOpen holder says
OnSaid holder (Err problem) = Unit {0}

abbrev OnBlock : PlainHolder → Result (PlainBlock × Said) Problem → Type 0
OnBlock holder (Ok step) = MayOpen holder step.1
OnBlock holder (Err problem) = Unit {0}

abbrev OnStep : PlainReading → PlainHolder → Result Step Problem → Type 0
OnStep before holder (Ok step) = (step.0.types ≡ before.types) × MayOpen holder step.1
OnStep before holder (Err problem) = Unit {0}

either : {X : Type 0} (P : X → Type 0) (test : Bool) (x y : X) → P x → P y → P (if test then x else y)
either P true x y p q = p
either P false x y p q = q

-- ---- rows that name files

module _ (holder : PlainHolder) where
  judged_said : (problem : Option Problem) (says : Said) → MayOpen holder says → OnSaid holder (judged problem says)
  judged_said None says may = may
  judged_said (Some problem) says may = tt

  judged_block : (problem : Option Problem) (block : PlainBlock) → OnBlock holder (judged problem (block, said.Taken))
  judged_block None block = tt
  judged_block (Some problem) block = tt

  beside_said : (block : PlainBlock) (says : Result Said Problem) → OnSaid holder says → OnBlock holder (beside block says)
  beside_said block (Ok says) may = may
  beside_said block (Err problem) may = tt

  foreign : (cells : List (List ℕ)) → OnSaid holder (foreign_row cells)
  unfolding foreign_row
  foreign cells = tt

  names_tiles : (cells : List (List ℕ)) → holder.is_fabric ≡ true → OnSaid holder (tiles_row holder cells)
  unfolding tiles_row
  names_tiles cells fabric = judged_said (path_problem holder cells) (said.NamesTiles (file_named holder cells)) fabric

  some_left : (left : ℕ) → (left == 0) ≡ false → 1 ≤ left
  some_left zero no_zero = absurd cc
  some_left (suc left) no_zero = omega arith

  includes : (cells : List (List ℕ)) → OnSaid holder (include_row holder cells)
  unfolding include_row depth_problem
  includes cells = by_path (path_problem holder cells)
    where
      by_left : (none : Bool) (limit : Problem) → (holder.left == 0) ≡ none → OnSaid holder (judged (if none then Some limit else None) (said.Includes (file_named holder cells)))
      by_left true limit is = tt
      by_left false limit is = some_left holder.left is

      by_path : (problem : Option Problem) → OnSaid holder (judged (first_problem problem (depth_problem holder)) (said.Includes (file_named holder cells)))
      by_path (Some problem) = tt
      by_path None = by_left (holder.left == 0) _ refl

  tiles_if : (fabric : Bool) (cells : List (List ℕ)) → holder.is_fabric ≡ fabric → OnSaid holder (if fabric then tiles_row holder cells else malformed reasons.Row)
  tiles_if true cells is = names_tiles cells is
  tiles_if false cells is = tt

  outer : (word : Word) (cells : List (List ℕ)) → OnSaid holder (outer_row holder word cells)
  unfolding outer_row
  outer words.Foreign cells = foreign cells
  outer words.Tile cells = tiles_if holder.is_fabric cells refl
  outer words.Include cells = includes cells
  outer word cells = tt

  in_block : (block : PlainBlock) (word : Word) (cells : List (List ℕ)) → OnBlock holder (block_row block holder word cells)
  unfolding block_row wire_row bel_row matrix_row
  in_block block words.Foreign cells = beside_said block (foreign_row cells) (foreign cells)
  in_block block words.Include cells = beside_said block (include_row holder cells) (includes cells)
  in_block block words.Bel cells = either (OnBlock holder) (not ((length cells == 2) || (length cells == 3))) _ _ tt (judged_block _ _)
  in_block block words.Matrix cells = either (OnBlock holder) (not (length cells == 2)) _ _ tt (judged_block _ _)
  in_block block (words.Wire dir) cells = either (OnBlock holder) (nat_lt (length cells) 6) _ _ tt (judged_block _ _)
  in_block block word cells = tt

-- ---- rows that begin and end blocks

-- only a fabric file stands in the block of parameters
fabric_there : (begun : OpenBlock) (parameters : Parameters) (fabric : Bool) → is_place (place_in begun parameters fabric) places.Parameters ≡ true → fabric ≡ true
unfolding is_place
fabric_there begun parameters true there = refl
fabric_there blocks.Outside parts.Open false there = absurd cc
fabric_there blocks.Outside parts.Absent false there = absurd cc
fabric_there blocks.Outside parts.Ended false there = absurd cc
fabric_there blocks.Grid parameters false there = absurd cc
fabric_there (blocks.Tile block) parameters false there = absurd cc

module _ (before : PlainReading) (holder : PlainHolder) where
  judged_step : (problem : Option Problem) (after : PlainReading) → after.types ≡ before.types → OnStep before holder (judged problem (after, said.Taken))
  judged_step None after same = (same, tt)
  judged_step (Some problem) after same = tt

  said_step : (says : Result Said Problem) → OnSaid holder says → OnStep before holder (with_said before says)
  said_step (Ok says) may = (refl, may)
  said_step (Err problem) may = tt

  block_step : (says : Result (PlainBlock × Said) Problem) → OnBlock holder says → OnStep before holder (with_block before says)
  block_step (Ok step) may = (refl, may)
  block_step (Err problem) may = tt

  grid_begins : (cells : List (List ℕ)) → OnStep before holder (begin_grid before holder cells)
  unfolding begin_grid
  grid_begins cells =
      let begun : OnStep before holder (Ok (with_grid before [] blocks.Grid, said.Taken)) = (refl, tt) in
      either (OnStep before holder) (not (length cells == 1)) _ _ tt (either (OnStep before holder) (not (may_begin before holder (is_some before.grid))) _ _ tt begun)

  grid_ends : (cells : List (List ℕ)) → OnStep before holder (end_grid before holder cells)
  unfolding end_grid
  grid_ends cells =
      let done : OnStep before holder (Ok (with_open_block before blocks.Outside, said.Taken)) = (refl, tt) in
      either (OnStep before holder) (not (length cells == 1)) _ _ tt
      (either (OnStep before holder) (not (stands before holder places.Grid && holder.is_own)) _ _ tt (either (OnStep before holder) (length (lines_of before) == 0) _ _ tt done))

  a_line : (row : PlainRow) → OnStep before holder (grid_line before holder row)
  unfolding grid_line
  a_line row = judged_step _ _ refl

  parameters_begin : (cells : List (List ℕ)) → OnStep before holder (begin_parameters before holder cells)
  unfolding begin_parameters
  parameters_begin cells =
      let begun : OnStep before holder (Ok (with_parameters before parts.Open, said.Taken)) = (refl, tt) in
      either (OnStep before holder) (not (length cells == 1)) _ _ tt (either (OnStep before holder) (not (may_begin before holder (parameters_begun before.parameters))) _ _ tt begun)

  parameters_end : (cells : List (List ℕ)) → OnStep before holder (end_parameters before holder cells)
  unfolding end_parameters
  parameters_end cells =
      let done : OnStep before holder (Ok (with_parameters before parts.Ended, said.Taken)) = (refl, tt) in
      either (OnStep before holder) (not (length cells == 1)) _ _ tt (either (OnStep before holder) (not (stands before holder places.Parameters && holder.is_own)) _ _ tt done)

  tile_begins : (cells : List (List ℕ)) → OnStep before holder (begin_tile before holder cells)
  unfolding begin_tile
  tile_begins cells = judged_step _ _ refl

  block_out : (begun : OpenBlock) (own : Bool) → OnStep before holder (handed_out before begun own)
  block_out (blocks.Tile block) true = (refl, tt)
  block_out (blocks.Tile block) false = tt
  block_out blocks.Grid own = tt
  block_out blocks.Outside own = tt

  tile_ends : (cells : List (List ℕ)) → OnStep before holder (end_tile before holder cells)
  unfolding end_tile
  tile_ends cells = either (OnStep before holder) (not (length cells == 1)) _ _ tt (block_out before.begun holder.is_own)

  parameter : (cells : List (List ℕ)) → OnStep before holder (parameter_row before cells)
  unfolding parameter_row
  parameter cells = either (OnStep before holder) (not (length cells == 2)) _ _ tt
      (judged_step (value_problem (cell_at cells 0) (cell_at cells 1)) (with_parameter before (cell_at cells 0) (cell_at cells 1)) refl)

  in_parameters : (word : Word) (cells : List (List ℕ)) → holder.is_fabric ≡ true → OnStep before holder (inner_parameter before holder word cells)
  unfolding inner_parameter
  in_parameters words.Foreign cells fabric = said_step (foreign_row cells) (foreign holder cells)
  in_parameters words.Tile cells fabric = said_step (tiles_row holder cells) (names_tiles holder cells fabric)
  in_parameters word cells fabric = parameter cells

  by_place : (there : Bool) (word : Word) (cells : List (List ℕ)) → (there ≡ true → holder.is_fabric ≡ true)
      → OnStep before holder (if there then inner_parameter before holder word cells else with_said before (outer_row holder word cells))
  by_place true word cells fabric = in_parameters word cells (fabric refl)
  by_place false word cells fabric = said_step (outer_row holder word cells) (outer holder word cells)

  outside : (word : Word) (cells : List (List ℕ))
      → OnStep before holder (if stands before holder places.Parameters then inner_parameter before holder word cells else with_said before (outer_row holder word cells))
  unfolding stands
  outside word cells = by_place (is_place (place_of before holder.is_fabric) places.Parameters) word cells (λ t. fabric_there before.begun before.parameters holder.is_fabric t)

  standing : (begun : OpenBlock) (word : Word) (row : PlainRow) → OnStep before holder (row_in before begun holder word row)
  unfolding row_in
  standing blocks.Grid word row = a_line row
  standing (blocks.Tile block) word row = block_step (block_row block holder word row.cells) (in_block holder block word row.cells)
  standing blocks.Outside word row = outside word row.cells

  by_word : (word : Word) (row : PlainRow) → OnStep before holder (say before holder word row)
  unfolding say
  by_word words.FabricBegin row = grid_begins row.cells
  by_word words.FabricEnd row = grid_ends row.cells
  by_word words.ParametersBegin row = parameters_begin row.cells
  by_word words.ParametersEnd row = parameters_end row.cells
  by_word words.TileBegin row = tile_begins row.cells
  by_word words.TileEnd row = tile_ends row.cells
  by_word word row = standing before.begun word row

  of_row : (row : PlainRow) → OnStep before holder (said_of before holder row)
  unfolding said_of
  of_row row = either (OnStep before holder) (length row.cells == 0) _ _ tt (by_word (word_of (cell_at row.cells 0)) row)

of_step : (before : PlainReading) (holder : PlainHolder) (result : Result Step Problem) (after : PlainReading) (says : Said) → OnStep before holder result → result ≡ Ok (after, says) → OnStep before holder (Ok (after, says))
of_step before holder result after says on is = subst (OnStep before holder) is on

ended : (before : PlainReading) (holder : PlainHolder) (after : PlainReading) (says : Said) → (after.types ≡ before.types) × MayOpen holder says → HasRoomIfEnded after says → IsSaid before holder after says
ended before holder after said.Taken on room = on.0
ended before holder after (said.Includes file) on room = on
ended before holder after (said.NamesTiles file) on room = on
ended before holder after (said.EndsTile block) on room = (on.0, room.0, room.1)

pub is_said : (before : PlainReading) (holder : PlainHolder) (row : PlainRow) (after : PlainReading) (says : Said) → said_of before holder row ≡ Ok (after, says) → HasRoomIfEnded after says → IsSaid before holder after says
is_said before holder row after says is room = ended before holder after says (of_step before holder (said_of before holder row) after says (of_row before holder row) is) room

-- a file that a row opens lies deeper
pub less_deep : (before : PlainReading) (holder : PlainHolder) (row : PlainRow) (next : PlainReading) (says : Said) (other : PlainHolder) → said_of before holder row ≡ Ok (next, says) → opened_by holder next says ≡ Some other → depth holder ≡ depth other + 1
less_deep before holder row next says other is opened = deeper says opened (of_step before holder (said_of before holder row) next says (of_row before holder row) is)
  where
    left_is : {a b : PlainHolder} → Some a ≡ Some b → a ≡ b
    left_is same = cc

    deeper : (says : Said) → opened_by holder next says ≡ Some other → OnStep before holder (Ok (next, says)) → depth holder ≡ depth other + 1
    deeper said.Taken opened on = absurd cc
    deeper (said.EndsTile block) opened on = absurd cc
    deeper (said.Includes file) opened on =
        let same = left_is opened in
        let left : holder.left - 1 ≡ other.left = ap (λ (h : PlainHolder). h.left) same in
        let kind : holder.is_fabric ≡ other.is_fabric = ap (λ (h : PlainHolder). h.is_fabric) same in
        omega (arith, on.1, left, ap {B = ℕ} (λ (b : Bool). if b then 1 else 0) kind)
    deeper (said.NamesTiles file) opened on =
        let same = left_is opened in
        let left : holder.left ≡ other.left = ap (λ (h : PlainHolder). h.left) same in
        let kind : false ≡ other.is_fabric = ap (λ (h : PlainHolder). h.is_fabric) same in
        omega (arith, left, ap {B = ℕ} (λ (b : Bool). if b then 1 else 0) kind, ap {B = ℕ} (λ (b : Bool). if b then 1 else 0) on.1)

-- what is answered for a row
pub takes_fine : (before : PlainReading) (holder : PlainHolder) (row : PlainRow) (after : PlainReading) (result : Result Said Problem) → Answers (λ (says : Said). (after, says)) result (said_of before holder row)
    → IfOk result (HasRoomIfEnded after) → IfOk result (IsSaid before holder after)
takes_fine before holder row after (Ok says) is room = is_said before holder row after says is room
takes_fine before holder row after (Err problem) is room = tt
