-- The rows of a fabric file with all files that they name: to which reading they come, and which is the first refusal.
use Rattle.std.specs.Prelude.{◌≡◌, ℕ, ◌-◌, ◌&&◌, Bool, true, false, List, [], ◌∷◌, not, Option, Some, None, Ok, Err}
use Rattle.fab_base.specs.Reading.{fault_at}
use Rattle.fab_base.specs.declared.words.Reason.TheVariants as reasons
use Rattle.fab_base.specs.declared.problem.Problem.{Problem}
use Rattle.fab_base.specs.declared.problem.Problem.TheVariants as problems
use Rattle.fab_desk.specs.Files.{Map}
use Rattle.fab_rows.specs.Rows.{PlainRow, rows_of}
use Rattle.fab_model.specs.Tiles.{PlainTile}
use Rattle.fab_lines.specs.Counts.{last_line}
use Rattle.fab_files.specs.Files.{handed_out, Event, refuses, MeetsFile}
use Rattle.fab_blocks.specs.Blocks.{PlainBlock}
use Rattle.fab_blocks.specs.Reading.{PlainReading, PlainHolder, is_inside, place_of, with_type}
use Rattle.fab_blocks.specs.Saying.{said_of}
use Rattle.fab_blocks.specs.declared.standing.Said.{Said}
use Rattle.fab_blocks.specs.declared.standing.Said.TheVariants as said
use Rattle.fab_read.specs.Tiles.{End, ReadsTile, MeetsTile}

-- ---- files within files

-- a block is open, as the rows of such a file see it
abbrev pub is_open : PlainReading → (is_fabric : Bool) → Bool
is_open reading is_fabric = is_inside (place_of reading is_fabric)

-- a file whose rows stand in the place of a row; a block that is open there is not its own
abbrev pub inner : (file : List ℕ) → (is_fabric : Bool) → (left : ℕ) → PlainReading → PlainHolder
inner file is_fabric left reading = record { file = file; is_fabric = is_fabric; is_own = not (is_open reading is_fabric); left = left }

-- the file that a row opens: an included one is of the same kind, and one INCLUDE row more is open; any other holds tiles alone
abbrev pub opened_by : PlainHolder → PlainReading → Said → Option PlainHolder
opened_by holder reading (said.Includes file) = Some (inner file holder.is_fabric (holder.left - 1) reading)
opened_by holder reading (said.NamesTiles file) = Some (inner file false holder.left reading)
opened_by holder reading _ = None

-- a block that began in the file is open behind its last row
abbrev pub is_left_open : PlainHolder → PlainReading → Bool
is_left_open holder reading = holder.is_own && is_open reading holder.is_fabric

abbrev pub end_of_file : (file bytes : List ℕ) → Event
end_of_file file bytes = refuses (fault_at file (last_line bytes) (problems.Malformed reasons.EndOfFile))

-- a block ends at a row
abbrev pub end_at : PlainHolder → PlainRow → End
end_at holder row = record { file = holder.file; line = row.line; left = holder.left }

-- ---- all rows

-- Behind this reading, these rows of a file come to the reading after.
pub data ReadsRows (files : Map) : (holder : PlainHolder) (before : PlainReading) → List PlainRow → (after : PlainReading) → Type 0 where
  ends : {holder : PlainHolder} {reading : PlainReading} → ReadsRows files holder reading [] reading
  takes_row : {holder : PlainHolder} {before next after : PlainReading} {row : PlainRow} {rows : List PlainRow}
      → said_of before holder row ≡ Ok (next, said.Taken)
      → ReadsRows files holder next rows after
      → ReadsRows files holder before (row ∷ rows) after
  opens_file : {holder other : PlainHolder} {before next between after : PlainReading} {row : PlainRow} {rows : List PlainRow} {says : Said} {bytes : List ℕ}
      → said_of before holder row ≡ Ok (next, says)
      → opened_by holder next says ≡ Some other
      → handed_out files other.file ≡ Ok bytes
      → ReadsRows files other next (rows_of bytes) between
      → is_left_open other between ≡ false
      → ReadsRows files holder between rows after
      → ReadsRows files holder before (row ∷ rows) after
  ends_tile : {holder : PlainHolder} {before next after : PlainReading} {row : PlainRow} {rows : List PlainRow} {block : PlainBlock} {tile : PlainTile}
      → said_of before holder row ≡ Ok (next, said.EndsTile block)
      → ReadsTile files (end_at holder row) block tile
      → ReadsRows files holder (with_type next tile) rows after
      → ReadsRows files holder before (row ∷ rows) after

-- What a reader of these rows comes upon before anything is refused: the files that are asked for, and the first refusal.
pub data MeetsRows (files : Map) : (holder : PlainHolder) (before : PlainReading) → List PlainRow → Event → Type 0 where
  bad_row : {holder : PlainHolder} {before : PlainReading} {row : PlainRow} {rows : List PlainRow} {problem : Problem}
      → said_of before holder row ≡ Err problem
      → MeetsRows files holder before (row ∷ rows) (refuses (fault_at holder.file row.line problem))
  at_file : {holder other : PlainHolder} {before next : PlainReading} {row : PlainRow} {rows : List PlainRow} {says : Said} {event : Event}
      → said_of before holder row ≡ Ok (next, says)
      → opened_by holder next says ≡ Some other
      → MeetsFile files other.file event
      → MeetsRows files holder before (row ∷ rows) event
  inside : {holder other : PlainHolder} {before next : PlainReading} {row : PlainRow} {rows : List PlainRow} {says : Said} {bytes : List ℕ} {event : Event}
      → said_of before holder row ≡ Ok (next, says)
      → opened_by holder next says ≡ Some other
      → handed_out files other.file ≡ Ok bytes
      → MeetsRows files other next (rows_of bytes) event
      → MeetsRows files holder before (row ∷ rows) event
  left_open : {holder other : PlainHolder} {before next between : PlainReading} {row : PlainRow} {rows : List PlainRow} {says : Said} {bytes : List ℕ}
      → said_of before holder row ≡ Ok (next, says)
      → opened_by holder next says ≡ Some other
      → handed_out files other.file ≡ Ok bytes
      → ReadsRows files other next (rows_of bytes) between
      → is_left_open other between ≡ true
      → MeetsRows files holder before (row ∷ rows) (end_of_file other.file bytes)
  in_tile : {holder : PlainHolder} {before next : PlainReading} {row : PlainRow} {rows : List PlainRow} {block : PlainBlock} {event : Event}
      → said_of before holder row ≡ Ok (next, said.EndsTile block)
      → MeetsTile files (end_at holder row) block event
      → MeetsRows files holder before (row ∷ rows) event
  behind_row : {holder : PlainHolder} {before next : PlainReading} {row : PlainRow} {rows : List PlainRow} {event : Event}
      → said_of before holder row ≡ Ok (next, said.Taken)
      → MeetsRows files holder next rows event
      → MeetsRows files holder before (row ∷ rows) event
  behind_file : {holder other : PlainHolder} {before next between : PlainReading} {row : PlainRow} {rows : List PlainRow} {says : Said} {bytes : List ℕ} {event : Event}
      → said_of before holder row ≡ Ok (next, says)
      → opened_by holder next says ≡ Some other
      → handed_out files other.file ≡ Ok bytes
      → ReadsRows files other next (rows_of bytes) between
      → is_left_open other between ≡ false
      → MeetsRows files holder between rows event
      → MeetsRows files holder before (row ∷ rows) event
  behind_tile : {holder : PlainHolder} {before next : PlainReading} {row : PlainRow} {rows : List PlainRow} {block : PlainBlock} {tile : PlainTile} {event : Event}
      → said_of before holder row ≡ Ok (next, said.EndsTile block)
      → ReadsTile files (end_at holder row) block tile
      → MeetsRows files holder (with_type next tile) rows event
      → MeetsRows files holder before (row ∷ rows) event

-- ---- a file as a whole

-- the file is handed out with these bytes, its rows come to this reading, and no block of its own is open
pub record ReadsFile (files : Map) (holder : PlainHolder) (before : PlainReading) (bytes : List ℕ) (after : PlainReading) : Type 0 where
  pub found : handed_out files holder.file ≡ Ok bytes
  pub reads : ReadsRows files holder before (rows_of bytes) after
  pub closed : is_left_open holder after ≡ false

pub data MeetsRowsFile (files : Map) (holder : PlainHolder) (before : PlainReading) : Event → Type 0 where
  of_file : {event : Event} → MeetsFile files holder.file event → MeetsRowsFile files holder before event
  of_rows : {bytes : List ℕ} {event : Event} → handed_out files holder.file ≡ Ok bytes → MeetsRows files holder before (rows_of bytes) event → MeetsRowsFile files holder before event
  of_end : {bytes : List ℕ} {after : PlainReading} → handed_out files holder.file ≡ Ok bytes → ReadsRows files holder before (rows_of bytes) after → is_left_open holder after ≡ true
      → MeetsRowsFile files holder before (end_of_file holder.file bytes)
