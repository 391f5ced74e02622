-- Switch lists whose INCLUDE rows stand for the rows of other files: to which pairs their rows come, and which row is the first
-- that is refused.
use Rattle.std.specs.Prelude.{◌≡◌, ℕ, ◌-◌, ◌+◌, ◌==◌, ◌&&◌, Bool, List, [], ◌∷◌, ◌++◌, fold, if◌then◌else◌, Option, Some, None, Result, Ok, Err}
use Rattle.std.specs.List.{list_any}
use Rattle.std.specs.Str.{bytes_eq}
use Rattle.fab_base.specs.Reading.{fault_at}
use Rattle.fab_base.specs.declared.fault.Fault.{Fault}
use Rattle.fab_base.specs.declared.words.Reason.{Reason}
use Rattle.fab_base.specs.declared.words.Reason.TheVariants as reasons
use Rattle.fab_base.specs.declared.words.Quantity.TheVariants as quantities
use Rattle.fab_base.specs.declared.problem.Problem.{Problem}
use Rattle.fab_base.specs.declared.problem.Problem.TheVariants as problems
use Rattle.fab_desk.specs.Files.{Map}
use Rattle.fab_paths.specs.Paths.{file_of}
use Rattle.fab_rows.specs.Rows.{PlainRow, rows_of}
use Rattle.fab_tables.specs.Lists.{Pair, PlainBody, PairsOf, IncludeOf, body_of}
use Rattle.fab_files.specs.Files.{handed_out, Event, asks, refuses, MeetsFile}

-- ---- pairs so far

abbrev pub same_pair : Pair → Pair → Bool
same_pair p q = bytes_eq p.0 q.0 && bytes_eq p.1 q.1

-- one pair more; a pair that stands already counts once, at its first place
abbrev pub with_pair : List Pair → Pair → List Pair
with_pair pairs new = if list_any (same_pair new) pairs then pairs else pairs ++ new ∷ []

abbrev pub with_pairs : List Pair → (new : List Pair) → List Pair
with_pairs pairs new = fold with_pair pairs new

-- what is known of names beside a row: why new pairs are refused behind those before them
abbrev pub Knowledge : Type 0
Knowledge = (before new : List Pair) → Option Reason

-- ---- one row

-- so many INCLUDE rows may be open, one in the file of another
abbrev pub most_open : ℕ
most_open = 8

abbrev pub depth_limit : Problem
depth_limit = problems.Limit quantities.IncludeDepth (most_open + 1) most_open

-- what a row does: it adds pairs, or the rows of this file stand in its place
pub data Deed : Type 0 where
  adds : (new : List Pair) → Deed
  opens : (file : List ℕ) → Deed

-- a file in which an INCLUDE row stands opens another, if the path is one and so many more may be opened
abbrev pub opened_file : (left : ℕ) → Option (List ℕ) → Result Deed Problem
opened_file left None = Err (problems.Malformed reasons.Name)
opened_file left (Some file) = if left == 0 then Err depth_limit else Ok (opens file)

abbrev pub opened : (left : ℕ) (file path : List ℕ) → Result Deed Problem
opened left file path = opened_file left (file_of file path)

abbrev pub deed_of_body : (left : ℕ) (file : List ℕ) → Result PlainBody Problem → Result Deed Problem
deed_of_body left file (Ok (PairsOf new)) = Ok (adds new)
deed_of_body left file (Ok (IncludeOf path)) = opened left file path
deed_of_body left file (Err problem) = Err problem

-- what a row of a file does behind these pairs, or why it is refused
abbrev pub deed_of : Knowledge → (left : ℕ) (file : List ℕ) (before : List Pair) (cells : List (List ℕ)) → Result Deed Problem
deed_of known left file before cells = deed_of_body left file (body_of (known before) cells)

-- ---- all rows

-- Behind the pairs `before`, these rows of a file come to the pairs `after`. So many INCLUDE rows may still be opened.
pub data ReadsList (files : Map) (known : Knowledge) : (left : ℕ) (file : List ℕ) (before : List Pair) → List PlainRow → (after : List Pair) → Type 0 where
  ends : {left : ℕ} {file : List ℕ} {pairs : List Pair} → ReadsList files known left file pairs [] pairs
  adds_pairs : {left : ℕ} {file : List ℕ} {before after new : List Pair} {row : PlainRow} {rows : List PlainRow}
      → deed_of known left file before row.cells ≡ Ok (adds new)
      → ReadsList files known left file (with_pairs before new) rows after
      → ReadsList files known left file before (row ∷ rows) after
  opens_file : {left : ℕ} {file : List ℕ} {before between after : List Pair} {row : PlainRow} {rows : List PlainRow} {other bytes : List ℕ}
      → deed_of known left file before row.cells ≡ Ok (opens other)
      → handed_out files other ≡ Ok bytes
      → ReadsList files known (left - 1) other before (rows_of bytes) between
      → ReadsList files known left file between rows after
      → ReadsList files known left file before (row ∷ rows) after

-- What a reader of these rows comes upon before anything is refused: the files that are asked for, and the first refusal.
pub data MeetsList (files : Map) (known : Knowledge) : (left : ℕ) (file : List ℕ) (before : List Pair) → List PlainRow → Event → Type 0 where
  bad_row : {left : ℕ} {file : List ℕ} {before : List Pair} {row : PlainRow} {rows : List PlainRow} {problem : Problem}
      → deed_of known left file before row.cells ≡ Err problem
      → MeetsList files known left file before (row ∷ rows) (refuses (fault_at file row.line problem))
  asks_for : {left : ℕ} {file : List ℕ} {before : List Pair} {row : PlainRow} {rows : List PlainRow} {other : List ℕ}
      → deed_of known left file before row.cells ≡ Ok (opens other)
      → MeetsList files known left file before (row ∷ rows) (asks other)
  no_file : {left : ℕ} {file : List ℕ} {before : List Pair} {row : PlainRow} {rows : List PlainRow} {other : List ℕ} {fault : Fault}
      → deed_of known left file before row.cells ≡ Ok (opens other)
      → handed_out files other ≡ Err fault
      → MeetsList files known left file before (row ∷ rows) (refuses fault)
  inside : {left : ℕ} {file : List ℕ} {before : List Pair} {row : PlainRow} {rows : List PlainRow} {other bytes : List ℕ} {event : Event}
      → deed_of known left file before row.cells ≡ Ok (opens other)
      → handed_out files other ≡ Ok bytes
      → MeetsList files known (left - 1) other before (rows_of bytes) event
      → MeetsList files known left file before (row ∷ rows) event
  behind_pairs : {left : ℕ} {file : List ℕ} {before new : List Pair} {row : PlainRow} {rows : List PlainRow} {event : Event}
      → deed_of known left file before row.cells ≡ Ok (adds new)
      → MeetsList files known left file (with_pairs before new) rows event
      → MeetsList files known left file before (row ∷ rows) event
  behind_file : {left : ℕ} {file : List ℕ} {before between : List Pair} {row : PlainRow} {rows : List PlainRow} {other bytes : List ℕ} {event : Event}
      → deed_of known left file before row.cells ≡ Ok (opens other)
      → handed_out files other ≡ Ok bytes
      → ReadsList files known (left - 1) other before (rows_of bytes) between
      → MeetsList files known left file between rows event
      → MeetsList files known left file before (row ∷ rows) event

-- ---- a list as a file

-- the file is handed out, and its rows come to these pairs
pub record ReadsListFile (files : Map) (known : Knowledge) (left : ℕ) (file : List ℕ) (before after : List Pair) : Type 0 where
  pub bytes : List ℕ
  pub found : handed_out files file ≡ Ok bytes
  pub reads : ReadsList files known left file before (rows_of bytes) after

-- what a reader of the file comes upon: the file itself, and what its rows hold
pub data MeetsListFile (files : Map) (known : Knowledge) (left : ℕ) (file : List ℕ) (before : List Pair) : Event → Type 0 where
  of_file : {event : Event} → MeetsFile files file event → MeetsListFile files known left file before event
  of_rows : {bytes : List ℕ} {event : Event} → handed_out files file ≡ Ok bytes → MeetsList files known left file before (rows_of bytes) event → MeetsListFile files known left file before event
