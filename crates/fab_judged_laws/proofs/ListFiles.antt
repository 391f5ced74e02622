-- A switch list comes to pairs, or it is refused.
use Rattle.std.proofs.Common.{◌≡◌, ◌<◌, ◌-◌, ℕ, zero, suc, arith, List, [], ◌∷◌, Option, Some, None, Result, Ok, Err, refl, subst, inl, inr}
use Rattle.std.specs.Str.{bytes_eq}
use Rattle.fab_base.specs.declared.fault.Fault.{Fault}
use Rattle.fab_base.specs.declared.problem.Problem.{Problem}
use Rattle.fab_base.specs.Reading.{fault_at}
use Rattle.fab_desk.specs.Files.{Map}
use Rattle.fab_rows.specs.Rows.{PlainRow, rows_of}
use Rattle.fab_tables.specs.Lists.{Pair}
use Rattle.fab_lines.specs.Counts.{last_line}
use Rattle.fab_files.specs.Files.{handed_out}
use Rattle.fab_list_files.specs.Lists.{Knowledge, Deed, adds, opens, deed_of, with_pairs, most_open, ReadsList, ends, adds_pairs, opens_file, MeetsList, bad_row, no_file, inside, behind_pairs, behind_file, ReadsListFile, MeetsListFile, of_file, of_rows}
use Rattle.fab_list_files.specs.Sides.{on_both_sides, crowd, crowd_limit, SpellsPairs, MeetsPairs, of_list, of_crowd}
use Rattle.fab_list_files.proofs.Rows.{opens_some_left}
use Rattle.fab_judged_laws.specs.Judged.{IsReadyOrRefused}

module _ (files : Map) (known : Knowledge) where
  -- rows come to pairs, or are refused
  abbrev AreJudged : (left : ℕ) (file : List ℕ) (before : List Pair) → List PlainRow → Type 0
  AreJudged left file before rows = IsReadyOrRefused ((after : List Pair) × ReadsList files known left file before rows after) (MeetsList files known left file before rows)

  -- rows of files are, in which so many INCLUDE rows may still be opened
  abbrev AreJudgedWith : (left : ℕ) → Type 0
  AreJudgedWith left = (file : List ℕ) (before : List Pair) (rows : List PlainRow) → AreJudged left file before rows

  -- ---- one row, and behind it the rest

  module _ (left : ℕ) (deeper : 0 < left → AreJudgedWith (left - 1)) (file : List ℕ) (before : List Pair) (row : PlainRow) (rows : List PlainRow)
      (rest : (next : List Pair) → AreJudged left file next rows) where
    behind_pairs_judged : (new : List Pair) → deed_of known left file before row.cells ≡ Ok (adds new) → AreJudged left file before (row ∷ rows)
    behind_pairs_judged new deed = elim (rest (with_pairs before new)) [
      | inl read ↦ inl (read.0, adds_pairs deed read.1)
      | inr refusal ↦ inr (refusal.0, behind_pairs deed refusal.1)
    ]

    behind_file_judged : (other bytes : List ℕ) (between : List Pair) → deed_of known left file before row.cells ≡ Ok (opens other) → handed_out files other ≡ Ok bytes
        → ReadsList files known (left - 1) other before (rows_of bytes) between → AreJudged left file before (row ∷ rows)
    behind_file_judged other bytes between deed found inner = elim (rest between) [
      | inl read ↦ inl (read.0, opens_file deed found inner read.1)
      | inr refusal ↦ inr (refusal.0, behind_file deed found inner refusal.1)
    ]

    opened_judged : (other : List ℕ) → deed_of known left file before row.cells ≡ Ok (opens other) → (given : Result (List ℕ) Fault) → handed_out files other ≡ given → AreJudged left file before (row ∷ rows)
    opened_judged other deed (Err fault) is = inr (fault, no_file deed is)
    opened_judged other deed (Ok bytes) is = elim (deeper (opens_some_left known left file before row.cells other deed) other before (rows_of bytes)) [
      | inl read ↦ behind_file_judged other bytes read.0 deed is read.1
      | inr refusal ↦ inr (refusal.0, inside deed is refusal.1)
    ]

    by_deed : (deed : Result Deed Problem) → deed_of known left file before row.cells ≡ deed → AreJudged left file before (row ∷ rows)
    by_deed (Ok (adds new)) is = behind_pairs_judged new is
    by_deed (Ok (opens other)) is = opened_judged other is (handed_out files other) refl
    by_deed (Err problem) is = inr (fault_at file row.line problem, bad_row is)

  -- ---- all rows, and the files that they open

  one_deeper : (left : ℕ) → (0 < left → AreJudgedWith (left - 1)) → AreJudgedWith left
  one_deeper left deeper file before [] = inl (before, ends)
  one_deeper left deeper file before (row ∷ rows) =
      by_deed left deeper file before row rows (λ next. one_deeper left deeper file next rows) (deed_of known left file before row.cells) refl

  rows_judged : (left : ℕ) → AreJudgedWith left
  rows_judged zero = one_deeper zero (λ some. absurd (omega (arith, some)))
  rows_judged (suc left) =
      let less : left ≡ suc left - 1 = omega arith in
      one_deeper (suc left) (λ some. subst AreJudgedWith less (rows_judged left))

  -- a list as a file
  pub list_file_judged : (left : ℕ) (file : List ℕ) (before : List Pair) → IsReadyOrRefused ((after : List Pair) × ReadsListFile files known left file before after) (MeetsListFile files known left file before)
  list_file_judged left file before = handed (handed_out files file) refl
    where
      handed : (given : Result (List ℕ) Fault) → handed_out files file ≡ given
          → IsReadyOrRefused ((after : List Pair) × ReadsListFile files known left file before after) (MeetsListFile files known left file before)
      handed (Err fault) is = inr (fault, of_file is)
      handed (Ok bytes) is = elim (rows_judged left file before (rows_of bytes)) [
        | inl read ↦ inl (read.0, record { bytes = bytes; found = is; reads = read.1 })
        | inr refusal ↦ inr (refusal.0, of_rows is refusal.1)
      ]

-- the list of a matrix
module _ (files : Map) (list : List ℕ) where
  crowd_judged : (pairs : List Pair) → ReadsListFile files on_both_sides most_open list [] pairs → (inputs : Option ℕ) → crowd bytes_eq pairs ≡ inputs
      → IsReadyOrRefused ((pairs : List Pair) × SpellsPairs files list pairs) (MeetsPairs files list)
  crowd_judged pairs read None is = inl (pairs, record { read = read; few = is })
  crowd_judged pairs read (Some inputs) is = inr (fault_at list (last_line read.bytes) (crowd_limit inputs), of_crowd read.found read is)

  pub pairs_judged : IsReadyOrRefused ((pairs : List Pair) × SpellsPairs files list pairs) (MeetsPairs files list)
  pairs_judged = elim (list_file_judged files on_both_sides most_open list []) [
    | inl read ↦ crowd_judged read.0 read.1 (crowd bytes_eq read.0) refl
    | inr refusal ↦ inr (refusal.0, of_list refusal.1)
  ]
