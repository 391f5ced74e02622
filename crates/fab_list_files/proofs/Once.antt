-- A list is read in one way, and has one first refusal.
use Rattle.std.proofs.Common.{◌≡◌, ◌-◌, ◌<◌, ℕ, zero, suc, arith, List, [], ◌∷◌, Some, None, Result, Ok, Err, refl, sym, ap, ◌∙◌}
use Rattle.std.specs.Str.{bytes_eq}
use Rattle.fab_base.specs.declared.fault.Fault.{Fault}
use Rattle.fab_base.specs.declared.problem.Problem.{Problem}
use Rattle.fab_base.specs.Reading.{fault_at}
use Rattle.fab_desk.specs.Files.{Map}
use Rattle.fab_rows.specs.Rows.{PlainRow, rows_of}
use Rattle.fab_tables.specs.Lists.{Pair}
use Rattle.fab_lines.specs.Counts.{last_line}
use Rattle.fab_files.specs.Files.{handed_out, refuses}
use Rattle.fab_list_files.specs.Lists.{Knowledge, Deed, adds, opens, deed_of, with_pairs, most_open, ReadsList, ends, adds_pairs, opens_file, MeetsList, bad_row, no_file, inside, behind_pairs, behind_file, ReadsListFile, MeetsListFile, of_file, of_rows}
use Rattle.fab_list_files.proofs.Rows.{opens_some_left}
use Rattle.fab_list_files.specs.Sides.{on_both_sides, crowd, crowd_limit, SpellsPairs, of_list, of_crowd, RefusesPairs}

-- What the rows of a text come to, or for what they are refused. `inner` answers for the files that the rows open.
abbrev Reader : Type 0
Reader = (file : List ℕ) (before : List Pair) → List PlainRow → Result (List Pair) Fault

-- a value is gone on with
abbrev and_then : Result (List Pair) Fault → (List Pair → Result (List Pair) Fault) → Result (List Pair) Fault
and_then (Ok pairs) more = more pairs
and_then (Err fault) more = Err fault

abbrev file_answer : (inner : Reader) (other : List ℕ) (before : List Pair) → Result (List ℕ) Fault → Result (List Pair) Fault
file_answer inner other before (Ok bytes) = inner other before (rows_of bytes)
file_answer inner other before (Err fault) = Err fault

abbrev row_answer : (files : Map) (inner : Reader) (file : List ℕ) (line : ℕ) (before : List Pair) → Result Deed Problem → Result (List Pair) Fault
row_answer files inner file line before (Ok (adds new)) = Ok (with_pairs before new)
row_answer files inner file line before (Ok (opens other)) = file_answer inner other before (handed_out files other)
row_answer files inner file line before (Err problem) = Err (fault_at file line problem)

unfoldable rows_answer : (files : Map) (known : Knowledge) (inner : Reader) (left : ℕ) → Reader
rows_answer files known inner left file before [] = Ok before
rows_answer files known inner left file before (row ∷ rows) =
    and_then (row_answer files inner file row.line before (deed_of known left file before row.cells)) (λ next. rows_answer files known inner left file next rows)

-- of the files that are opened where so many may be
unfoldable inner_answer : (files : Map) (known : Knowledge) (left : ℕ) → Reader
inner_answer files known zero = λ file before rows. Ok before
inner_answer files known (suc left) = rows_answer files known (inner_answer files known left) left

abbrev answer : (files : Map) (known : Knowledge) (left : ℕ) → Reader
answer files known left = rows_answer files known (inner_answer files known left) left

ok_is : {first second : List Pair} → (let value : List Pair → Result (List Pair) Fault = λ x. Ok x in value first ≡ value second) → first ≡ second
ok_is same = cc

err_is : {first second : Fault} → (let value : Fault → Result (List Pair) Fault = λ x. Err x in value first ≡ value second) → first ≡ second
err_is same = cc

no_both : {pairs : List Pair} {fault : Fault} → Ok pairs ≡ Err fault → ⊥
no_both same = cc

module _ (files : Map) (known : Knowledge) where
  inner_is : (left : ℕ) → 0 < left → (file : List ℕ) (before : List Pair) (rows : List PlainRow) → inner_answer files known left file before rows ≡ answer files known (left - 1) file before rows
  unfolding inner_answer
  inner_is zero some file before rows = absurd (omega arith)
  inner_is (suc left) some file before rows = let less : left ≡ suc left - 1 = omega arith in ap (λ n. answer files known n file before rows) less

  opened_is : (left : ℕ) (other : List ℕ) (before : List Pair) (bytes : List ℕ) (result : Result (List Pair) Fault) → 0 < left → handed_out files other ≡ Ok bytes →
      answer files known (left - 1) other before (rows_of bytes) ≡ result → file_answer (inner_answer files known left) other before (handed_out files other) ≡ result
  opened_is left other before bytes result some found is =
      ap (file_answer (inner_answer files known left) other before) found ∙ inner_is left some other before (rows_of bytes) ∙ is

  -- the answer for a row and the rest
  step_is : (left : ℕ) (file : List ℕ) (before : List Pair) (row : PlainRow) (rows : List PlainRow) (deed : Result Deed Problem) → deed_of known left file before row.cells ≡ deed →
      answer files known left file before (row ∷ rows) ≡ and_then (row_answer files (inner_answer files known left) file row.line before deed) (λ next. answer files known left file next rows)
  unfolding rows_answer
  step_is left file before row rows deed is =
      ap (λ d. and_then (row_answer files (inner_answer files known left) file row.line before d) (λ next. rows_answer files known (inner_answer files known left) left file next rows)) is

  nothing_left : (left : ℕ) (file : List ℕ) (before : List Pair) → answer files known left file before [] ≡ Ok before
  unfolding rows_answer
  nothing_left left file before = refl

  goes_on : (left : ℕ) (file : List ℕ) (rows : List PlainRow) (first : Result (List Pair) Fault) (next : List Pair) → first ≡ Ok next →
      and_then first (λ pairs. answer files known left file pairs rows) ≡ answer files known left file next rows
  goes_on left file rows first next is = ap (λ r. and_then r (λ pairs. answer files known left file pairs rows)) is

  stops : (left : ℕ) (file : List ℕ) (rows : List PlainRow) (first : Result (List Pair) Fault) (fault : Fault) → first ≡ Err fault →
      and_then first (λ pairs. answer files known left file pairs rows) ≡ Err fault
  stops left file rows first fault is = ap (λ r. and_then r (λ pairs. answer files known left file pairs rows)) is

  reads_is : {left : ℕ} {file : List ℕ} {before : List Pair} {rows : List PlainRow} {after : List Pair} → ReadsList files known left file before rows after → answer files known left file before rows ≡ Ok after
  reads_is (ends {left = left} {file = file} {pairs = pairs}) = nothing_left left file pairs
  reads_is (adds_pairs {left = left} {file = file} {before = before} {new = new} {row = row} {rows = rows} deed rest) =
      step_is left file before row rows (Ok (adds new)) deed ∙ reads_is rest
  reads_is (opens_file {left = left} {file = file} {before = before} {between = between} {row = row} {rows = rows} {other = other} {bytes = bytes} deed found one rest) =
      step_is left file before row rows (Ok (opens other)) deed
      ∙ goes_on left file rows _ between (opened_is left other before bytes (Ok between) (opens_some_left known left file before row.cells other deed) found (reads_is one))
      ∙ reads_is rest

  meets_is : {left : ℕ} {file : List ℕ} {before : List Pair} {rows : List PlainRow} {fault : Fault} → MeetsList files known left file before rows (refuses fault) → answer files known left file before rows ≡ Err fault
  meets_is (bad_row {left = left} {file = file} {before = before} {row = row} {rows = rows} {problem = problem} deed) = step_is left file before row rows (Err problem) deed
  meets_is (no_file {left = left} {file = file} {before = before} {row = row} {rows = rows} {other = other} {fault = fault} deed absent) =
      step_is left file before row rows (Ok (opens other)) deed
      ∙ stops left file rows _ fault (ap (file_answer (inner_answer files known left) other before) absent)
  meets_is (inside {left = left} {file = file} {before = before} {row = row} {rows = rows} {other = other} {bytes = bytes} {event = refuses fault} deed found one) =
      step_is left file before row rows (Ok (opens other)) deed
      ∙ stops left file rows _ fault (opened_is left other before bytes (Err fault) (opens_some_left known left file before row.cells other deed) found (meets_is one))
  meets_is (behind_pairs {left = left} {file = file} {before = before} {new = new} {row = row} {rows = rows} {event = refuses fault} deed rest) =
      step_is left file before row rows (Ok (adds new)) deed ∙ meets_is rest
  meets_is (behind_file {left = left} {file = file} {before = before} {between = between} {row = row} {rows = rows} {other = other} {bytes = bytes} {event = refuses fault} deed found one rest) =
      step_is left file before row rows (Ok (opens other)) deed
      ∙ goes_on left file rows _ between (opened_is left other before bytes (Ok between) (opens_some_left known left file before row.cells other deed) found (reads_is one))
      ∙ meets_is rest

  -- ---- a list as a file

  whole : (left : ℕ) (file : List ℕ) (before : List Pair) → Result (List Pair) Fault
  whole left file before = file_answer (answer files known left) file before (handed_out files file)

  file_reads : (left : ℕ) (file : List ℕ) (before after : List Pair) → ReadsListFile files known left file before after → whole left file before ≡ Ok after
  unfolding whole
  file_reads left file before after read = ap (file_answer (answer files known left) file before) read.found ∙ reads_is read.reads

  file_meets : (left : ℕ) (file : List ℕ) (before : List Pair) (fault : Fault) → MeetsListFile files known left file before (refuses fault) → whole left file before ≡ Err fault
  unfolding whole
  file_meets left file before fault (of_file absent) = ap (file_answer (answer files known left) file before) absent
  file_meets left file before fault (of_rows found met) = ap (file_answer (answer files known left) file before) found ∙ meets_is met

  -- a list comes to one list of pairs, has one first refusal, and not both
  pub file_once : (left : ℕ) (file : List ℕ) (before first second : List Pair) → ReadsListFile files known left file before first → ReadsListFile files known left file before second → first ≡ second
  file_once left file before first second a b =
      ok_is (sym (file_reads left file before first a) ∙ file_reads left file before second b)

  pub file_refused_once : (left : ℕ) (file : List ℕ) (before : List Pair) (first second : Fault) → MeetsListFile files known left file before (refuses first) → MeetsListFile files known left file before (refuses second) → first ≡ second
  file_refused_once left file before first second a b =
      err_is (sym (file_meets left file before first a) ∙ file_meets left file before second b)

  pub file_not_both : (left : ℕ) (file : List ℕ) (before after : List Pair) (fault : Fault) → ReadsListFile files known left file before after → MeetsListFile files known left file before (refuses fault) → ⊥
  file_not_both left file before after fault a b =
      no_both (sym (file_reads left file before after a) ∙ file_meets left file before fault b)

-- ---- the list of a matrix

bytes_is : {first second : List ℕ} → (let value : List ℕ → Result (List ℕ) Fault = λ x. Ok x in value first ≡ value second) → first ≡ second
bytes_is same = cc

some_is : {first second : ℕ} → Some first ≡ Some second → first ≡ second
some_is same = cc

no_number : {number : ℕ} → None ≡ Some number → ⊥
no_number same = cc

pub one_value : (files : Map) (list : List ℕ) (first second : List Pair) → SpellsPairs files list first → SpellsPairs files list second → first ≡ second
one_value files list first second a b = file_once files on_both_sides most_open list [] first second a.read b.read

pub one_refusal : (files : Map) (list : List ℕ) (first second : Fault) → RefusesPairs files list first → RefusesPairs files list second → first ≡ second
one_refusal files list first second (of_list a) (of_list b) = file_refused_once files on_both_sides most_open list [] first second a b
one_refusal files list first _ (of_list a) (of_crowd {pairs = pairs} found read crowded) = absurd (file_not_both files on_both_sides most_open list [] pairs first read a)
one_refusal files list _ second (of_crowd {pairs = pairs} found read crowded) (of_list b) = absurd (file_not_both files on_both_sides most_open list [] pairs second read b)
one_refusal files list _ _ (of_crowd {bytes = bytes} {pairs = pairs} {inputs = inputs} found read crowded) (of_crowd {bytes = others} {pairs = more} {inputs = count} there reads full) =
    let text : bytes ≡ others = bytes_is (sym found ∙ there) in
    let same : pairs ≡ more = file_once files on_both_sides most_open list [] pairs more read reads in
    let number : inputs ≡ count = some_is (sym crowded ∙ ap (crowd bytes_eq) same ∙ full) in
    λ j. fault_at list (last_line (text j)) (crowd_limit (number j))

pub not_both : (files : Map) (list : List ℕ) (pairs : List Pair) (fault : Fault) → SpellsPairs files list pairs → RefusesPairs files list fault → ⊥
not_both files list pairs fault spelled (of_list a) = file_not_both files on_both_sides most_open list [] pairs fault spelled.read a
not_both files list pairs _ spelled (of_crowd {pairs = more} {inputs = inputs} found read crowded) =
    let same : pairs ≡ more = file_once files on_both_sides most_open list [] pairs more spelled.read read in
    no_number (sym spelled.few ∙ ap (crowd bytes_eq) same ∙ crowded)
