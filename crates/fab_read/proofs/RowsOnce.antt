-- The rows of a fabric come to one reading, or have one first refusal.
use Rattle.std.proofs.Common.{◌≡◌, ◌+◌, ℕ, zero, suc, true, false, List, [], ◌∷◌, Option, Some, None, Result, Ok, Err, refl, sym, ◌∙◌, subst, arith, if◌then◌else◌}
use Rattle.fab_base.specs.Reading.{fault_at}
use Rattle.fab_base.specs.declared.fault.Fault.{Fault}
use Rattle.fab_base.specs.declared.problem.Problem.{Problem}
use Rattle.fab_base.specs.declared.problem.Problem.TheVariants as problems
use Rattle.fab_base.specs.declared.words.Reason.TheVariants as reasons
use Rattle.fab_desk.specs.Files.{Map}
use Rattle.fab_rows.specs.Rows.{PlainRow, rows_of}
use Rattle.fab_model.specs.Tiles.{PlainTile}
use Rattle.fab_lines.specs.Counts.{last_line}
use Rattle.fab_files.specs.Files.{handed_out, refuses}
use Rattle.fab_blocks.specs.Reading.{PlainReading, PlainHolder, with_type}
use Rattle.fab_blocks.specs.Saying.{Step, said_of}
use Rattle.fab_blocks.specs.declared.standing.Said.{Said}
use Rattle.fab_blocks.specs.declared.standing.Said.TheVariants as said
use Rattle.fab_read.specs.Rows.{opened_by, is_left_open, end_at, ReadsRows, ends, takes_row, opens_file, ends_tile, MeetsRows, bad_row, at_file, inside, left_open, in_tile, behind_row, behind_file, behind_tile}
use Rattle.fab_read.proofs.RowByRow.{depth}
use Rattle.fab_read.proofs.Said.{less_deep}
use Rattle.fab_read.proofs.TilesOnce.{TileSays, says_once}

-- what rows come to, or why they are refused
abbrev pub Outcome : Type 0
Outcome = Result PlainReading Fault

abbrev pub Saying : Type 1
Saying = PlainHolder → PlainReading → List PlainRow → Outcome → Type 0

-- behind a reading the rest says, and behind a refusal nothing
abbrev pub GoesOn : (more : PlainReading → Outcome → Type 0) → Outcome → Outcome → Type 0
GoesOn more (Ok reading) outcome = more reading outcome
GoesOn more (Err fault) outcome = outcome ≡ Err fault

abbrev pub eof : (file bytes : List ℕ) → Fault
eof file bytes = fault_at file (last_line bytes) (problems.Malformed reasons.EndOfFile)

-- a file that was read is refused where a block of its own is open
abbrev pub closed : (other : PlainHolder) (bytes : List ℕ) → Outcome → Outcome
closed other bytes (Ok reading) = if is_left_open other reading then Err (eof other.file bytes) else Ok reading
closed other bytes (Err fault) = Err fault

abbrev pub FileSays : (inner : Saying) (other : PlainHolder) (before : PlainReading) → Result (List ℕ) Fault → (more : PlainReading → Outcome → Type 0) → Outcome → Type 0
FileSays inner other before (Err fault) more outcome = outcome ≡ Err fault
FileSays inner other before (Ok bytes) more outcome = (found : Outcome) × inner other before (rows_of bytes) found × GoesOn more (closed other bytes found) outcome

abbrev pub tile_next : (next : PlainReading) → Result PlainTile Fault → Outcome
tile_next next (Ok tile) = Ok (with_type next tile)
tile_next next (Err fault) = Err fault

abbrev pub OpenedSays : (files : Map) (inner : Saying) (before : PlainReading) → Option PlainHolder → (more : PlainReading → Outcome → Type 0) → Outcome → Type 0
OpenedSays files inner before None more outcome = ⊥
OpenedSays files inner before (Some other) more outcome = FileSays inner other before (handed_out files other.file) more outcome

abbrev pub StepSays : (files : Map) (inner : Saying) (holder : PlainHolder) (row : PlainRow) → Result Step Problem → (more : PlainReading → Outcome → Type 0) → Outcome → Type 0
StepSays files inner holder row (Err problem) more outcome = outcome ≡ Err (fault_at holder.file row.line problem)
StepSays files inner holder row (Ok (next, said.Taken)) more outcome = more next outcome
StepSays files inner holder row (Ok (next, said.Includes file)) more outcome = OpenedSays files inner next (opened_by holder next (said.Includes file)) more outcome
StepSays files inner holder row (Ok (next, said.NamesTiles file)) more outcome = OpenedSays files inner next (opened_by holder next (said.NamesTiles file)) more outcome
StepSays files inner holder row (Ok (next, said.EndsTile block)) more outcome = (tile : Result PlainTile Fault) × TileSays files (end_at holder row) block tile × GoesOn more (tile_next next tile) outcome

unfoldable pub RowsSay : (files : Map) (inner : Saying) → Saying
RowsSay files inner holder before [] outcome = outcome ≡ Ok before
RowsSay files inner holder before (row ∷ rows) outcome = StepSays files inner holder row (said_of before holder row) (λ next found. RowsSay files inner holder next rows found) outcome

-- of the files that are opened where so many may be
unfoldable pub InnerSays : (files : Map) → ℕ → Saying
InnerSays files zero = λ holder before rows outcome. ⊥
InnerSays files (suc n) = RowsSay files (InnerSays files n)

-- ---- one outcome

abbrev Once : Saying → Type 0
Once says = (holder : PlainHolder) (before : PlainReading) (rows : List PlainRow) (first second : Outcome) → says holder before rows first → says holder before rows second → first ≡ second

module _ (files : Map) (inner : Saying) (once : Once inner) where
  goes_once : (more : PlainReading → Outcome → Type 0) → ((reading : PlainReading) (a b : Outcome) → more reading a → more reading b → a ≡ b) → (found : Outcome) (first second : Outcome) → GoesOn more found first → GoesOn more found second → first ≡ second
  goes_once more one (Ok reading) first second a b = one reading first second a b
  goes_once more one (Err fault) first second a b = a ∙ sym b

  file_once : (other : PlainHolder) (before : PlainReading) (given : Result (List ℕ) Fault) (more : PlainReading → Outcome → Type 0) → ((reading : PlainReading) (a b : Outcome) → more reading a → more reading b → a ≡ b)
      → (first second : Outcome) → FileSays inner other before given more first → FileSays inner other before given more second → first ≡ second
  file_once other before (Err fault) more one first second a b = a ∙ sym b
  file_once other before (Ok bytes) more one first second a b =
      let same : a.0 ≡ b.0 = once other before (rows_of bytes) a.0 b.0 a.1 b.1 in
      goes_once more one (closed other bytes b.0) first second (subst (λ (found : Outcome). GoesOn more (closed other bytes found) first) same a.2) b.2

  opened_once : (before : PlainReading) (other : Option PlainHolder) (more : PlainReading → Outcome → Type 0) → ((reading : PlainReading) (a b : Outcome) → more reading a → more reading b → a ≡ b)
      → (first second : Outcome) → OpenedSays files inner before other more first → OpenedSays files inner before other more second → first ≡ second
  opened_once before None more one first second a b = absurd a
  opened_once before (Some other) more one first second a b = file_once other before (handed_out files other.file) more one first second a b

  step_once : (holder : PlainHolder) (row : PlainRow) (step : Result Step Problem) (more : PlainReading → Outcome → Type 0) → ((reading : PlainReading) (a b : Outcome) → more reading a → more reading b → a ≡ b)
      → (first second : Outcome) → StepSays files inner holder row step more first → StepSays files inner holder row step more second → first ≡ second
  step_once holder row (Err problem) more one first second a b = a ∙ sym b
  step_once holder row (Ok (next, said.Taken)) more one first second a b = one next first second a b
  step_once holder row (Ok (next, said.Includes file)) more one first second a b = opened_once next (opened_by holder next (said.Includes file)) more one first second a b
  step_once holder row (Ok (next, said.NamesTiles file)) more one first second a b = opened_once next (opened_by holder next (said.NamesTiles file)) more one first second a b
  step_once holder row (Ok (next, said.EndsTile block)) more one first second a b =
      let same : a.0 ≡ b.0 = says_once files (end_at holder row) block a.0 b.0 a.1 b.1 in
      goes_once more one (tile_next next b.0) first second (subst (λ (tile : Result PlainTile Fault). GoesOn more (tile_next next tile) first) same a.2) b.2

  rows_once : Once (RowsSay files inner)
  unfolding RowsSay
  rows_once holder before [] first second a b = a ∙ sym b
  rows_once holder before (row ∷ rows) first second a b =
      step_once holder row (said_of before holder row) (λ next found. RowsSay files inner holder next rows found) (λ reading x y p q. rows_once holder reading rows x y p q) first second a b

inner_once : (files : Map) (n : ℕ) → Once (InnerSays files n)
unfolding InnerSays
inner_once files zero = λ holder before rows first second a b. absurd a
inner_once files (suc n) = rows_once files (InnerSays files n) (inner_once files n)

-- ---- what is read and met is said

abbrev pub Says : (files : Map) → Saying
Says files = λ holder before rows outcome. RowsSay files (InnerSays files (depth holder)) holder before rows outcome

module _ (files : Map) where
  inner_is : (holder other : PlainHolder) (before : PlainReading) (rows : List PlainRow) (outcome : Outcome) → depth holder ≡ depth other + 1 → Says files other before rows outcome → InnerSays files (depth holder) other before rows outcome
  unfolding InnerSays
  inner_is holder other before rows outcome deeper says =
      let next : depth holder ≡ suc (depth other) = omega (arith, deeper) in
      subst (λ (n : ℕ). InnerSays files n other before rows outcome) (sym next) says

  says_row : (holder : PlainHolder) (before : PlainReading) (row : PlainRow) (rows : List PlainRow) (step : Result Step Problem) (outcome : Outcome) → said_of before holder row ≡ step
      → StepSays files (InnerSays files (depth holder)) holder row step (λ next found. Says files holder next rows found) outcome → Says files holder before (row ∷ rows) outcome
  unfolding RowsSay
  says_row holder before row rows step outcome is says =
      subst (λ (s : Result Step Problem). StepSays files (InnerSays files (depth holder)) holder row s (λ next found. Says files holder next rows found) outcome) (sym is) says

  says_end : (holder : PlainHolder) (before : PlainReading) → Says files holder before [] (Ok before)
  unfolding RowsSay
  says_end holder before = refl

  -- a row that opens a file
  says_opened : (holder : PlainHolder) (before next : PlainReading) (row : PlainRow) (rows : List PlainRow) (says : Said) (other : PlainHolder) (outcome : Outcome) → said_of before holder row ≡ Ok (next, says) → opened_by holder next says ≡ Some other
      → FileSays (InnerSays files (depth holder)) other next (handed_out files other.file) (λ reading found. Says files holder reading rows found) outcome → Says files holder before (row ∷ rows) outcome
  says_opened holder before next row rows said.Taken other outcome is opened file = absurd cc
  says_opened holder before next row rows (said.EndsTile block) other outcome is opened file = absurd cc
  says_opened holder before next row rows (said.Includes name) other outcome is opened file =
      says_row holder before row rows (Ok (next, said.Includes name)) outcome is
      (subst (λ (o : Option PlainHolder). OpenedSays files (InnerSays files (depth holder)) next o (λ reading found. Says files holder reading rows found) outcome) (sym opened) file)
  says_opened holder before next row rows (said.NamesTiles name) other outcome is opened file =
      says_row holder before row rows (Ok (next, said.NamesTiles name)) outcome is
      (subst (λ (o : Option PlainHolder). OpenedSays files (InnerSays files (depth holder)) next o (λ reading found. Says files holder reading rows found) outcome) (sym opened) file)

  says_file : (holder other : PlainHolder) (before : PlainReading) (bytes : List ℕ) (found outcome : Outcome) (more : PlainReading → Outcome → Type 0) → depth holder ≡ depth other + 1 → handed_out files other.file ≡ Ok bytes
      → Says files other before (rows_of bytes) found → GoesOn more (closed other bytes found) outcome → FileSays (InnerSays files (depth holder)) other before (handed_out files other.file) more outcome
  says_file holder other before bytes found outcome more deeper there says on =
      subst (λ (given : Result (List ℕ) Fault). FileSays (InnerSays files (depth holder)) other before given more outcome) (sym there) (found, inner_is holder other before (rows_of bytes) found deeper says, on)

  closes : (other : PlainHolder) (bytes : List ℕ) (reading : PlainReading) → is_left_open other reading ≡ false → closed other bytes (Ok reading) ≡ Ok reading
  closes other bytes reading shut = rw shut refl

  stays : (other : PlainHolder) (bytes : List ℕ) (reading : PlainReading) → is_left_open other reading ≡ true → closed other bytes (Ok reading) ≡ Err (eof other.file bytes)
  stays other bytes reading still = rw still refl

  pub read_says : {holder : PlainHolder} {before : PlainReading} {rows : List PlainRow} {after : PlainReading} → ReadsRows files holder before rows after → Says files holder before rows (Ok after)
  read_says (ends {holder = holder} {reading = reading}) = says_end holder reading
  read_says (takes_row {holder = holder} {before = before} {next = next} {after = after} {row = row} {rows = rows} is rest) = says_row holder before row rows (Ok (next, said.Taken)) (Ok after) is (read_says rest)
  read_says (opens_file {holder = holder} {other = other} {before = before} {next = next} {between = between} {after = after} {row = row} {rows = rows} {says = says} {bytes = bytes} is opened found one shut rest) =
      let more : PlainReading → Outcome → Type 0 = λ reading found. Says files holder reading rows found in
      says_opened holder before next row rows says other (Ok after) is opened
      (says_file holder other next bytes (Ok between) (Ok after) more (less_deep before holder row next says other is opened) found (read_says one)
      (subst (λ (o : Outcome). GoesOn more o (Ok after)) (sym (closes other bytes between shut)) (read_says rest)))
  read_says (ends_tile {holder = holder} {before = before} {next = next} {after = after} {row = row} {rows = rows} {block = block} {tile = tile} is read rest) =
      says_row holder before row rows (Ok (next, said.EndsTile block)) (Ok after) is (Ok tile, read, read_says rest)

  pub met_says : {holder : PlainHolder} {before : PlainReading} {rows : List PlainRow} {fault : Fault} → MeetsRows files holder before rows (refuses fault) → Says files holder before rows (Err fault)
  met_says (bad_row {holder = holder} {before = before} {row = row} {rows = rows} {problem = problem} is) = says_row holder before row rows (Err problem) (Err (fault_at holder.file row.line problem)) is refl
  met_says (at_file {holder = holder} {other = other} {before = before} {next = next} {row = row} {rows = rows} {says = says} {event = refuses fault} is opened absent) =
      says_opened holder before next row rows says other (Err fault) is opened
      (subst (λ (given : Result (List ℕ) Fault). FileSays (InnerSays files (depth holder)) other next given (λ reading found. Says files holder reading rows found) (Err fault)) (sym absent) refl)
  met_says (inside {holder = holder} {other = other} {before = before} {next = next} {row = row} {rows = rows} {says = says} {bytes = bytes} {event = refuses fault} is opened found one) =
      says_opened holder before next row rows says other (Err fault) is opened
      (says_file holder other next bytes (Err fault) (Err fault) (λ reading found. Says files holder reading rows found) (less_deep before holder row next says other is opened) found (met_says one) refl)
  met_says (left_open {holder = holder} {other = other} {before = before} {next = next} {between = between} {row = row} {rows = rows} {says = says} {bytes = bytes} is opened found one still) =
      let more : PlainReading → Outcome → Type 0 = λ reading found. Says files holder reading rows found in
      let fault : Fault = eof other.file bytes in
      says_opened holder before next row rows says other (Err fault) is opened
      (says_file holder other next bytes (Ok between) (Err fault) more (less_deep before holder row next says other is opened) found (read_says one)
      (subst (λ (o : Outcome). GoesOn more o (Err fault)) (sym (stays other bytes between still)) refl))
  met_says (in_tile {holder = holder} {before = before} {next = next} {row = row} {rows = rows} {block = block} {event = refuses fault} is met) =
      says_row holder before row rows (Ok (next, said.EndsTile block)) (Err fault) is (Err fault, met, refl)
  met_says (behind_row {holder = holder} {before = before} {next = next} {row = row} {rows = rows} {event = refuses fault} is rest) = says_row holder before row rows (Ok (next, said.Taken)) (Err fault) is (met_says rest)
  met_says (behind_file {holder = holder} {other = other} {before = before} {next = next} {between = between} {row = row} {rows = rows} {says = says} {bytes = bytes} {event = refuses fault} is opened found one shut rest) =
      let more : PlainReading → Outcome → Type 0 = λ reading found. Says files holder reading rows found in
      says_opened holder before next row rows says other (Err fault) is opened
      (says_file holder other next bytes (Ok between) (Err fault) more (less_deep before holder row next says other is opened) found (read_says one)
      (subst (λ (o : Outcome). GoesOn more o (Err fault)) (sym (closes other bytes between shut)) (met_says rest)))
  met_says (behind_tile {holder = holder} {before = before} {next = next} {row = row} {rows = rows} {block = block} {tile = tile} {event = refuses fault} is read rest) =
      says_row holder before row rows (Ok (next, said.EndsTile block)) (Err fault) is (Ok tile, read, met_says rest)

  pub rows_say_once : (holder : PlainHolder) (before : PlainReading) (rows : List PlainRow) (first second : Outcome) → Says files holder before rows first → Says files holder before rows second → first ≡ second
  rows_say_once holder before rows first second a b = rows_once files (InnerSays files (depth holder)) (inner_once files (depth holder)) holder before rows first second a b
