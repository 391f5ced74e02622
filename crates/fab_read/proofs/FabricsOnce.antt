-- A fabric file spells one fabric, or has one first refusal.
use Rattle.std.proofs.Common.{◌≡◌, ℕ, Bool, true, false, List, Option, Some, None, Result, Ok, Err, sym, ap, ◌∙◌, subst, arith}
use Rattle.fab_base.specs.Reading.{fault_at}
use Rattle.fab_base.specs.declared.fault.Fault.{Fault}
use Rattle.fab_base.specs.declared.words.Reason.TheVariants as reasons
use Rattle.fab_base.specs.declared.words.Quantity.TheVariants as quantities
use Rattle.fab_base.specs.declared.problem.Problem.TheVariants as problems
use Rattle.fab_desk.specs.Files.{Map}
use Rattle.fab_rows.specs.Rows.{rows_of}
use Rattle.fab_model.specs.Tiles.{PlainTile}
use Rattle.fab_model.specs.Grid.{PlainFabric}
use Rattle.fab_fabric.specs.Fabric.{in_mode, wire_count}
use Rattle.fab_lines.specs.Counts.{last_line}
use Rattle.fab_files.specs.Files.{handed_out, refuses}
use Rattle.fab_blocks.specs.Reading.{PlainReading, PlainGridLine, PlainHolder, start}
use Rattle.fab_read.specs.Rows.{is_left_open, ReadsRows, MeetsRows, ReadsFile, MeetsRowsFile, of_file, of_rows, of_end}
use Rattle.fab_read.specs.Fabrics.{top, strange_line, grid_fabric, most_wires, ReadsParts, SpellsFabric, of_rows as in_rows, no_grid, no_tile, many_wires, RefusesFabric}
use Rattle.fab_read.proofs.RowsOnce.{Outcome, read_says, met_says, rows_say_once}

bytes_is : {a b : List ℕ} → (let value : List ℕ → Result (List ℕ) Fault = λ x. Ok x in value a ≡ value b) → a ≡ b
bytes_is same = cc

reading_is : {a b : PlainReading} → (let value : PlainReading → Outcome = λ x. Ok x in value a ≡ value b) → a ≡ b
reading_is same = cc

fault_is : {a b : Fault} → (let value : Fault → Outcome = λ x. Err x in value a ≡ value b) → a ≡ b
fault_is same = cc

read_or_refused : {a : PlainReading} {b : Fault} → (let outcome : Outcome = Ok a in outcome ≡ Err b) → ⊥
read_or_refused same = cc

given_or_not : {X : Type 0} {a : X} {b : Fault} (r : Result X Fault) → r ≡ Ok a → r ≡ Err b → ⊥
given_or_not r is other = cc

not_given : {a b : Fault} (r : Result (List ℕ) Fault) → r ≡ Err a → r ≡ Err b → a ≡ b
not_given r is other = cc

shut_or_open : (test : Bool) → test ≡ false → test ≡ true → ⊥
shut_or_open test shut still = cc

some_or_none : {X : Type 0} {a : X} (o : Option X) → o ≡ Some a → o ≡ None → ⊥
some_or_none o is other = cc

one_some : {X : Type 0} {a b : X} (o : Option X) → o ≡ Some a → o ≡ Some b → a ≡ b
one_some o is other = cc

-- ---- a file

module _ (files : Map) (holder : PlainHolder) (before : PlainReading) where
  same_bytes : (bytes others : List ℕ) → handed_out files holder.file ≡ Ok bytes → handed_out files holder.file ≡ Ok others → bytes ≡ others
  same_bytes bytes others here there = bytes_is (sym here ∙ there)

  same_reading : (bytes others : List ℕ) (first second : PlainReading) → bytes ≡ others → ReadsRows files holder before (rows_of bytes) first → ReadsRows files holder before (rows_of others) second → first ≡ second
  same_reading bytes others first second same one two =
      reading_is (rows_say_once files holder before (rows_of others) (Ok first) (Ok second) (read_says files (subst (λ (b : List ℕ). ReadsRows files holder before (rows_of b) first) same one)) (read_says files two))

  read_not_met : (bytes others : List ℕ) (reading : PlainReading) (fault : Fault) → bytes ≡ others → ReadsRows files holder before (rows_of bytes) reading → MeetsRows files holder before (rows_of others) (refuses fault) → ⊥
  read_not_met bytes others reading fault same one two =
      read_or_refused (rows_say_once files holder before (rows_of others) (Ok reading) (Err fault) (read_says files (subst (λ (b : List ℕ). ReadsRows files holder before (rows_of b) reading) same one)) (met_says files two))

  met_once : (bytes others : List ℕ) (first second : Fault) → bytes ≡ others → MeetsRows files holder before (rows_of bytes) (refuses first) → MeetsRows files holder before (rows_of others) (refuses second) → first ≡ second
  met_once bytes others first second same one two =
      fault_is (rows_say_once files holder before (rows_of others) (Err first) (Err second) (met_says files (subst (λ (b : List ℕ). MeetsRows files holder before (rows_of b) (refuses first)) same one)) (met_says files two))

  file_once : (bytes others : List ℕ) (first second : PlainReading) → ReadsFile files holder before bytes first → ReadsFile files holder before others second → (bytes ≡ others) × (first ≡ second)
  file_once bytes others first second a b =
      let same : bytes ≡ others = same_bytes bytes others a.found b.found in
      (same, same_reading bytes others first second same a.reads b.reads)

  file_not_refused : (bytes : List ℕ) (after : PlainReading) (fault : Fault) → ReadsFile files holder before bytes after → MeetsRowsFile files holder before (refuses fault) → ⊥
  file_not_refused bytes after fault a (of_file absent) = given_or_not (handed_out files holder.file) a.found absent
  file_not_refused bytes after fault a (of_rows {bytes = others} found met) = read_not_met bytes others after fault (same_bytes bytes others a.found found) a.reads met
  file_not_refused bytes after _ a (of_end {bytes = others} {after = last} found read still) =
      let same : after ≡ last = same_reading bytes others after last (same_bytes bytes others a.found found) a.reads read in
      shut_or_open (is_left_open holder last) (subst (λ (r : PlainReading). is_left_open holder r ≡ false) same a.closed) still

  file_refused_once : (first second : Fault) → MeetsRowsFile files holder before (refuses first) → MeetsRowsFile files holder before (refuses second) → first ≡ second
  file_refused_once first second (of_file one) (of_file two) = not_given (handed_out files holder.file) one two
  file_refused_once first second (of_file one) (of_rows found met) = absurd (given_or_not (handed_out files holder.file) found one)
  file_refused_once first _ (of_file one) (of_end found read still) = absurd (given_or_not (handed_out files holder.file) found one)
  file_refused_once first second (of_rows found met) (of_file two) = absurd (given_or_not (handed_out files holder.file) found two)
  file_refused_once _ second (of_end found read still) (of_file two) = absurd (given_or_not (handed_out files holder.file) found two)
  file_refused_once first second (of_rows {bytes = bytes} found met) (of_rows {bytes = others} there more) = met_once bytes others first second (same_bytes bytes others found there) met more
  file_refused_once first _ (of_rows {bytes = bytes} found met) (of_end {bytes = others} {after = last} there read still) = absurd (read_not_met others bytes last first (same_bytes others bytes there found) read met)
  file_refused_once _ second (of_end {bytes = others} {after = last} there read still) (of_rows {bytes = bytes} found met) = absurd (read_not_met others bytes last second (same_bytes others bytes there found) read met)
  file_refused_once _ _ (of_end {bytes = bytes} found read still) (of_end {bytes = others} there reads open_still) =
      ap (λ (b : List ℕ). fault_at holder.file (last_line b) (problems.Malformed reasons.EndOfFile)) (same_bytes bytes others found there)

-- ---- a fabric

module _ (files : Map) (name : List ℕ) where
  read_once : (bytes others : List ℕ) (first second : PlainReading) → ReadsFile files (top name) start bytes first → ReadsFile files (top name) start others second → (bytes ≡ others) × (first ≡ second)
  read_once bytes others first second a b = file_once files (top name) start bytes others first second a b

  types_once : (bytes others : List ℕ) (types more : List PlainTile) (lines grid : List PlainGridLine) → ReadsParts files name bytes types lines → ReadsParts files name others more grid → (bytes ≡ others) × (types ≡ more) × (lines ≡ grid)
  types_once bytes others types more lines grid a b =
      let same = read_once bytes others a.reading b.reading a.read b.read in
      let reading : a.reading ≡ b.reading = same.1 in (
        same.0,
        a.types_are ∙ ap (λ (r : PlainReading). r.types) reading ∙ sym b.types_are,
        one_some b.reading.grid (sym (ap (λ (r : PlainReading). r.grid) reading) ∙ a.grid_is) b.grid_is,
      )

  pub one_fabric : (first second : PlainFabric) → SpellsFabric files name first → SpellsFabric files name second → first ≡ second
  one_fabric first second a b =
      let same = types_once a.bytes b.bytes a.types b.types a.lines b.lines a.parts b.parts in
      let reading = (read_once a.bytes b.bytes a.parts.reading b.parts.reading a.parts.read b.parts.read).1 in
      a.is ∙ (λ j. in_mode (reading j).configuration (grid_fabric (same.1 j) (same.2 j))) ∙ sym b.is

  pub not_refused : (fabric : PlainFabric) (fault : Fault) → SpellsFabric files name fabric → RefusesFabric files name fault → ⊥
  not_refused fabric fault a (in_rows met) = file_not_refused files (top name) start a.bytes a.parts.reading fault a.parts.read met
  not_refused fabric _ a (no_grid {bytes = bytes} {reading = reading} read none) =
      let same = read_once a.bytes bytes a.parts.reading reading a.parts.read read in
      some_or_none reading.grid (sym (ap (λ (r : PlainReading). r.grid) same.1) ∙ a.parts.grid_is) none
  not_refused fabric _ a (no_tile {bytes = bytes} {reading = reading} {lines = lines} {line = line} read grid strange) =
      let same = read_once a.bytes bytes a.parts.reading reading a.parts.read read in
      let types : a.types ≡ reading.types = a.parts.types_are ∙ ap (λ (r : PlainReading). r.types) same.1 in
      let grids : a.lines ≡ lines = one_some reading.grid (sym (ap (λ (r : PlainReading). r.grid) same.1) ∙ a.parts.grid_is) grid in
      some_or_none (strange_line reading.types lines) strange ((λ j. strange_line (sym types j) (sym grids j)) ∙ a.parts.named)
  not_refused fabric _ a (many_wires {bytes = bytes} {types = types} {lines = lines} parts many) =
      let same = types_once a.bytes bytes a.types types a.lines lines a.parts parts in
      let wires : wire_count (grid_fabric a.types a.lines) ≡ wire_count (grid_fabric types lines) = (λ j. wire_count (grid_fabric (same.1 j) (same.2 j))) in
      absurd (omega (arith, wires, many, a.few_wires))

  -- the fault of an absent grid, of a strange name, and of too many wires
  pub refused_once : (first second : Fault) → RefusesFabric files name first → RefusesFabric files name second → first ≡ second
  refused_once first second (in_rows a) (in_rows b) = file_refused_once files (top name) start first second a b
  refused_once first _ (in_rows a) (no_grid {bytes = bytes} {reading = reading} read none) = absurd (file_not_refused files (top name) start bytes reading first read a)
  refused_once first _ (in_rows a) (no_tile {bytes = bytes} {reading = reading} read grid strange) = absurd (file_not_refused files (top name) start bytes reading first read a)
  refused_once first _ (in_rows a) (many_wires {bytes = bytes} parts many) = absurd (file_not_refused files (top name) start bytes parts.reading first parts.read a)
  refused_once _ second (no_grid {bytes = bytes} {reading = reading} read none) (in_rows b) = absurd (file_not_refused files (top name) start bytes reading second read b)
  refused_once _ second (no_tile {bytes = bytes} {reading = reading} read grid strange) (in_rows b) = absurd (file_not_refused files (top name) start bytes reading second read b)
  refused_once _ second (many_wires {bytes = bytes} parts many) (in_rows b) = absurd (file_not_refused files (top name) start bytes parts.reading second parts.read b)
  refused_once _ _ (no_grid {bytes = bytes} {reading = reading} read none) (no_grid {bytes = others} {reading = more} reads empty) =
      ap (λ (b : List ℕ). fault_at name (last_line b) (problems.Malformed reasons.Grid)) (read_once bytes others reading more read reads).0
  refused_once _ _ (no_grid {bytes = bytes} {reading = reading} read none) (no_tile {bytes = others} {reading = more} reads grid strange) =
      absurd (some_or_none more.grid grid (sym (ap (λ (r : PlainReading). r.grid) (read_once bytes others reading more read reads).1) ∙ none))
  refused_once _ _ (no_grid {bytes = bytes} {reading = reading} read none) (many_wires {bytes = others} parts many) =
      absurd (some_or_none parts.reading.grid parts.grid_is (sym (ap (λ (r : PlainReading). r.grid) (read_once bytes others reading parts.reading read parts.read).1) ∙ none))
  refused_once _ _ (no_tile {bytes = others} {reading = more} reads grid strange) (no_grid {bytes = bytes} {reading = reading} read none) =
      absurd (some_or_none more.grid grid (sym (ap (λ (r : PlainReading). r.grid) (read_once bytes others reading more read reads).1) ∙ none))
  refused_once _ _ (many_wires {bytes = others} parts many) (no_grid {bytes = bytes} {reading = reading} read none) =
      absurd (some_or_none parts.reading.grid parts.grid_is (sym (ap (λ (r : PlainReading). r.grid) (read_once bytes others reading parts.reading read parts.read).1) ∙ none))
  refused_once _ _ (no_tile {bytes = bytes} {reading = reading} {lines = lines} {line = line} read grid strange) (no_tile {bytes = others} {reading = more} {lines = grid_lines} {line = other} reads there found) =
      let same : reading ≡ more = (read_once bytes others reading more read reads).1 in
      let grids : lines ≡ grid_lines = one_some more.grid (sym (ap (λ (r : PlainReading). r.grid) same) ∙ grid) there in
      let one : line ≡ other = one_some (strange_line more.types grid_lines) ((λ j. strange_line (sym same j).types (sym grids j)) ∙ strange) found in
      ap (λ (l : PlainGridLine). fault_at l.file l.line (problems.Malformed reasons.Tile)) one
  refused_once _ _ (no_tile {bytes = bytes} {reading = reading} {lines = lines} {line = line} read grid strange) (many_wires {bytes = others} {types = types} {lines = grid_lines} parts many) =
      let same : reading ≡ parts.reading = (read_once bytes others reading parts.reading read parts.read).1 in
      let grids : lines ≡ grid_lines = one_some parts.reading.grid (sym (ap (λ (r : PlainReading). r.grid) same) ∙ grid) parts.grid_is in
      let kinds : reading.types ≡ types = ap (λ (r : PlainReading). r.types) same ∙ sym parts.types_are in
      absurd (some_or_none (strange_line types grid_lines) ((λ j. strange_line (sym kinds j) (sym grids j)) ∙ strange) parts.named)
  refused_once _ _ (many_wires {bytes = others} {types = types} {lines = grid_lines} parts many) (no_tile {bytes = bytes} {reading = reading} {lines = lines} {line = line} read grid strange) =
      let same : reading ≡ parts.reading = (read_once bytes others reading parts.reading read parts.read).1 in
      let grids : lines ≡ grid_lines = one_some parts.reading.grid (sym (ap (λ (r : PlainReading). r.grid) same) ∙ grid) parts.grid_is in
      let kinds : reading.types ≡ types = ap (λ (r : PlainReading). r.types) same ∙ sym parts.types_are in
      absurd (some_or_none (strange_line types grid_lines) ((λ j. strange_line (sym kinds j) (sym grids j)) ∙ strange) parts.named)
  refused_once _ _ (many_wires {bytes = bytes} {types = types} {lines = lines} parts many) (many_wires {bytes = others} {types = more} {lines = grid} others_parts too_many) =
      let same = types_once bytes others types more lines grid parts others_parts in
      λ j. fault_at name (last_line (same.0 j)) (problems.Limit quantities.Wires (wire_count (grid_fabric (same.1 j) (same.2 j))) most_wires)
