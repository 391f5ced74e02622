-- What the files of a block say, they say once.
use Rattle.std.proofs.Common.{◌≡◌, ◌<◌, ℕ, Bool, true, false, List, [], Option, Some, None, Result, Ok, Err, length, refl, sym, ap, ◌∙◌, subst, arith}
use Rattle.std.specs.Prelude.{slice_get}
use Rattle.std.proofs.lemmas.List.{ext_get_or}
use Rattle.std.proofs.lemmas.Option.{slice_get-get_or}
use Rattle.fab_base.specs.Reading.{fault_at}
use Rattle.fab_base.specs.declared.fault.Fault.{Fault}
use Rattle.fab_base.specs.declared.problem.Problem.{Problem}
use Rattle.fab_desk.specs.Files.{Map}
use Rattle.fab_lines.specs.Order.{IsWhole, IsTextFault}
use Rattle.fab_lines.proofs.Wholes.{text_fault_once, whole_not_refused}
use Rattle.fab_rows.specs.Rows.{PlainRow, rows_of}
use Rattle.fab_select.specs.declared.pair.Pair.{Pair as NumberPair}
use Rattle.fab_model.specs.Tiles.{PlainTile, tile_bits, with_table}
use Rattle.fab_tables.specs.Matrix.{matrix_format, matrix_pairs}
use Rattle.fab_tables.specs.Config.{config_format, SpellsTable}
use Rattle.fab_lines.specs.Counts.{last_line}
use Rattle.fab_files.specs.Files.{handed_out, refuses}
use Rattle.fab_list_files.proofs.Once.{file_once, file_refused_once, file_not_both}
use Rattle.fab_blocks.specs.Blocks.{PlainBlock, bare}
use Rattle.fab_read.specs.Tiles.{End, known_in, pairs_by_number, is_table, ReadsMatrix, no_matrix, of_list, of_table, MeetsMatrix, in_list, at_table, in_table, table_bytes, ReadsTable, by_default, by_table, MeetsTable, long_table, bad_table, block_problem, pairs_problem, paired, table_file, ReadsPairs, ReadsTile, MeetsTile, bad_block, in_matrix, bad_pairs, in_places}
use Rattle.fab_read.proofs.Places.{default_once}

ok_is : {X : Type 0} {a b : X} → (let value : X → Result X Fault = λ x. Ok x in value a ≡ value b) → a ≡ b
ok_is same = cc

err_is : {X : Type 0} {a b : Fault} → (let value : Fault → Result X Fault = λ x. Err x in value a ≡ value b) → a ≡ b
err_is same = cc

not_both : {X : Type 0} {a : X} {b : Fault} (r : Result X Fault) → r ≡ Ok a → r ≡ Err b → ⊥
not_both r is other = cc

other_test : (test : Bool) → test ≡ true → test ≡ false → ⊥
other_test test holds fails = cc

some_is : {a b : List ℕ} → Some a ≡ Some b → a ≡ b
some_is same = cc

no_some : {a : List ℕ} → None ≡ Some a → ⊥
no_some same = cc

-- lists of the same items
ext_slice_get : (first second : List (ℕ × ℕ)) → length first ≡ length second → ((i : ℕ) → i < length first → slice_get first i ≡ slice_get second i) → first ≡ second
ext_slice_get first second len same =
    ext_get_or (0, 0) first second len (λ i below.
    place_is (sym (slice_get-get_or first i (0, 0) below) ∙ same i below ∙ slice_get-get_or second i (0, 0) (omega (arith, below, len))))
  where
    place_is : {a b : ℕ × ℕ} → Some a ≡ Some b → a ≡ b
    place_is same = cc

-- ---- the switch matrix

module _ (files : Map) (left : ℕ) (tile : PlainTile) where
  abbrev MatrixSays : (file : Option (List ℕ)) → Result (List NumberPair) Fault → Type 0
  MatrixSays file (Ok pairs) = ReadsMatrix files left tile file pairs
  MatrixSays file (Err fault) = MeetsMatrix files left tile file (refuses fault)

  same_bytes : (file bytes others : List ℕ) → handed_out files file ≡ Ok bytes → handed_out files file ≡ Ok others → bytes ≡ others
  same_bytes file bytes others here there = ok_is (sym here ∙ there)

  pairs_once : (file : Option (List ℕ)) (first second : List NumberPair) → ReadsMatrix files left tile file first → ReadsMatrix files left tile file second → first ≡ second
  pairs_once None _ _ no_matrix no_matrix = refl
  pairs_once (Some file) _ _ (of_list {pairs = a} t one) (of_list {pairs = b} u two) = ap (pairs_by_number tile) (file_once files (known_in tile) left file [] a b one two)
  pairs_once (Some file) _ second (of_list t one) (of_table u found two) = absurd (other_test (is_table file) u t)
  pairs_once (Some file) first _ (of_table t found one) (of_list u two) = absurd (other_test (is_table file) t u)
  pairs_once (Some file) first second (of_table {bytes = bytes} t found one) (of_table {bytes = others} u there two) =
      one.in_order ∙ ap (λ (b : List ℕ). matrix_pairs tile (rows_of b)) (same_bytes file bytes others found there) ∙ sym two.in_order

  pairs_not_refused : (file : Option (List ℕ)) (pairs : List NumberPair) (fault : Fault) → ReadsMatrix files left tile file pairs → MeetsMatrix files left tile file (refuses fault) → ⊥
  pairs_not_refused None pairs fault no_matrix met = elim met [ ]
  pairs_not_refused (Some file) _ fault (of_list {pairs = a} t one) (in_list u two) = file_not_both files (known_in tile) left file [] a fault one two
  pairs_not_refused (Some file) _ fault (of_list t one) (at_table u two) = other_test (is_table file) u t
  pairs_not_refused (Some file) _ fault (of_list t one) (in_table u there two) = other_test (is_table file) u t
  pairs_not_refused (Some file) pairs fault (of_table t found one) (in_list u two) = other_test (is_table file) t u
  pairs_not_refused (Some file) pairs fault (of_table t found one) (at_table u two) = not_both (handed_out files file) found two
  pairs_not_refused (Some file) pairs fault (of_table {bytes = bytes} t found one) (in_table {bytes = others} u there two) =
      whole_not_refused (subst (λ (b : List ℕ). IsWhole (matrix_format tile) (rows_of b)) (same_bytes file bytes others found there) one.whole) two.refusal

  matrix_refused_once : (file : Option (List ℕ)) (first second : Fault) → MeetsMatrix files left tile file (refuses first) → MeetsMatrix files left tile file (refuses second) → first ≡ second
  matrix_refused_once None first second met more = elim met [ ]
  matrix_refused_once (Some file) first second (in_list t one) (in_list u two) = file_refused_once files (known_in tile) left file [] first second one two
  matrix_refused_once (Some file) first second (in_list t one) (at_table u two) = absurd (other_test (is_table file) u t)
  matrix_refused_once (Some file) first second (in_list t one) (in_table u there two) = absurd (other_test (is_table file) u t)
  matrix_refused_once (Some file) first second (at_table t one) (in_list u two) = absurd (other_test (is_table file) t u)
  matrix_refused_once (Some file) first second (in_table t found one) (in_list u two) = absurd (other_test (is_table file) t u)
  matrix_refused_once (Some file) first second (at_table t one) (at_table u two) = err_is (sym one ∙ two)
  matrix_refused_once (Some file) first second (at_table t one) (in_table u there two) = absurd (not_both (handed_out files file) there one)
  matrix_refused_once (Some file) first second (in_table t found one) (at_table u two) = absurd (not_both (handed_out files file) found two)
  matrix_refused_once (Some file) first second (in_table {bytes = bytes} t found one) (in_table {bytes = others} u there two) =
      text_fault_once (subst (λ (b : List ℕ). IsTextFault (matrix_format tile) file (rows_of b) (last_line b) first) (same_bytes file bytes others found there) one) two

-- ---- places

module _ (files : Map) (tile : PlainTile) where
  spelled_once : (rows : List PlainRow) (first second : List (ℕ × ℕ)) → SpellsTable tile rows first → SpellsTable tile rows second → first ≡ second
  spelled_once rows first second a b =
      ext_slice_get first second (a.as_many ∙ sym b.as_many) (λ i below. a.each i (omega (arith, below, a.as_many)) ∙ sym (b.each i (omega (arith, below, a.as_many))))

  same_table : (file : Option (List ℕ)) (bytes others : List ℕ) → table_bytes files file ≡ Ok (Some bytes) → table_bytes files file ≡ Ok (Some others) → bytes ≡ others
  same_table file bytes others here there = some_is (ok_is (sym here ∙ there))

  places_once : (file : Option (List ℕ)) (first second : List (ℕ × ℕ)) → ReadsTable files tile file first → ReadsTable files tile file second → first ≡ second
  places_once file first second (by_default here one) (by_default there two) = default_once (tile_bits tile) first second one two
  places_once file first second (by_default here one) (by_table there two) = absurd (no_some (ok_is (sym here ∙ there)))
  places_once file first second (by_table here one) (by_default there two) = absurd (no_some (ok_is (sym there ∙ here)))
  places_once file first second (by_table {bytes = bytes} here one) (by_table {bytes = others} there two) =
      spelled_once (rows_of others) first second (subst (λ (b : List ℕ). SpellsTable tile (rows_of b) first) (same_table file bytes others here there) one) two

  places_not_refused : (file : Option (List ℕ)) (table : List (ℕ × ℕ)) (fault : Fault) → ReadsTable files tile file table → MeetsTable files tile file (refuses fault) → ⊥
  places_not_refused file table fault (by_default here one) (long_table two) = not_both (table_bytes files file) here two
  places_not_refused file table fault (by_table here one) (long_table two) = not_both (table_bytes files file) here two
  places_not_refused _ table fault (by_default here one) (bad_table there two) = no_some (ok_is (sym here ∙ there))
  places_not_refused _ table fault (by_table {bytes = bytes} here one) (bad_table {file = file} {bytes = others} there two) =
      whole_not_refused (subst (λ (b : List ℕ). IsWhole (config_format tile) (rows_of b)) (same_table (Some file) bytes others here there) one.whole) two.refusal

  table_refused_once : (file : Option (List ℕ)) (first second : Fault) → MeetsTable files tile file (refuses first) → MeetsTable files tile file (refuses second) → first ≡ second
  table_refused_once file first second (long_table one) (long_table two) = err_is (sym one ∙ two)
  table_refused_once _ first second (long_table one) (bad_table {file = file} there two) = absurd (not_both (table_bytes files (Some file)) there one)
  table_refused_once _ first second (bad_table {file = file} here one) (long_table two) = absurd (not_both (table_bytes files (Some file)) here two)
  table_refused_once _ first second (bad_table {file = file} {bytes = bytes} here one) (bad_table {bytes = others} there two) =
      text_fault_once (subst (λ (b : List ℕ). IsTextFault (config_format tile) file (rows_of b) (last_line b) first) (same_table (Some file) bytes others here there) one) two

-- ---- the tile

module _ (files : Map) (end : End) (block : PlainBlock) where
  -- what its files say of a block: its tile, or the first refusal
  abbrev pub TileSays : Result PlainTile Fault → Type 0
  TileSays (Ok tile) = ReadsTile files end block tile
  TileSays (Err fault) = MeetsTile files end block (refuses fault)

  no_problem : (why : Option Problem) (problem : Problem) → why ≡ None → why ≡ Some problem → ⊥
  no_problem why problem none some = cc

  one_problem : (why : Option Problem) (problem other : Problem) → why ≡ Some problem → why ≡ Some other → problem ≡ other
  one_problem why problem other is there = cc

  same_pairs : (first second : List NumberPair) → ReadsPairs files end block first → ReadsPairs files end block second → first ≡ second
  same_pairs first second a b = pairs_once files end.left (bare block) block.matrix first second a.matrix b.matrix

  fits_not : (first second : List NumberPair) (problem : Problem) → ReadsPairs files end block first → ReadsPairs files end block second → pairs_problem (bare block) first ≡ None → pairs_problem (bare block) second ≡ Some problem → ⊥
  fits_not first second problem a b none some = no_problem (pairs_problem (bare block) second) problem (subst (λ (ps : List NumberPair). pairs_problem (bare block) ps ≡ None) (same_pairs first second a b) none) some

  tile_once : (first second : PlainTile) → ReadsTile files end block first → ReadsTile files end block second → first ≡ second
  tile_once first second a b =
      let pairs : a.pairs ≡ b.pairs = same_pairs a.pairs b.pairs a.read b.read in
      let placed = subst (λ (ps : List NumberPair). ReadsTable files (paired block ps) (table_file end.file block.name) a.table) pairs a.placed in
      let table : a.table ≡ b.table = places_once files (paired block b.pairs) (table_file end.file block.name) a.table b.table placed b.placed in
      a.is ∙ (λ j. with_table (paired block (pairs j)) (table j)) ∙ sym b.is

  tile_not_refused : (tile : PlainTile) (fault : Fault) → ReadsTile files end block tile → MeetsTile files end block (refuses fault) → ⊥
  tile_not_refused tile _ a (bad_block {problem = problem} some) = no_problem (block_problem block) problem a.read.few_names some
  tile_not_refused tile fault a (in_matrix none met) = pairs_not_refused files end.left (bare block) block.matrix a.pairs fault a.read.matrix met
  tile_not_refused tile _ a (bad_pairs {pairs = pairs} {problem = problem} read some) = fits_not a.pairs pairs problem a.read read a.fitting some
  tile_not_refused tile fault a (in_places {pairs = pairs} read none met) =
      let placed = subst (λ (ps : List NumberPair). ReadsTable files (paired block ps) (table_file end.file block.name) a.table) (same_pairs a.pairs pairs a.read read) a.placed in
      places_not_refused files (paired block pairs) (table_file end.file block.name) a.table fault placed met

  tile_refused_once : (first second : Fault) → MeetsTile files end block (refuses first) → MeetsTile files end block (refuses second) → first ≡ second
  tile_refused_once _ _ (bad_block {problem = p} one) (bad_block {problem = q} two) = ap (fault_at end.file end.line) (one_problem (block_problem block) p q one two)
  tile_refused_once _ second (bad_block {problem = p} one) (in_matrix none met) = absurd (no_problem (block_problem block) p none one)
  tile_refused_once _ _ (bad_block {problem = p} one) (bad_pairs read some) = absurd (no_problem (block_problem block) p read.few_names one)
  tile_refused_once _ second (bad_block {problem = p} one) (in_places read none met) = absurd (no_problem (block_problem block) p read.few_names one)
  tile_refused_once first _ (in_matrix none met) (bad_block {problem = p} one) = absurd (no_problem (block_problem block) p none one)
  tile_refused_once _ _ (bad_pairs read some) (bad_block {problem = p} one) = absurd (no_problem (block_problem block) p read.few_names one)
  tile_refused_once first _ (in_places read none met) (bad_block {problem = p} one) = absurd (no_problem (block_problem block) p read.few_names one)
  tile_refused_once first second (in_matrix none met) (in_matrix empty more) = matrix_refused_once files end.left (bare block) block.matrix first second met more
  tile_refused_once first _ (in_matrix none met) (bad_pairs {pairs = pairs} read some) = absurd (pairs_not_refused files end.left (bare block) block.matrix pairs first read.matrix met)
  tile_refused_once first second (in_matrix none met) (in_places {pairs = pairs} read empty more) = absurd (pairs_not_refused files end.left (bare block) block.matrix pairs first read.matrix met)
  tile_refused_once _ second (bad_pairs {pairs = pairs} read some) (in_matrix none met) = absurd (pairs_not_refused files end.left (bare block) block.matrix pairs second read.matrix met)
  tile_refused_once first second (in_places {pairs = pairs} read empty more) (in_matrix none met) = absurd (pairs_not_refused files end.left (bare block) block.matrix pairs second read.matrix met)
  tile_refused_once _ _ (bad_pairs {pairs = a} {problem = p} read some) (bad_pairs {pairs = b} {problem = q} reads more) =
      let here : pairs_problem (bare block) b ≡ Some p = subst (λ (ps : List NumberPair). pairs_problem (bare block) ps ≡ Some p) (same_pairs a b read reads) some in
      ap (fault_at end.file end.line) (one_problem (pairs_problem (bare block) b) p q here more)
  tile_refused_once _ second (bad_pairs {pairs = a} {problem = p} read some) (in_places {pairs = b} reads none met) = absurd (fits_not b a p reads read none some)
  tile_refused_once first _ (in_places {pairs = b} reads none met) (bad_pairs {pairs = a} {problem = p} read some) = absurd (fits_not b a p reads read none some)
  tile_refused_once first second (in_places {pairs = a} read none met) (in_places {pairs = b} reads empty more) =
      let here = subst (λ (ps : List NumberPair). MeetsTable files (paired block ps) (table_file end.file block.name) (refuses first)) (same_pairs a b read reads) met in
      table_refused_once files (paired block b) (table_file end.file block.name) first second here more

  pub says_once : (first second : Result PlainTile Fault) → TileSays first → TileSays second → first ≡ second
  says_once (Ok a) (Ok b) one two = ap (λ (t : PlainTile). Ok t) (tile_once a b one two)
  says_once (Ok a) (Err b) one two = absurd (tile_not_refused a b one two)
  says_once (Err a) (Ok b) one two = absurd (tile_not_refused b a two one)
  says_once (Err a) (Err b) one two = ap (λ (f : Fault). Err f) (tile_refused_once a b one two)
