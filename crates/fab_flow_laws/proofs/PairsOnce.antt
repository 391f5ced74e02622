-- In a fabric that files spell no pair of a switch matrix stands twice.
use Rattle.std.proofs.Common.{◌≡◌, ℕ, ◌==◌, ◌+◌, ◌||◌, Bool, true, false, All, List, [], ◌∷◌, ◌++◌, length, map, get_or, Contains, Option, Some, None, bytes_eq, refl, sym, ap, ◌∙◌, subst, inl, inr, append_assoc}
use Rattle.std.specs.Prelude.{is_some, not, position, unwrap_or, if◌then◌else◌}
use Rattle.std.specs.List.{filter, list_all, list_any, zip}
use Rattle.std.proofs.lemmas.Bool.{and_parts, cases_Bool}
use Rattle.std.proofs.lemmas.List.Quantifiers.{position-Some}
use Rattle.std.proofs.lemmas.Slice.Eq.{bytes_eq-Decides}
use Rattle.fab_desk.specs.Files.{Map}
use Rattle.fab_lines.specs.Names.{is_wire_name}
use Rattle.fab_lines.specs.Order.{IsFine}
use Rattle.fab_lines.proofs.Judging.{fine_at}
use Rattle.fab_rows.specs.Rows.{PlainRow}
use Rattle.fab_select.specs.declared.pair.Pair.{Pair as NumberPair}
use Rattle.fab_model.specs.Grid.{PlainFabric}
use Rattle.fab_model.specs.Tiles.{PlainTile, TileWire, is_matrix_output, matrix_names, pair_numbers, wire_passes}
use Rattle.fab_model.proofs.Steps.{then_gives}
use Rattle.fab_netlist.proofs.Members.{both_true, first_in, first_or_later, in_left, in_none, later_in, mapped_in}
use Rattle.fab_tables.specs.Lists.{Pair}
use Rattle.fab_tables.specs.Matrix.{cells_behind, input_number, input_numbers, inputs_problem, is_one, matrix_judge, matrix_pairs, names_twice, number_with, output_number, output_of, output_problem, pair_with, pairs_of_row, passing}
use Rattle.fab_tables.proofs.MatrixRules.{outputs_of, pairs_behind_first}
use Rattle.fab_tables.proofs.Wired.{new_output}
use Rattle.fab_blocks.specs.Blocks.{bare}
use Rattle.fab_blocks.proofs.Readings.{failed, passed}
use Rattle.fab_list_files.specs.Lists.{Knowledge, ReadsList, adds_pairs, ends, opens_file, same_pair, with_pair, with_pairs}
use Rattle.fab_read.specs.Fabrics.{SpellsFabric}
use Rattle.fab_read.specs.Tiles.{ReadsMatrix, no_matrix, number_pair, of_list, of_table, pair_of}
use Rattle.fab_legal.proofs.Members.{from_mapped, last_in}
use Rattle.fab_legal.proofs.SinkLaw.{in_flat}
use Rattle.fab_spelled_fabrics_laws.proofs.Keeping.{Keeps}
use Rattle.fab_spelled_fabrics_laws.proofs.Readings.{spelled_keep}
use Rattle.fab_spelled_designs_laws.proofs.Apart.{Differ, mapped_differ}
use Rattle.fab_flow_laws.specs.BitsLaws.{PairsStandOnce}
use Rattle.fab_flow_laws.proofs.Differing.{differ_append, differ_cons, differ_head, differ_none, differ_push, differ_tail, found_differ, not_any}

-- ---- names by number

same_number : (passes : Bool) (number other : ℕ) → (if passes then Some number else None) ≡ Some other → number ≡ other
same_number true number other same = cc
same_number false number other same = absurd cc

-- a wire with a number has the name of its place
named_at : (test : TileWire → Bool) (tile : PlainTile) (name : List ℕ) (number : ℕ) → number_with test tile name ≡ Some number →
    name ≡ get_or (matrix_names tile) number []
named_at test tile name number is =
    let found = then_gives (passing test tile) (position (bytes_eq name) (matrix_names tile)) number is in
    let there = position-Some (bytes_eq name) (matrix_names tile) found.0 [] found.1 in
    (bytes_eq-Decides name (get_or (matrix_names tile) found.0 [])).0 there.1
    ∙ ap (λ n. get_or (matrix_names tile) n []) (same_number (wire_passes test tile found.0) found.0 number found.2)

one_name : (test : TileWire → Bool) (tile : PlainTile) (first second : List ℕ) (number : ℕ) → number_with test tile first ≡ Some number →
    number_with test tile second ≡ Some number → first ≡ second
one_name test tile first second number is other = named_at test tile first number is ∙ sym (named_at test tile second number other)

-- the number of a name that has one
abbrev number_of : (test : TileWire → Bool) → PlainTile → List ℕ → ℕ
number_of test tile name = unwrap_or (number_with test tile name) 0

abbrev HasNumber : (test : TileWire → Bool) → PlainTile → List ℕ → Type 0
HasNumber test tile name = is_some (number_with test tile name) ≡ true

numbered : (found : Option ℕ) → is_some found ≡ true → found ≡ Some (unwrap_or found 0)
numbered None there = absurd cc
numbered (Some number) there = refl

numbers_tell : (test : TileWire → Bool) (tile : PlainTile) (first second : List ℕ) → HasNumber test tile first → HasNumber test tile second →
    number_of test tile first ≡ number_of test tile second → first ≡ second
numbers_tell test tile first second has other same =
    one_name test tile first second (number_of test tile second) (numbered (number_with test tile first) has ∙ ap (λ n. Some n) same)
    (numbered (number_with test tile second) other)

-- ---- switch lists

both_numbers : (output input : Option ℕ) (pair : NumberPair) → pair_of output input ≡ Some pair → (output ≡ Some pair.output) × (input ≡ Some pair.input)
both_numbers None input pair same = absurd cc
both_numbers (Some output) None pair same = absurd cc
both_numbers (Some output) (Some input) pair same = (ap (λ (p : NumberPair). Some p.output) (inner same), ap (λ (p : NumberPair). Some p.input) (inner same))
  where
    inner : Some (pair_with output input) ≡ Some pair → pair_with output input ≡ pair
    inner e = cc

one_pair : (tile : PlainTile) (first second : Pair) (pair : NumberPair) → number_pair tile first ≡ Some pair → number_pair tile second ≡ Some pair →
    first ≡ second
one_pair tile first second pair is other =
    let a = both_numbers (output_number tile first.0) (input_number tile first.1) pair is in
    let b = both_numbers (output_number tile second.0) (input_number tile second.1) pair other in
    let outputs = one_name is_matrix_output tile first.0 second.0 pair.output a.0 b.0 in
    let inputs = one_name (λ wire. not (is_matrix_output wire)) tile first.1 second.1 pair.input a.1 b.1 in
    λ j. (outputs j, inputs j)

same_itself : (pair : Pair) → same_pair pair pair ≡ true
same_itself pair =
    both_true (bytes_eq pair.0 pair.0) (bytes_eq pair.1 pair.1) ((bytes_eq-Decides pair.0 pair.0).1 refl) ((bytes_eq-Decides pair.1 pair.1).1 refl)

one_more : (pairs : List Pair) (new : Pair) → Differ pairs → Differ (with_pair pairs new)
one_more pairs new differ = by (list_any (same_pair new) pairs) refl
  where
    by : (there : Bool) → list_any (same_pair new) pairs ≡ there → Differ (if there then pairs else pairs ++ new ∷ [])
    by true is = differ
    by false is = differ_push pairs new differ (not_any (same_pair new) pairs new is (same_itself new))

some_more : (pairs new : List Pair) → Differ pairs → Differ (with_pairs pairs new)
some_more pairs [] differ = differ
some_more pairs (pair ∷ new) differ = some_more (with_pair pairs pair) new (one_more pairs pair differ)

list_differs : {files : Map} {known : Knowledge} {left : ℕ} {file : List ℕ} {before : List Pair} {rows : List PlainRow} {after : List Pair} →
    ReadsList files known left file before rows after →
    Differ before → Differ after
list_differs ends differ = differ
list_differs (adds_pairs {before = before} {new = new} is rest) differ = list_differs rest (some_more before new differ)
list_differs (opens_file is found inner rest) differ = list_differs rest (list_differs inner differ)

-- ---- matrix tables: columns

-- the names behind others, where none stands twice, differ and are new
once_differ : (before names : List (List ℕ)) → names_twice before names ≡ false →
    Differ names × ((name : List ℕ) → Contains names name → Contains before name → ⊥)
once_differ before [] once = (differ_none, λ name here there. in_none name here)
once_differ before (name ∷ names) once =
    let parts = neither (list_any (bytes_eq name) before) (names_twice (before ++ name ∷ []) names) once in
    let rest = once_differ (before ++ name ∷ []) names parts.1 in
    let new : Contains before name → ⊥ = not_any (bytes_eq name) before name parts.0 ((bytes_eq-Decides name name).1 refl) in (
      differ_cons name names (λ here. rest.1 name here (last_in before name)) rest.0,
      λ other here there. elim (first_or_later name names other here) [
        | inl same ↦ new (subst (Contains before) (sym same) there)
        | inr later ↦ rest.1 other later (in_left before (name ∷ []) other there)
      ],
    )
  where
    neither : (a b : Bool) → (a || b) ≡ false → (a ≡ false) × (b ≡ false)
    neither true b none = absurd cc
    neither false b none = (refl, none)

all_numbered : (test : TileWire → Bool) (tile : PlainTile) (names : List (List ℕ)) → list_all (λ name. is_some (number_with test tile name)) names ≡ true →
    (name : List ℕ) → Contains names name → HasNumber test tile name
all_numbered test tile [] all name here = absurd (in_none name here)
all_numbered test tile (first ∷ names) all name here =
    let parts = and_parts (is_some (number_with test tile first)) (list_all (λ name. is_some (number_with test tile name)) names) all in
    elim (first_or_later first names name here) [
      | inl same ↦ subst (HasNumber test tile) same parts.0
      | inr later ↦ all_numbered test tile names parts.1 name later
    ]

abbrev is_matrix_input : TileWire → Bool
is_matrix_input wire = not (is_matrix_output wire)

inputs_differ : (tile : PlainTile) (names : List (List ℕ)) → inputs_problem tile names ≡ None → Differ (input_numbers tile names)
inputs_differ tile names none =
    let once = failed (names_twice [] names) _ _ (passed (list_all is_wire_name names) _ _ none).1 in
    let known = (passed (list_all (λ name. is_some (input_number tile name)) names) _ _ once.1).0 in
    mapped_differ (number_of is_matrix_input tile) (HasNumber is_matrix_input tile) (numbers_tell is_matrix_input tile) names
    (all_numbered is_matrix_input tile names known) (once_differ [] names once.0).0

-- ---- matrix tables: rows

-- the columns with a 1, and their pairs
abbrev ones : List (ℕ × List ℕ) → List (ℕ × List ℕ)
ones columns = filter (λ column. is_one column.1) columns

abbrev chosen : (output : ℕ) → List (ℕ × List ℕ) → List NumberPair
chosen output columns = map (λ column. pair_with output column.0) (ones columns)

-- a pair of a row has its output, and one of the inputs
abbrev IsOf : (output : ℕ) → List ℕ → NumberPair → Type 0
IsOf output inputs pair = (pair.output ≡ output) × Contains inputs pair.input

of_columns : (output : ℕ) (inputs : List ℕ) (cells : List (List ℕ)) (pair : NumberPair) → Contains (chosen output (zip inputs cells)) pair →
    IsOf output inputs pair
of_columns output [] cells pair here = absurd (in_none pair here)
of_columns output (input ∷ inputs) [] pair here = absurd (in_none pair here)
of_columns output (input ∷ inputs) (cell ∷ cells) pair here = by (is_one cell) here (λ there. of_columns output inputs cells pair there)
  where
    later : IsOf output inputs pair → IsOf output (input ∷ inputs) pair
    later rest = (rest.0, later_in input inputs pair.input rest.1)

    by : (one : Bool) →
        Contains (map (λ column. pair_with output column.0) (if one then (input, cell) ∷ ones (zip inputs cells) else ones (zip inputs cells))) pair →
        (Contains (chosen output (zip inputs cells)) pair → IsOf output inputs pair) → IsOf output (input ∷ inputs) pair
    by false there rest = later (rest there)
    by true there rest = elim (first_or_later (pair_with output input) (chosen output (zip inputs cells)) pair there) [
      | inl same ↦ (ap (λ (p : NumberPair). p.output) (sym same), first_in input inputs pair.input (ap (λ (p : NumberPair). p.input) same))
      | inr behind ↦ later (rest behind)
    ]

columns_differ : (output : ℕ) (inputs : List ℕ) (cells : List (List ℕ)) → Differ inputs → Differ (chosen output (zip inputs cells))
columns_differ output [] cells differ = differ_none
columns_differ output (input ∷ inputs) [] differ = differ_none
columns_differ output (input ∷ inputs) (cell ∷ cells) differ =
    let rest = columns_differ output inputs cells (differ_tail input inputs differ) in
    let pair = pair_with output input in
    let new : Contains (chosen output (zip inputs cells)) pair → ⊥ = λ here. differ_head input inputs differ (of_columns output inputs cells pair here).1 in
    let whole = differ_cons pair (chosen output (zip inputs cells)) new rest in
    elim (cases_Bool (is_one cell)) [ inl one ↦ rw one whole | inr none ↦ rw none rest ]

known_output : (tile : PlainTile) (inputs : ℕ) (outputs cells : List (List ℕ)) → output_problem tile inputs outputs cells ≡ None →
    HasNumber is_matrix_output tile (output_of cells)
known_output tile inputs outputs cells none =
    let names = passed (is_wire_name (output_of cells)) _ _ (passed (length cells == inputs + 1) _ _ none).1 in
    (passed (is_some (output_number tile (output_of cells))) _ _ (failed (list_any (bytes_eq (output_of cells)) outputs) _ _ names.1).1).0

-- the rows behind others have outputs, which differ and are new
record AreNewRows (tile : PlainTile) (front rest : List PlainRow) : Type 0 where
  known : (row : PlainRow) → Contains rest row → HasNumber is_matrix_output tile (output_of row.cells)
  new : (row : PlainRow) → Contains rest row → Contains (outputs_of front) (output_of row.cells) → ⊥

abbrev row_pairs : PlainTile → PlainRow → PlainRow → List NumberPair
row_pairs tile first row = pairs_of_row tile (input_numbers tile (cells_behind first.cells)) row.cells

rows_differ : (tile : PlainTile) (first : PlainRow) (front rest : List PlainRow) → Differ (input_numbers tile (cells_behind first.cells)) →
    IsFine (matrix_judge tile) (first ∷ front ++ rest) →
    AreNewRows tile front rest × Differ (pairs_behind_first tile first rest)
rows_differ tile first front [] inputs fine = (record { known = λ row here. absurd (in_none row here); new = λ row here there. in_none row here }, differ_none)
rows_differ tile first front (row ∷ rest) inputs fine =
    let none = fine_at (matrix_judge tile) (first ∷ front) row rest fine in
    let name = output_of row.cells in
    let width = length (cells_behind first.cells) in
    let has = known_output tile width (outputs_of front) row.cells none in
    let new : Contains (outputs_of front) name → ⊥ =
    not_any (bytes_eq name) (outputs_of front) name (new_output tile width (outputs_of front) row.cells none) ((bytes_eq-Decides name name).1 refl) in
    let same : (front ++ row ∷ []) ++ rest ≡ front ++ row ∷ rest = append_assoc front (row ∷ []) rest in
    let fine_behind : IsFine (matrix_judge tile) (first ∷ (front ++ row ∷ []) ++ rest) =
    subst (λ (rows : List PlainRow). IsFine (matrix_judge tile) (first ∷ rows)) (sym same) fine in
    let later = rows_differ tile first (front ++ row ∷ []) rest inputs fine_behind in
    let here_too : Contains (outputs_of (front ++ row ∷ [])) name =
    mapped_in (λ (r : PlainRow). output_of r.cells) (front ++ row ∷ []) row (last_in front row) in
    let behind : (other : PlainRow) → Contains rest other → output_of other.cells ≡ name → ⊥ = λ other here equal.
    later.0.new other here (subst (Contains (outputs_of (front ++ row ∷ []))) (sym equal) here_too) in
    let numbers = input_numbers tile (cells_behind first.cells) in
    let number = number_of is_matrix_output tile in (
      record {
        known = λ other here. elim (first_or_later row rest other here) [
          | inl equal ↦ subst (λ (r : PlainRow). HasNumber is_matrix_output tile (output_of r.cells)) equal has
          | inr there ↦ later.0.known other there
        ];
        new = λ other here there. elim (first_or_later row rest other here) [
          | inl equal ↦ new (subst (λ (r : PlainRow). Contains (outputs_of front) (output_of r.cells)) (sym equal) there)
          | inr behind_it ↦ later.0.new other behind_it (kept_in front row (output_of other.cells) there)
        ];
      },
      differ_append (row_pairs tile first row) (pairs_behind_first tile first rest)
          (columns_differ (number name) numbers (cells_behind row.cells) inputs) later.1
          (λ pair here there.
          let other = in_flat (row_pairs tile first) rest pair there in
          let first_is = (of_columns (number name) numbers (cells_behind row.cells) pair here).0 in
          let other_is = (of_columns (number (output_of other.0.cells)) numbers (cells_behind other.0.cells) pair other.2).0 in
          behind other.0 other.1 (numbers_tell is_matrix_output tile (output_of other.0.cells) name (later.0.known other.0 other.1) has (sym other_is ∙ first_is))),
    )
  where
    kept_in : (rows : List PlainRow) (last : PlainRow) (name : List ℕ) → Contains (outputs_of rows) name → Contains (outputs_of (rows ++ last ∷ [])) name
    kept_in rows last name there =
        let at = from_mapped (λ (r : PlainRow). output_of r.cells) rows name there in
        subst (Contains (outputs_of (rows ++ last ∷ []))) at.2
        (mapped_in (λ (r : PlainRow). output_of r.cells) (rows ++ last ∷ []) at.0 (in_left rows (last ∷ []) at.0 at.1))

table_differs : (tile : PlainTile) (rows : List PlainRow) → IsFine (matrix_judge tile) rows → Differ (matrix_pairs tile rows)
table_differs tile [] fine = differ_none
table_differs tile (first ∷ rows) fine =
    (rows_differ tile first [] rows (inputs_differ tile (cells_behind first.cells) (fine_at (matrix_judge tile) [] first rows fine)) fine).1

-- ---- tiles

matrix_differs : (files : Map) (left : ℕ) (tile : PlainTile) (file : Option (List ℕ)) (pairs : List NumberPair) → ReadsMatrix files left tile file pairs →
    Differ pairs
matrix_differs files left tile _ _ no_matrix = differ_none
matrix_differs files left tile _ _ (of_list {pairs = pairs} is read) =
    found_differ (number_pair tile) (one_pair tile) pairs (list_differs read.reads differ_none)
matrix_differs files left tile _ pairs (of_table {bytes = bytes} is found spells) = subst Differ (sym spells.in_order) (table_differs tile _ spells.whole.fine)

pairs_tell : (first second : NumberPair) → pair_numbers first ≡ pair_numbers second → first ≡ second
pairs_tell first second same = λ j. record { output = (same j).0; input = (same j).1 }

pub pairs_once : Keeps (λ tile. Unit {0}) PairsStandOnce
pairs_once = record {
  new = λ name is. tt;
  wire = λ block cells kept fine. tt;
  bel = λ block kind holder file prefix kept fine. tt;
  matrix = λ block file kept. tt;
  tile = λ files end block tile kept read.
      subst PairsStandOnce (sym read.is)
      (mapped_differ pair_numbers (λ pair. Unit {0}) (λ first second known other same. pairs_tell first second same) read.pairs (λ pair here. tt)
      (matrix_differs files end.left (bare block) block.matrix read.pairs read.read.matrix));
}

pub spelled_pairs_once : (files : Map) (name : List ℕ) (fabric : PlainFabric) → SpellsFabric files name fabric → All PairsStandOnce fabric.types
spelled_pairs_once files name fabric spelled = spelled_keep (λ tile. Unit {0}) PairsStandOnce pairs_once files name fabric spelled
