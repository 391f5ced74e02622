-- The names of a list are names of wires.
use Rattle.std.proofs.Common.{◌≡◌, ℕ, Bool, true, false, ◌&&◌, ◌||◌, ◌++◌, not, List, [], ◌∷◌, Option, Some, None, Result, Ok, Err, All, option_map, refl, subst, inl, inr, codes, if◌then◌else◌}
use Rattle.std.specs.List.{list_any, list_all, find, zip}
use Rattle.std.specs.Str.{bytes_eq}
use Rattle.std.proofs.lemmas.Bool.{cases_Bool}
use Rattle.std.proofs.lemmas.List.Elements.{All-nil, All-cons, All-head, All-tail, All-append}
use Rattle.fab_base.specs.declared.words.Reason.{Reason}
use Rattle.fab_base.specs.declared.words.Reason.TheVariants as reasons
use Rattle.fab_base.specs.declared.problem.Problem.{Problem}
use Rattle.fab_base.specs.declared.problem.Problem.TheVariants as problems
use Rattle.fab_desk.specs.Files.{Map}
use Rattle.fab_lines.specs.Names.{is_wire_name}
use Rattle.fab_rows.specs.Rows.{PlainRow}
use Rattle.fab_tables.specs.Cells.{has_bad_number, is_cell_byte}
use Rattle.fab_tables.specs.Lists.{Pair, PlainBody, PairsOf, IncludeOf, asked, cells_problem, weighed_problem, names_of_cell, named_body, pairs_body, include_body, two_cells, body_of, long_problem, is_long, size, sizes_problem}
use Rattle.fab_list_files.specs.Lists.{Knowledge, Deed, adds, opens, opened_file, deed_of_body, same_pair, with_pair, with_pairs, depth_limit, ReadsList, ends, adds_pairs, opens_file}
use Rattle.fab_list_files.specs.Sides.{on_both_sides, HasWireNames, SpellsPairs}

-- ---- what was asked and not refused

asked_none : {X : Type 0} (why : Option Problem) (next : Result X Problem) (value : X) → asked why next ≡ Ok value → (why ≡ None) × (next ≡ Ok value)
asked_none None next value is = (refl, is)
asked_none (Some problem) next value is = absurd cc

unless : (test : Bool) (problem : Problem) (next : Option Problem) → (if test then Some problem else next) ≡ None → (test ≡ false) × (next ≡ None)
unless true problem next is = absurd cc
unless false problem next is = (refl, is)

both_true : (a b : Bool) → not (a && b) ≡ false → (a ≡ true) × (b ≡ true)
both_true true true is = (refl, refl)
both_true true false is = absurd cc
both_true false b is = absurd cc

all_first : (test : List ℕ → Bool) (name : List ℕ) (names : List (List ℕ)) → list_all test (name ∷ names) ≡ true → (test name ≡ true) × (list_all test names ≡ true)
all_first test name names all = elim (cases_Bool (test name)) [
  | inl t ↦ (t, rw t at all)
  | inr f ↦ absurd (let none : false ≡ true = rw f at all in cc)
]

-- pairs of names of wires
named_zip : (outputs inputs : List (List ℕ)) → list_all is_wire_name outputs ≡ true → list_all is_wire_name inputs ≡ true → All HasWireNames (zip outputs inputs)
named_zip [] inputs first second = All-nil HasWireNames
named_zip (output ∷ outputs) [] first second = All-nil HasWireNames
named_zip (output ∷ outputs) (input ∷ inputs) first second =
    let a = all_first is_wire_name output outputs first in
    let b = all_first is_wire_name input inputs second in
    All-cons HasWireNames (output, input) (zip outputs inputs) (a.0, b.0) (named_zip outputs inputs a.1 b.1)

-- ---- one row

pairs_of_is : {first second : List Pair} → (let value : List Pair → Result PlainBody Problem = λ x. Ok (PairsOf x) in value first ≡ value second) → first ≡ second
pairs_of_is same = cc

pairs_named : (judge : List Pair → Option Reason) (output input : List ℕ) (new : List Pair) → pairs_body judge output input ≡ Ok (PairsOf new) → All HasWireNames new
pairs_named judge output input new is =
    let outputs = names_of_cell output input output in
    let inputs = names_of_cell output input input in
    let cells = asked_none (cells_problem output input) (named_body judge outputs inputs) (PairsOf new) is in
    let judged = asked_none (option_map problems.Malformed (judge (zip outputs inputs))) (asked (long_problem (find is_long (outputs ++ inputs))) (Ok (PairsOf (zip outputs inputs)))) (PairsOf new) cells.1 in
    let weighed = asked_none (long_problem (find is_long (outputs ++ inputs))) (Ok (PairsOf (zip outputs inputs))) (PairsOf new) judged.1 in
    let sizes = sizes_problem (size output) (size input) in
    let numbers = unless (has_bad_number output || has_bad_number input) (problems.Malformed reasons.Number) (if not (list_all is_cell_byte output && list_all is_cell_byte input) then Some (problems.Malformed reasons.Name) else weighed_problem output input) cells.0 in
    let bytes = unless (not (list_all is_cell_byte output && list_all is_cell_byte input)) (problems.Malformed reasons.Name) (weighed_problem output input) numbers.1 in
    let wires = unless (not (list_all is_wire_name outputs && list_all is_wire_name inputs)) (problems.Malformed reasons.Name) sizes bytes.1 in
    let named = both_true (list_all is_wire_name outputs) (list_all is_wire_name inputs) wires.0 in
    let same : zip outputs inputs ≡ new = pairs_of_is weighed.1 in
    subst (All HasWireNames) same (named_zip outputs inputs named.0 named.1)

include_no_pairs : (path : List ℕ) (new : List Pair) → include_body path ≡ Ok (PairsOf new) → ⊥
include_no_pairs path new is = no_pairs _ is
  where
    no_pairs : (text : Bool) → (if text then Ok (IncludeOf path) else Err (problems.Malformed reasons.Name)) ≡ Ok (PairsOf new) → ⊥
    no_pairs true same = cc
    no_pairs false same = cc

cells_named : (judge : List Pair → Option Reason) (first second : List ℕ) (new : List Pair) → two_cells judge first second ≡ Ok (PairsOf new) → All HasWireNames new
cells_named judge first second new is = by_word _ refl
  where
    by_word : (word : Bool) → bytes_eq first (codes "INCLUDE") ≡ word → All HasWireNames new
    by_word true t = absurd (include_no_pairs second new (rw t at is))
    by_word false f = pairs_named judge first second new (rw f at is)

body_named : (judge : List Pair → Option Reason) (cells : List (List ℕ)) (new : List Pair) → body_of judge cells ≡ Ok (PairsOf new) → All HasWireNames new
body_named judge [] new is = absurd cc
body_named judge (a ∷ []) new is = absurd cc
body_named judge (a ∷ b ∷ []) new is = cells_named judge a b new is
body_named judge (a ∷ b ∷ c ∷ more) new is = absurd cc

opened_no_pairs : (left : ℕ) (found : Option (List ℕ)) (new : List Pair) → opened_file left found ≡ Ok (adds new) → ⊥
opened_no_pairs left None new is = cc
opened_no_pairs left (Some file) new is = no_pairs _ is
  where
    no_pairs : (none : Bool) → (if none then Err depth_limit else Ok (opens file)) ≡ Ok (adds new) → ⊥
    no_pairs true same = cc
    no_pairs false same = cc

adds_is : {first second : List Pair} → (let value : List Pair → Result Deed Problem = λ x. Ok (adds x) in value first ≡ value second) → first ≡ second
adds_is same = cc

deed_named : (left : ℕ) (file : List ℕ) (judge : List Pair → Option Reason) (cells : List (List ℕ)) (said : Result PlainBody Problem) (new : List Pair) → body_of judge cells ≡ said → deed_of_body left file said ≡ Ok (adds new) → All HasWireNames new
deed_named left file judge cells (Ok (PairsOf pairs)) new said is = subst (All HasWireNames) (adds_is is) (body_named judge cells pairs said)
deed_named left file judge cells (Ok (IncludeOf path)) new said is = absurd (opened_no_pairs left _ new is)
deed_named left file judge cells (Err problem) new said is = absurd cc

-- ---- all rows

with_pair_named : (pairs : List Pair) (pair : Pair) → All HasWireNames pairs → HasWireNames pair → All HasWireNames (with_pair pairs pair)
with_pair_named pairs pair all one =
    elim (cases_Bool (list_any (same_pair pair) pairs)) [
      | inl t ↦ rw t all
      | inr f ↦ rw f (All-append HasWireNames pairs (pair ∷ []) all (All-cons HasWireNames pair [] one (All-nil HasWireNames)))
    ]

with_pairs_named : (pairs new : List Pair) → All HasWireNames pairs → All HasWireNames new → All HasWireNames (with_pairs pairs new)
with_pairs_named pairs [] all more = all
with_pairs_named pairs (pair ∷ new) all more =
    with_pairs_named (with_pair pairs pair) new (with_pair_named pairs pair all (All-head HasWireNames pair new more)) (All-tail HasWireNames pair new more)

module _ (files : Map) (known : Knowledge) where
  rows_named : {left : ℕ} {file : List ℕ} {before : List Pair} {rows : List PlainRow} {after : List Pair} → ReadsList files known left file before rows after → All HasWireNames before → All HasWireNames after
  rows_named ends all = all
  rows_named (adds_pairs {left = left} {file = file} {before = before} {new = new} {row = row} deed rest) all =
      rows_named rest (with_pairs_named before new all (deed_named left file (known before) row.cells (body_of (known before) row.cells) new refl deed))
  rows_named (opens_file deed found one rest) all = rows_named rest (rows_named one all)

pub names_are_wires : (files : Map) (list : List ℕ) (pairs : List Pair) → SpellsPairs files list pairs → All HasWireNames pairs
names_are_wires files list pairs spelled = rows_named files on_both_sides spelled.read.reads (All-nil HasWireNames)
