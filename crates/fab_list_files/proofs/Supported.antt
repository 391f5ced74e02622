-- No row of a list is refused for a construct that is not supported.
use Rattle.std.proofs.Common.{ℕ, Bool, true, false, cond, List, [], ◌∷◌, ◌++◌, length, Option, Some, None, Result, Ok, Err, sym, subst, inl, inr}
use Rattle.std.specs.Prelude.{◌==◌, ◌||◌, ◌&&◌, not, nat_lt, codes, option_map}
use Rattle.std.specs.List.{list_all, find, zip}
use Rattle.std.specs.Str.{bytes_eq}
use Rattle.std.specs.Str.Lossy.{utf8_valid_len}
use Rattle.fab_base.specs.declared.fault.Fault.{Fault}
use Rattle.fab_base.specs.declared.words.Reason.{Reason}
use Rattle.fab_base.specs.declared.words.Reason.TheVariants as reasons
use Rattle.fab_base.specs.declared.words.Quantity.{Quantity}
use Rattle.fab_base.specs.declared.words.Quantity.TheVariants as quantities
use Rattle.fab_base.specs.declared.problem.Problem.{Problem}
use Rattle.fab_base.specs.declared.problem.Problem.TheVariants as problems
use Rattle.fab_base.specs.Reading.{fault_at, IsFaultOr, Refuses}
use Rattle.fab_lines.specs.Names.{is_wire_name}
use Rattle.fab_paths.specs.Paths.{file_of}
use Rattle.fab_files.specs.Files.{IsSupported}
use Rattle.fab_tables.specs.Cells.{has_bad_number, is_cell_byte}
use Rattle.fab_tables.specs.Lists.{Pair, PlainBody, PairsOf, IncludeOf, size, is_long, long_problem, sizes_problem, names_of_cell, cells_problem, asked, named_body, pairs_body, include_body, body_of}
use Rattle.fab_list_files.specs.Lists.{Knowledge, Deed, opens, opened_file, deed_of_body, deed_of}

-- a problem of a kind that lists have
IsOfLists : Problem → Type 0
IsOfLists (problems.Unsupported construct) = ⊥
IsOfLists problem = Unit {0}

-- if there is one
MaybeOfLists : Option Problem → Type 0
MaybeOfLists None = Unit {0}
MaybeOfLists (Some problem) = IsOfLists problem

-- if something is refused
RefusedOfLists : {X : Type 0} → Result X Problem → Type 0
RefusedOfLists (Ok value) = Unit {0}
RefusedOfLists (Err problem) = IsOfLists problem

either : (test : Bool) (a b : Option Problem) → MaybeOfLists a → MaybeOfLists b → MaybeOfLists (cond test a b)
either true a b first second = first
either false a b first second = second

malformed : (reason : Reason) → MaybeOfLists (Some (problems.Malformed reason))
unfolding MaybeOfLists IsOfLists
malformed reason = tt

limit : (quantity : Quantity) (value bound : ℕ) → MaybeOfLists (Some (problems.Limit quantity value bound))
unfolding MaybeOfLists IsOfLists
limit quantity value bound = tt

nothing : MaybeOfLists None
unfolding MaybeOfLists
nothing = tt

sizes_are : (first second : Option ℕ) → MaybeOfLists (sizes_problem first second)
sizes_are None second = malformed reasons.Bracket
sizes_are (Some first) None = malformed reasons.Bracket
sizes_are (Some first) (Some second) =
    either (not (first == second)) _ _ (malformed reasons.CountsDiffer) (either (nat_lt 4096 first) _ _ (limit quantities.ExpandedNames first 4096) nothing)

cells_are : (output input : List ℕ) → MaybeOfLists (cells_problem output input)
cells_are output input =
    either (has_bad_number output || has_bad_number input) _ _ (malformed reasons.Number)
    (either (not (list_all is_cell_byte output && list_all is_cell_byte input)) _ _ (malformed reasons.Name)
    (either (not (list_all is_wire_name (names_of_cell output input output) && list_all is_wire_name (names_of_cell output input input))) _ _ (malformed reasons.Name)
    (sizes_are (size output) (size input))))

asked_are : {X : Type 0} (first : Option Problem) (next : Result X Problem) → MaybeOfLists first → RefusedOfLists next → RefusedOfLists (asked first next)
unfolding MaybeOfLists RefusedOfLists
asked_are None next first second = second
asked_are (Some problem) next first second = first

judged_are : (found : Option Reason) → MaybeOfLists (option_map problems.Malformed found)
judged_are None = nothing
judged_are (Some reason) = malformed reason

long_are : (found : Option (List ℕ)) → MaybeOfLists (long_problem found)
long_are None = nothing
long_are (Some name) = limit quantities.NameBytes (length name) 64

taken : {X : Type 0} (value : X) → RefusedOfLists (Ok value)
unfolding RefusedOfLists
taken value = tt

refused : (reason : Reason) → RefusedOfLists (let r : Result PlainBody Problem = Err (problems.Malformed reason) in r)
unfolding RefusedOfLists IsOfLists
refused reason = tt

pairs_are : (judge : List Pair → Option Reason) (output input : List ℕ) → RefusedOfLists (pairs_body judge output input)
pairs_are judge output input =
    let outputs = names_of_cell output input output in
    let inputs = names_of_cell output input input in
    asked_are (cells_problem output input) (named_body judge outputs inputs) (cells_are output input)
    (asked_are (option_map problems.Malformed (judge (zip outputs inputs))) _ (judged_are (judge (zip outputs inputs)))
    (asked_are (long_problem (find is_long (outputs ++ inputs))) (Ok (PairsOf (zip outputs inputs))) (long_are (find is_long (outputs ++ inputs))) (taken (PairsOf (zip outputs inputs)))))

if_refused : {X : Type 0} (test : Bool) (a b : Result X Problem) → RefusedOfLists a → RefusedOfLists b → RefusedOfLists (cond test a b)
if_refused true a b first second = first
if_refused false a b first second = second

body_is : (judge : List Pair → Option Reason) (cells : List (List ℕ)) → RefusedOfLists (body_of judge cells)
body_is judge [] = refused reasons.Row
body_is judge (first ∷ []) = refused reasons.Row
body_is judge (first ∷ second ∷ []) =
    if_refused (bytes_eq first (codes "INCLUDE")) (include_body second) (pairs_body judge first second)
    (if_refused (utf8_valid_len second == length second) (Ok (IncludeOf second)) (Err (problems.Malformed reasons.Name)) (taken (IncludeOf second)) (refused reasons.Name))
    (pairs_are judge first second)
body_is judge (first ∷ second ∷ third ∷ more) = refused reasons.Row

opened_is : (left : ℕ) (found : Option (List ℕ)) → RefusedOfLists (opened_file left found)
unfolding RefusedOfLists IsOfLists
opened_is left None = tt
opened_is left (Some file) = by (left == 0)
  where
    by : (b : Bool) → RefusedOfLists (cond b (Err (problems.Limit quantities.IncludeDepth 9 8)) (Ok (opens file)))
    by true = tt
    by false = tt

deed_is_of : (left : ℕ) (file : List ℕ) (said : Result PlainBody Problem) → RefusedOfLists said → RefusedOfLists (deed_of_body left file said)
unfolding RefusedOfLists
deed_is_of left file (Ok (PairsOf new)) of = tt
deed_is_of left file (Ok (IncludeOf path)) of = opened_is left (file_of file path)
deed_is_of left file (Err problem) of = of

deed_is : (known : Knowledge) (left : ℕ) (file : List ℕ) (before : List Pair) (cells : List (List ℕ)) → RefusedOfLists (deed_of known left file before cells)
deed_is known left file before cells = deed_is_of left file (body_of (known before) cells) (body_is (known before) cells)

-- the problem of a row is a fault of a kind that lists have
row_fault : (file : List ℕ) (line : ℕ) (problem : Problem) (given : Result Deed Problem) → Refuses problem given → RefusedOfLists given → IsSupported (fault_at file line problem)
unfolding RefusedOfLists IsOfLists
row_fault file line (problems.Malformed reason) given is of = tt
row_fault file line (problems.Unsupported construct) given is of = subst RefusedOfLists is of
row_fault file line (problems.Limit quantity value bound) given is of = tt
row_fault file line problems.Memory given is of = tt

memory_or : (fault expected : Fault) → IsFaultOr fault expected → IsSupported expected → IsSupported fault
memory_or fault expected (inl memory) supported = subst IsSupported (sym memory) tt
memory_or fault expected (inr is) supported = subst IsSupported (sym is) supported

pub row_supported : (known : Knowledge) (left : ℕ) (file : List ℕ) (before : List Pair) (cells : List (List ℕ)) (line : ℕ) (problem : Problem) (fault : Fault)
    → Refuses problem (deed_of known left file before cells) → IsFaultOr fault (fault_at file line problem) → IsSupported fault
row_supported known left file before cells line problem fault is which =
    memory_or fault (fault_at file line problem) which (row_fault file line problem (deed_of known left file before cells) is (deed_is known left file before cells))

pub limit_supported : (file : List ℕ) (line : ℕ) (quantity : Quantity) (value bound : ℕ) (fault : Fault) → IsFaultOr fault (fault_at file line (problems.Limit quantity value bound)) → IsSupported fault
limit_supported file line quantity value bound fault which = memory_or fault (fault_at file line (problems.Limit quantity value bound)) which tt
