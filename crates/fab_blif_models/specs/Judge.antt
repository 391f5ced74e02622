-- Why a line of a BLIF file is refused. A line may break several rules: the order of the tests decides.
use Rattle.std.specs.Prelude.{ℕ, Bool, true, false, List, [], ◌∷◌, ◌++◌, ◌-◌, ◌==◌, ◌||◌, ◌&&◌, not, nat_lt, nat_le, length, map, codes, slice_index, find, Option, Some, None, if◌then◌else◌}
use Rattle.std.specs.List.{list_any, list_all}
use Rattle.std.specs.Str.{bytes_eq}
use Rattle.fab_base.specs.declared.words.Reason.{Reason}
use Rattle.fab_base.specs.declared.words.Reason.TheVariants as reasons
use Rattle.fab_base.specs.declared.problem.Problem.{Problem}
use Rattle.fab_base.specs.declared.problem.Problem.TheVariants as problems
use Rattle.fab_lines.specs.Names.{is_between}
use Rattle.fab_blif_models.specs.declared.words.Kind.{Kind}
use Rattle.fab_blif_models.specs.declared.words.Kind.TheVariants as kinds
use Rattle.fab_blif_models.specs.Words.{Word, words, arguments, kind_of, is_foreign}
use Rattle.fab_lines.specs.Items.{word_at, is_among}
use Rattle.fab_blif_models.specs.Covers.{pattern_of, output_of, is_on}
use Rattle.fab_blif_models.specs.Context.{Context, context_of}

-- ---- the number of words

-- the number of words of a row of a cover of so many inputs, or of no cover
abbrev pub row_fits : (width : Option ℕ) → (count : ℕ) → Bool
row_fits None count = false
row_fits (Some width) count = count == (if width == 0 then 1 else 2)

abbrev pub count_fits : Kind → (width : Option ℕ) → (count : ℕ) → Bool
count_fits kinds.Model width count = count == 2
count_fits kinds.End width count = count == 1
count_fits kinds.Clock width count = count == 2
count_fits kinds.Names width count = nat_le 2 count
count_fits kinds.Latch width count = nat_le 3 count && nat_le count 6
count_fits kinds.Instance width count = nat_le 2 count
count_fits kinds.Buffer width count = count == 3
count_fits kinds.Row width count = row_fits width count
count_fits _ width count = true

-- ---- the initial value of a latch

-- `0`, `1`, `2` or `3`
abbrev pub is_initial : Word → Bool
is_initial word = (length word == 1) && is_between 48 51 (slice_index word 0)

-- With four or six words of a latch the last one is its initial value; else it has none.
abbrev pub has_initial : (count : ℕ) → Bool
has_initial count = (count == 4) || (count == 6)

abbrev pub breaks_number : Kind → List Word → Bool
breaks_number kinds.Latch line = has_initial (length line) && not (is_initial (word_at line (length line - 1)))
breaks_number _ line = false

-- ---- the place of a line

-- whether a line stands only within a model
abbrev pub needs_model : Kind → Bool
needs_model kinds.Blank = false
needs_model kinds.Model = false
needs_model _ = true

-- ---- ports

-- some name stands among those before it
abbrev pub names_twice : (before names : List Word) → Bool
names_twice before [] = false
names_twice before (name ∷ more) = is_among before name || names_twice (before ++ name ∷ []) more

abbrev pub repeats_port : Context → Kind → List Word → Bool
repeats_port context kinds.Inputs line = names_twice context.inputs (arguments line)
repeats_port context kinds.Outputs line = names_twice context.outputs (arguments line)
repeats_port context _ line = false

-- the first port of a line that is named on the other side too
abbrev pub on_both_sides : Context → Kind → List Word → Option Word
on_both_sides context kinds.Inputs line = find (is_among context.outputs) (arguments line)
on_both_sides context kinds.Clock line = find (is_among context.outputs) (arguments line)
on_both_sides context kinds.Outputs line = find (λ name. is_among context.inputs name || is_among context.clocks name) (arguments line)
on_both_sides context _ line = None

-- ---- rows

-- `0`, `1` or `-`
abbrev pub is_sign : ℕ → Bool
is_sign sign = (sign == 48) || (sign == 49) || (sign == 45)

abbrev pub same_output : (so_far : Option Bool) → (on : Bool) → Bool
same_output None on = true
same_output (Some true) on = on
same_output (Some false) on = not on

abbrev pub has_output : (row : List Word) → Bool
has_output row = bytes_eq (output_of row) (codes "0") || is_on row

-- a row for so many inputs whose output agrees with the rows before it
abbrev pub is_fine_row : (width : ℕ) → (so_far : Option Bool) → (row : List Word) → Bool
is_fine_row width so_far row =
    (length (pattern_of row) == width)
    && list_all is_sign (pattern_of row)
    && has_output row
    && same_output so_far (is_on row)

abbrev pub breaks_row : (width : Option ℕ) → (so_far : Option Bool) → Kind → List Word → Bool
breaks_row (Some width) so_far kinds.Row line = not (is_fine_row width so_far line)
breaks_row width so_far kind line = false

-- ---- constructs that are not supported

abbrev pub unsupported : Word → Option Problem
unsupported construct = Some (problems.Unsupported construct)

-- a cover whose line has so many words has more inputs than this
abbrev pub is_wide : (most count : ℕ) → Bool
is_wide most count = nat_lt most (count - 2)

-- a latch of five or six words has a type and a control
abbrev pub has_type : (count : ℕ) → Bool
has_type count = nat_le 5 count

abbrev pub type_problem : List Word → Option Problem
type_problem line =
    if has_type (length line) && not (bytes_eq (word_at line 3) (codes "re")) then unsupported (codes "latch type " ++ word_at line 3) else None

abbrev pub port_problem : Option Word → Option Problem
port_problem None = None
port_problem (Some port) = unsupported (codes "input and output " ++ port)

abbrev pub construct_problem : (most : ℕ) → Context → Kind → List Word → Option Problem
construct_problem most context kinds.Names line = if is_wide most (length line) then unsupported (codes "wide cover") else None
construct_problem most context kinds.Latch line = type_problem line
construct_problem most context kinds.Other line = unsupported (word_at line 0)
construct_problem most context kind line = port_problem (on_both_sides context kind line)

-- ---- the whole

abbrev pub malformed_by : Context → (line : List ℕ) → Kind → List Word → Option Reason
malformed_by context line kind words =
    if not (count_fits kind context.width (length words)) then Some reasons.Row
    else if breaks_number kind words then Some reasons.Number
    else if list_any is_foreign line then Some reasons.Name
    else if context.ended && needs_model kind then Some reasons.AfterEnd
    else if repeats_port context kind words then Some reasons.NameTwice
    else if not context.begun && needs_model kind then Some reasons.NoModel
    else if breaks_row context.width context.on kind words then Some reasons.CoverRow
    else None

-- a malformed line is reported as such, also where it holds an unsupported construct
abbrev pub problem_of : Option Reason → (construct : Option Problem) → Option Problem
problem_of None construct = construct
problem_of (Some reason) construct = Some (problems.Malformed reason)

-- a line of this kind and these words, within what it depends on, where a cover has at most so many inputs
abbrev pub judge_words : (most : ℕ) → Context → (line : List ℕ) → Kind → List Word → Option Problem
judge_words most context line kind words = problem_of (malformed_by context line kind words) (construct_problem most context kind words)

-- a line after the lines before it, all without comments and joined
abbrev pub judge : (most : ℕ) → (before : List (List ℕ)) → (line : List ℕ) → Option Problem
judge most before line = judge_words most (context_of (map words before)) line (kind_of (words line)) (words line)
