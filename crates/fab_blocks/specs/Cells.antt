-- The cells of rows: numbers that may have a minus, and names that may be `NULL`.
pub use Rattle.fab_names.specs.Names.{come_twice}
use Rattle.std.specs.Prelude.{ℕ, Bool, List, [], ◌∷◌, ◌==◌, ◌||◌, ◌&&◌, not, nat_lt, length, drop, slice_index, slice_index_or, codes, Option, Some, None, if◌then◌else◌}
use Rattle.std.specs.Str.{bytes_eq, str_to_ascii_lowercase}
use Rattle.fab_base.specs.declared.problem.Problem.{Problem}
use Rattle.fab_base.specs.declared.problem.Problem.TheVariants as problems
use Rattle.fab_base.specs.declared.words.Reason.{Reason}
use Rattle.fab_base.specs.declared.words.Quantity.TheVariants as quantities
use Rattle.fab_lines.specs.Names.{is_identifier, is_wire_name}
use Rattle.fab_lines.specs.Numbers.{is_number, number_of}

-- ---- numbers that may have a minus

abbrev pub is_negative : List ℕ → Bool
is_negative cell = slice_index cell 0 == 45

-- without its minus
abbrev pub unsigned : List ℕ → List ℕ
unsigned cell = if is_negative cell then drop 1 cell else cell

abbrev pub magnitude : List ℕ → ℕ
magnitude cell = number_of (unsigned cell)

abbrev pub is_zero : List ℕ → Bool
is_zero cell = magnitude cell == 0

abbrev pub is_positive : List ℕ → Bool
is_positive cell = not (is_negative cell) && not (is_zero cell)

-- a number, with a minus in front or none; 0 has none
unfoldable pub is_signed : List ℕ → Bool
is_signed cell = is_number (unsigned cell) && not (is_negative cell && is_zero cell)

-- ---- names

-- `NULL` in any letter case
unfoldable pub is_null : List ℕ → Bool
is_null cell = bytes_eq (str_to_ascii_lowercase cell) (codes "null")

-- a tile is called by a name of any length that is not `NULL`
unfoldable pub is_tile_name : List ℕ → Bool
is_tile_name cell = is_identifier cell && not (is_null cell)

-- a side of a wire row is missing or has the name of a wire, of any length
unfoldable pub is_side : List ℕ → Bool
is_side cell = is_null cell || is_wire_name cell

-- ---- what is refused

-- a name in a table has at most 64 bytes
abbrev pub is_long : List ℕ → Bool
is_long name = nat_lt 64 (length name)

unfoldable pub long_of : List ℕ → Option Problem
long_of name = if is_long name then Some (problems.Limit quantities.NameBytes (length name) 64) else None

-- the first of two problems
abbrev pub first_problem : Option Problem → Option Problem → Option Problem
first_problem None other = other
first_problem (Some problem) other = Some problem

-- the first long one of these names is over the limit
unfoldable pub long_problem : List (List ℕ) → Option Problem
long_problem [] = None
long_problem (name ∷ more) = first_problem (long_of name) (long_problem more)

-- what is malformed is reported as such, also where it holds what is unsupported or is over a limit
abbrev pub problem_of : Option Reason → (other : Option Problem) → Option Problem
problem_of None other = other
problem_of (Some reason) other = Some (problems.Malformed reason)

-- ---- the cells of a row

abbrev pub cell_at : List (List ℕ) → ℕ → List ℕ
cell_at cells place = slice_index_or cells place []
