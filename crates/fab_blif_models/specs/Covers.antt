-- The rows of a cover.
use Rattle.std.specs.Prelude.{ℕ, Bool, true, List, [], ◌∷◌, ◌-◌, ◌==◌, not, length, map, codes, Option, Some, None, if◌then◌else◌}
use Rattle.std.specs.Str.{bytes_eq}
use Rattle.fab_bits.specs.Bits.{number}
use Rattle.fab_netlist.specs.declared.wide.Cube.{Cube}
use Rattle.fab_blif_models.specs.Words.{Word}
use Rattle.fab_lines.specs.Items.{word_at}

-- the pattern of a row: its first word, where the row has two
abbrev pub pattern_of : (row : List Word) → Word
pattern_of row = if length row == 2 then word_at row 0 else []

-- the last word of a row
abbrev pub output_of : (row : List Word) → Word
output_of row = word_at row (length row - 1)

-- whether a row is of an on-set
abbrev pub is_on : (row : List Word) → Bool
is_on row = bytes_eq (output_of row) (codes "1")

-- `-` looks at no value
abbrev pub is_asked : (sign : ℕ) → Bool
is_asked sign = not (sign == 45)

-- `1` wants the value 1
abbrev pub is_one : (sign : ℕ) → Bool
is_one sign = sign == 49

-- The inputs that a pattern looks at, and those of them that it wants to be 1, as bits: the first input is the least significant.
abbrev pub cube_of : (pattern : Word) → Cube
cube_of pattern = record { care = number (map is_asked pattern); value = number (map is_one pattern) }

abbrev pub cubes_of : (rows : List (List Word)) → List Cube
cubes_of rows = map (λ row. cube_of (pattern_of row)) rows

-- whether rows are of an on-set, if there are rows: the first tells, since the others agree
abbrev pub rows_on : (rows : List (List Word)) → Option Bool
rows_on [] = None
rows_on (row ∷ more) = Some (is_on row)

-- Whether a cover of such rows is an on-set. One without a row is: so it is 0.
abbrev pub is_on_set : Option Bool → Bool
is_on_set None = true
is_on_set (Some on) = on
