-- Numbers as texts write them.
use Rattle.std.specs.Prelude.{ℕ, ◌-◌, ◌^◌, ◌==◌, ◌&&◌, ◌||◌, Bool, List, not, min, length, slice_index}
use Rattle.std.specs.List.{list_all}
use Rattle.std.specs.Str.Parse.{digits_value}
use Rattle.fab_lines.specs.Names.{is_between}

abbrev pub is_digit : ℕ → Bool
is_digit byte = is_between 48 57 byte

-- decimal digits of any length without a leading zero
abbrev pub is_number : List ℕ → Bool
is_number word = not (length word == 0) && list_all is_digit word && (not (slice_index word 0 == 48) || (length word == 1))

-- what digits write
abbrev pub number_of : List ℕ → ℕ
number_of word = digits_value 10 word

-- a number, or the greatest of 64 bits where it is above that
abbrev pub capped : ℕ → ℕ
capped number = min number (2 ^ 64 - 1)
