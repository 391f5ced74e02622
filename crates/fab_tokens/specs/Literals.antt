-- Decimal numbers and constants, computed from their bytes.
use Rattle.std.specs.Prelude.{ℕ, Bool, true, false, List, [], ◌∷◌, ◌+◌, ◌*◌, ◌-◌, ◌==◌, ◌&&◌, ◌||◌, not, nat_lt, nat_le, length, map, reverse, if◌then◌else◌, Option, Some, None}
use Rattle.std.specs.List.{list_all}
use Rattle.std.specs.Option.{option_and_then}

-- the greatest number of a range or a select, and the greatest width of a constant
abbrev pub max_number : ℕ
max_number = 4294967294

abbrev pub is_digit : ℕ → Bool
is_digit byte = nat_le 48 byte && nat_le byte 57

abbrev pub is_letter : ℕ → Bool
is_letter byte = (nat_le 65 byte && nat_le byte 90) || (nat_le 97 byte && nat_le byte 122)

-- a letter, a digit or `_`
abbrev pub is_word_byte : ℕ → Bool
is_word_byte byte = is_letter byte || is_digit byte || (byte == 95)

abbrev pub is_binary : ℕ → Bool
is_binary byte = (byte == 48) || (byte == 49)

unfoldable pub is_one : ℕ → Bool
is_one byte = byte == 49

abbrev pub shifted : (value byte : ℕ) → ℕ
shifted value byte = value * 10 + (byte - 48)

-- a value with one digit more, where it is not too great
abbrev pub with_digit : (value byte : ℕ) → Option ℕ
with_digit value byte = if is_digit byte && nat_le (shifted value byte) max_number then Some (shifted value byte) else None

-- the number that digits write after those of a value, where it is not too great
abbrev pub number_from : (value : ℕ) → List ℕ → Option ℕ
number_from value [] = Some value
number_from value (byte ∷ bytes) = option_and_then (λ next. number_from next bytes) (with_digit value byte)

-- a number without leading zeros
abbrev pub number_of : List ℕ → Option ℕ
number_of [] = None
number_of (byte ∷ []) = number_from 0 (byte ∷ [])
number_of (byte ∷ next ∷ bytes) = if byte == 48 then None else number_from 0 (byte ∷ next ∷ bytes)

abbrev pub is_number : ℕ → Option ℕ → Bool
is_number n None = false
is_number n (Some m) = n == m

-- whether these are all binary digits, as many as the width says
abbrev pub is_written : (width digits : List ℕ) → Bool
is_written width [] = false
is_written width (digit ∷ digits) = list_all is_binary (digit ∷ digits) && is_number (length (digit ∷ digits)) (number_of width)

-- the bits of a constant, from what stands before and behind its apostrophe
abbrev pub constant_of : (width rest : List ℕ) → Option (List Bool)
constant_of width [] = None
constant_of width (base ∷ digits) = if (base == 98) && is_written width digits then Some (reverse (map is_one digits)) else None
