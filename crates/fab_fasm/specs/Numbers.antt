-- Numbers as FASM writes them. (FASM specification, "Syntax description": `DecimalValue`, `HexadecimalValue`, `BinaryValue`
-- and `OctalValue` are digits of their base, with `_` among them.)
use Rattle.std.specs.Prelude.{ℕ, ◌+◌, ◌*◌, ◌^◌, Bool, List, ◌==◌, ◌||◌, ◌&&◌, filter, nat_lt, slice_index, Option, Some, None, if◌then◌else◌}
use Rattle.std.specs.List.{list_all, list_any}
use Rattle.std.specs.Char.{digit_value, is_digit}
use Rattle.std.specs.Str.Parse.{digits_value}
use Rattle.fab_fasm.specs.declared.numbers.Base.{Base}
use Rattle.fab_fasm.specs.declared.numbers.Base.TheVariants as bases

-- how many digits a base has
abbrev pub radix : Base → ℕ
radix bases.Binary = 2
radix bases.Octal = 8
radix bases.Decimal = 10
radix bases.Hexadecimal = 16

-- a digit of this base, or `_`
abbrev pub is_of_number : (radix byte : ℕ) → Bool
is_of_number radix byte = is_digit byte radix || (byte == 95)

-- digits of this base, at least one, and `_` anywhere
abbrev pub is_number : (radix : ℕ) (text : List ℕ) → Bool
is_number radix text = list_any (λ byte. is_digit byte radix) text && list_all (is_of_number radix) text

-- a decimal digit, and then decimal digits and `_`
abbrev pub is_decimal : (text : List ℕ) → Bool
is_decimal text = is_digit (slice_index text 0) 10 && list_all (is_of_number 10) text

-- What the digits of a text write in this base, the first as the most significant. `_` is no digit.
abbrev pub number_of : (radix : ℕ) (text : List ℕ) → ℕ
number_of radix text = digits_value radix (filter (λ byte. is_digit byte radix) text)

-- a number with one byte more behind it, which counts where it is a digit
abbrev pub next : (radix number byte : ℕ) → ℕ
next radix number byte = if is_digit byte radix then number * radix + digit_value byte else number

-- a number that fits 128 bits
abbrev pub small : ℕ → Option ℕ
small number = if nat_lt number (2 ^ 128) then Some number else None
