-- The value of a FASM feature. (FASM specification, "Syntax description": `VerilogValue`; the value of a feature that names
-- none is 1.)
use Rattle.std.specs.Prelude.{ℕ, ◌^◌, Bool, List, [], ◌∷◌, ◌==◌, ◌&&◌, ◌||◌, min, nat_lt, ok_or, Option, Some, None, Result, Ok, Err, if◌then◌else◌}
use Rattle.fab_base.specs.declared.words.Reason.{Reason}
use Rattle.fab_base.specs.declared.words.Reason.TheVariants as reasons
use Rattle.fab_base.specs.declared.words.Quantity.TheVariants as quantities
use Rattle.fab_base.specs.declared.problem.Problem.{Problem}
use Rattle.fab_base.specs.declared.problem.Problem.TheVariants as problems
use Rattle.fab_lines.specs.Names.{is_of_name}
use Rattle.fab_lines.specs.Numbers.{capped}
use Rattle.fab_fasm.specs.Numbers.{radix, is_number, is_decimal, number_of, small}
use Rattle.fab_fasm.specs.declared.numbers.Base.{Base}
use Rattle.fab_fasm.specs.declared.numbers.Base.TheVariants as bases
use Rattle.fab_fasm.specs.Parts.{TwoParts, Addressed, parted, run, unblanked, after_byte, width_of}

-- A value as it is written: digits in a base, and a width in bits where one stands before them. A width above 2^64 - 1 counts
-- as that: no address is as wide.
pub record Literal : Type 0 where
  pub width : Option ℕ
  pub base : Base
  pub digits : List ℕ

-- the base that a letter names: `b`, `o`, `d` or `h`
abbrev pub base_of : (letter : ℕ) → Option Base
base_of letter =
    if letter == 98 then Some bases.Binary
    else if letter == 111 then Some bases.Octal
    else if letter == 100 then Some bases.Decimal
    else if letter == 104 then Some bases.Hexadecimal
    else None

-- a decimal value without a width
abbrev pub decimal_literal : (word : List ℕ) → Option Literal
decimal_literal word = if is_decimal word then Some (record { width = None; base = bases.Decimal; digits = word }) else None

-- a width in bits, at least 1
abbrev pub written_width : (text : List ℕ) → Option ℕ
written_width text = if is_decimal text && nat_lt 0 (number_of 10 text) then Some (capped (number_of 10 text)) else None

abbrev pub based_literal : Option ℕ → Option Base → (digits : List ℕ) → Option Literal
based_literal (Some width) (Some base) digits = if is_number (radix base) digits then Some (record { width = Some width; base = base; digits = digits }) else None
based_literal _ _ digits = None

-- a width, and behind the `'` the letter of a base and digits
unfoldable pub sized_literal : (width based : List ℕ) → Option Literal
sized_literal width [] = None
sized_literal width (letter ∷ digits) = based_literal (written_width width) (base_of letter) digits

abbrev pub literal_with : (word : List ℕ) → Option TwoParts → Option Literal
literal_with word None = decimal_literal word
literal_with word (Some parts) = sized_literal parts.0 parts.1

-- the value that a word writes, where it writes one
unfoldable pub literal_of : (word : List ℕ) → Option Literal
literal_of word = literal_with word (parted 39 word)

abbrev pub value_number : Literal → ℕ
value_number literal = number_of (radix literal.base) literal.digits

-- the bits that a value may take: those of the address, and no more than its own width
abbrev pub room : Option ℕ → (bits : ℕ) → ℕ
room None bits = bits
room (Some width) bits = min width bits

-- it fits the address, and its own width
abbrev pub fits : Literal → (bits : ℕ) → Bool
fits literal bits = nat_lt (value_number literal) (2 ^ room literal.width bits)

-- the most bits of a value
abbrev pub most_bits : ℕ
most_bits = 128

abbrev pub bits_limit : (bits : ℕ) → Problem
bits_limit bits = problems.Limit quantities.LiteralBits bits most_bits

-- a number of 128 bits, or none where it is greater, unless the width before it is above the limit
abbrev pub limited : (width number : Option ℕ) → Result ℕ Problem
limited None number = ok_or number (bits_limit 129)
limited (Some width) number = if nat_lt most_bits width then Err (bits_limit width) else ok_or number (bits_limit 129)

-- its number, unless it has too many bits: as many as are written before it, or 129 where it is too great without a width
abbrev pub number_or_limit : Literal → Result ℕ Problem
number_or_limit literal = limited literal.width (small (value_number literal))

-- A value or the limit that it breaks, the reason for which what follows is refused where it cannot stand, and what follows.
pub record Valued : Type 0 where
  pub value : Result ℕ Problem
  pub reason : Reason
  pub rest : List ℕ

abbrev pub is_of_value : ℕ → Bool
is_of_value byte = is_of_name byte || (byte == 39)

abbrev pub fitting : (bits : ℕ) (rest : List ℕ) → Option Literal → Option Valued
fitting bits rest None = None
fitting bits rest (Some literal) =
    if fits literal bits then Some (record { value = number_or_limit literal; reason = reasons.Value; rest = rest }) else None

-- the value at the front of a text, for so many bits; nothing where there is none, or none that fits
unfoldable pub written_value : (bits : ℕ) (text : List ℕ) → Option Valued
written_value bits text = fitting bits (run is_of_value text).1 (literal_of (run is_of_value text).0)

abbrev pub with_value : Addressed → Option (List ℕ) → Option Valued
with_value address None = Some (record { value = Ok 1; reason = address.reason; rest = address.rest })
with_value address (Some text) = written_value (width_of address.high address.low) (unblanked text)

-- the value behind an address, which is 1 where there is none; nothing where it is malformed
unfoldable pub value_at : Addressed → Option Valued
value_at address = with_value address (after_byte 61 (unblanked address.rest))
