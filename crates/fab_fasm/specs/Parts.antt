-- The parts of a FASM line, from left to right. (FASM specification, "Syntax description": `FasmLine`, `SetFasmFeature`,
-- `Feature`, `FeatureAddress`, `Annotations` and `Comment`.)
use Rattle.std.specs.Prelude.{ℕ, ◌+◌, ◌-◌, ◌^◌, Bool, true, false, List, [], ◌∷◌, ◌==◌, ◌||◌, ◌&&◌, not, nat_lt, nat_le, length, take, drop, position, Option, Some, None, option_map, option_and_then, if◌then◌else◌}
use Rattle.std.specs.List.{list_all, slice_split, position_or_len}
use Rattle.std.specs.Char.{is_digit}
use Rattle.fab_base.specs.declared.words.Reason.{Reason}
use Rattle.fab_base.specs.declared.words.Reason.TheVariants as reasons
use Rattle.fab_lines.specs.Names.{is_identifier, is_of_name}
use Rattle.fab_lines.specs.Parts.{is_blank, without_front}
use Rattle.fab_fasm.specs.Numbers.{number_of}

infixl 10 ◌>>=◌
abbrev pub ◌>>=◌ : {A B : Type 0} → Option A → (A → Option B) → Option B
o >>= f = option_and_then f o

-- without the blanks and tabs in front
unfoldable pub unblanked : (text : List ℕ) → List ℕ
unblanked text = without_front is_blank text

-- what follows this byte, where a text begins with it
unfoldable pub after_byte : (byte : ℕ) (text : List ℕ) → Option (List ℕ)
after_byte byte [] = None
after_byte byte (first ∷ rest) = if first == byte then Some rest else None

-- two parts of a text
abbrev pub TwoParts : Type 0
TwoParts = List ℕ × List ℕ

-- what stands before the first such byte, and what stands behind it
unfoldable pub parted : (byte : ℕ) (text : List ℕ) → Option TwoParts
parted byte text = option_map (λ place. (take place text, drop (place + 1) text)) (position (λ other. other == byte) text)

-- how many bytes in front belong together
abbrev pub run_length : (belongs : ℕ → Bool) (text : List ℕ) → ℕ
run_length belongs text = position_or_len (λ byte. not (belongs byte)) text

-- the bytes in front that belong together, and what follows them
unfoldable pub run : (belongs : ℕ → Bool) (text : List ℕ) → TwoParts
run belongs text = (take (run_length belongs text) text, drop (run_length belongs text) text)

-- ---- carriage returns

-- whether an annotation goes on behind a byte
abbrev pub is_annotated : (annotated : Bool) (byte : ℕ) → Bool
is_annotated true byte = not (byte == 125)
is_annotated false byte = byte == 123

-- whether a byte is this one, and stands outside an annotation
abbrev pub is_bare : (sign : ℕ) (annotated : Bool) (byte : ℕ) → Bool
is_bare sign annotated byte = not annotated && (byte == sign)

-- Whether a carriage return stands in a text outside annotations, and before the comment. The text may begin inside an
-- annotation. Before the comment each `{` counts as the beginning of one, also where none can stand.
unfoldable pub has_return : (annotated : Bool) (text : List ℕ) → Bool
has_return annotated [] = false
has_return annotated (byte ∷ rest) =
    if is_bare 13 annotated byte then true
    else if is_bare 35 annotated byte then false
    else has_return (is_annotated annotated byte) rest

-- ---- the feature

abbrev pub is_of_feature : ℕ → Bool
is_of_feature byte = is_of_name byte || (byte == 46)

-- names that are joined by dots
abbrev pub is_feature : (word : List ℕ) → Bool
is_feature word = list_all is_identifier (slice_split (λ byte. byte == 46) word)

-- ---- the address

-- decimal digits alone that write a number of 32 bits
unfoldable pub address_number : (text : List ℕ) → Option ℕ
address_number text =
    if nat_lt 0 (length text) && list_all (λ byte. is_digit byte 10) text && nat_lt (number_of 10 text) (2 ^ 32) then Some (number_of 10 text) else None

-- both sides of the `:`, or twice the one number
abbrev pub both_ends : (text : List ℕ) → Option TwoParts → TwoParts
both_ends text (Some ends) = ends
both_ends text None = (text, text)

-- the bits from `high` down to `low`
abbrev pub TwoNumbers : Type 0
TwoNumbers = ℕ × ℕ

abbrev pub in_order : (high low : ℕ) → Option TwoNumbers
in_order high low = if nat_le low high then Some (high, low) else None

abbrev pub numbers_of : TwoParts → Option TwoNumbers
numbers_of ends = do
  high ← address_number ends.0
  low ← address_number ends.1
  in_order high low

-- what stands in the brackets of an address
unfoldable pub address_of : (text : List ℕ) → Option TwoNumbers
address_of text = numbers_of (both_ends text (parted 58 text))

-- how many bits these are
abbrev pub width_of : (high low : ℕ) → ℕ
width_of high low = high - low + 1

-- An address, the reason for which what follows is refused where it cannot stand, and what follows.
pub record Addressed : Type 0 where
  pub high : ℕ
  pub low : ℕ
  pub reason : Reason
  pub rest : List ℕ

abbrev pub addressed : TwoNumbers → (rest : List ℕ) → Addressed
addressed bits rest = record { high = bits.0; low = bits.1; reason = reasons.Address; rest = rest }

abbrev pub closed : Option TwoParts → Option Addressed
closed None = None
closed (Some parts) = option_map (λ bits. addressed bits parts.1) (address_of parts.0)

abbrev pub opened : (text : List ℕ) → Option (List ℕ) → Option Addressed
opened text None = Some (record { high = 0; low = 0; reason = reasons.Feature; rest = text })
opened text (Some inner) = closed (parted 93 inner)

-- the address directly behind a feature, which is bit 0 where there is none; nothing where it is malformed
unfoldable pub address_at : (text : List ℕ) → Option Addressed
address_at text = opened text (after_byte 91 text)

-- ---- what may follow: an annotation and a comment

-- nothing but a comment is left
unfoldable pub is_over : (text : List ℕ) → Bool
is_over [] = true
is_over (first ∷ rest) = first == 35

abbrev pub annotated : Option TwoParts → Option Reason
annotated None = Some reasons.Annotation
annotated (Some parts) = if is_over (unblanked parts.1) then None else Some reasons.Annotation

abbrev pub not_over : (reason : Reason) → Option (List ℕ) → Option Reason
not_over reason None = Some reason
not_over reason (Some inner) = annotated (parted 125 inner)

-- Why what follows a part is refused, if it is: there may be one annotation, up to the next `}`, and a comment. What
-- else stands there is refused for the reason of that part.
unfoldable pub tail_fault : (reason : Reason) (text : List ℕ) → Option Reason
tail_fault reason text = if is_over (unblanked text) then None else not_over reason (after_byte 123 (unblanked text))
