-- The line of the last byte of a text, as the reader counts it byte by byte, is the number of its last line.
use Rattle.std.proofs.Common.{◌≡◌, ℕ, ◌+◌, ◌<◌, true, false, cond, eqb, ◌==◌, if◌then◌else◌, List, [], ◌∷◌, length, refl, ap, ◌∙◌, arith, rules, inl, inr}
use Rattle.std.specs.List.{slice_split, onto_first}
use Rattle.std.specs.Str.Lines.{lines, lines_of_parts}
use Rattle.std.proofs.lemmas.Bool.{cases_Bool}
use Rattle.std.proofs.lemmas.List.Splits.{length-slice_split}
use Rattle.fab_lines.specs.Counts.{last_line}
use Rattle.fab_vread.specs.Refusals.{next_line}

-- the line of the last byte, or the last line so far where none follows
unfoldable pub last_line_from : (last line : ℕ) → List ℕ → ℕ
last_line_from last line [] = last
last_line_from last line (byte ∷ bytes) = last_line_from line (next_line line byte) bytes

-- the parts between line feeds
abbrev parts_of : List ℕ → List (List ℕ)
parts_of bytes = slice_split (λ b. b == 10) bytes

some_parts : (bytes : List ℕ) → 0 < length (parts_of bytes)
some_parts bytes = omega (arith, length-slice_split (λ b. b == 10) bytes)

one_line : (byte : ℕ) (bytes : List ℕ) → length (lines_of_parts ((byte ∷ bytes) ∷ [])) ≡ 1
one_line byte bytes = search rules

-- a line feed before more parts ends a line
feed_ends : (parts : List (List ℕ)) → 0 < length parts → length (lines_of_parts ([] ∷ parts)) ≡ length (lines_of_parts parts) + 1
feed_ends [] some = absurd (omega arith)
feed_ends (part ∷ parts) some = omega arith

-- another byte before a part that is not the last, or not empty, is in its line
in_line : (byte : ℕ) (part : List ℕ) (parts : List (List ℕ)) → 0 < length part + length parts → length (lines_of_parts ((byte ∷ part) ∷ parts)) ≡ length (lines_of_parts (part ∷ parts))
in_line byte [] [] some = absurd (omega arith)
in_line byte (next ∷ part) [] some = omega (arith, one_line byte (next ∷ part), one_line next part)
in_line byte part (more ∷ parts) some = refl

joins_line : (byte next : ℕ) (parts : List (List ℕ)) → 0 < length parts →
    length (lines_of_parts (onto_first byte (cond (next == 10) ([] ∷ parts) (onto_first next parts)))) ≡ length (lines_of_parts (cond (next == 10) ([] ∷ parts) (onto_first next parts)))
joins_line byte next [] some = absurd (omega arith)
joins_line byte next (part ∷ parts) some =
    elim (cases_Bool (next == 10)) [
      | inl feed ↦ rw feed (in_line byte [] (part ∷ parts) (omega arith))
      | inr other ↦ rw other (in_line byte (next ∷ part) parts (omega arith))
    ]

-- one byte more, before others
line_more : (byte next : ℕ) (bytes : List ℕ) → length (lines (byte ∷ next ∷ bytes)) ≡ length (lines (next ∷ bytes)) + cond (byte == 10) 1 0
line_more byte next bytes =
    elim (cases_Bool (byte == 10)) [
      | inl feed ↦ rw feed (feed_ends (parts_of (next ∷ bytes)) (some_parts (next ∷ bytes)))
      | inr other ↦ rw other (joins_line byte next (parts_of bytes) (some_parts bytes) ∙ omega arith)
    ]

one_byte : (byte : ℕ) → length (lines (byte ∷ [])) ≡ 1
one_byte byte = elim (cases_Bool (byte == 10)) [ inl feed ↦ rw feed refl | inr other ↦ rw other refl ]

next_is : (line byte : ℕ) → next_line line byte ≡ line + cond (byte == 10) 1 0
next_is line byte = elim (cases_Bool (byte == 10)) [ inl feed ↦ rw feed (omega arith) | inr other ↦ rw other (omega arith) ]

last_is : (bytes : List ℕ) (byte last line : ℕ) → last_line_from last line (byte ∷ bytes) + 1 ≡ line + length (lines (byte ∷ bytes))
unfolding last_line_from
last_is [] byte last line = omega (arith, one_byte byte)
last_is (next ∷ bytes) byte last line = omega (arith, last_is bytes next line (next_line line byte), next_is line byte, line_more byte next bytes)

some_lines : (bytes : List ℕ) (byte : ℕ) → 0 < length (lines (byte ∷ bytes))
some_lines [] byte = omega (arith, one_byte byte)
some_lines (next ∷ bytes) byte = omega (arith, some_lines bytes next, line_more byte next bytes)

pub last_line_is : (bytes : List ℕ) → last_line_from 1 1 bytes ≡ last_line bytes
unfolding last_line_from
last_line_is [] = refl
last_line_is (byte ∷ bytes) = omega (arith, last_is bytes byte 1 1, some_lines bytes byte)
