-- The lines of a text are its first line and the lines of the rest.
use Rattle.std.proofs.Common.{◌≡◌, ℕ, ◌+◌, ◌≤◌, ◌<◌, Bool, List, [], ◌∷◌, length, take, drop, refl, sym, ap, ◌∙◌, arith, eqb, ltb, cond, Some, None, rules, inl, inr}
use Rattle.std.specs.Prelude.{unwrap_or, position}
use Rattle.std.specs.List.{slice_split, position_or_len}
use Rattle.std.specs.Str.Lines.{lines, lines_of_parts, strip_carriage_return}
use Rattle.std.proofs.lemmas.Bool.{cases_lt, lt-ltb, le-ltb}
use Rattle.std.proofs.lemmas.List.Splits.{slice_split_first, slice_split_none, length-slice_split}
use Rattle.std.proofs.lemmas.List.Sums.{fails_before_first, prefix_len-le-length}

-- a place below the size, with the size in place of none
some_below_or : (place size : ℕ) → place ≤ size → unwrap_or (cond (ltb place size) (Some place) None) size ≡ place
some_below_or place size within = elim (cases_lt place size) [
  | inl below ↦ rw (lt-ltb place size below) refl
  | inr at_end ↦ rw (le-ltb place size at_end) (omega arith)
]

-- the place of the first item that passes, with the length in place of none
pub position_or_length : (test : ℕ → Bool) (bytes : List ℕ) → unwrap_or (position test bytes) (length bytes) ≡ position_or_len test bytes
position_or_length test bytes = some_below_or (position_or_len test bytes) (length bytes) (prefix_len-le-length _ bytes)

-- a place that is below the size
pub below_where_some : (place size found : ℕ) → cond (ltb place size) (Some place) None ≡ Some found → (found ≡ place) × (found < size)
below_where_some place size found so = elim (cases_lt place size) [
  | inl below ↦ let same : Some place ≡ Some found = rw (lt-ltb place size below) at so in let is : found ≡ place = cc in (is, rw is below)
  | inr at_end ↦ let none : None ≡ Some found = rw (le-ltb place size at_end) at so in absurd cc
]

-- a place that is not below the size
pub size_where_none : (place size : ℕ) → cond (ltb place size) (Some place) None ≡ None → size ≤ place
size_where_none place size so = elim (cases_lt place size) [
  | inl below ↦ let some : Some place ≡ None = rw (lt-ltb place size below) at so in absurd cc
  | inr at_end ↦ at_end
]

-- a line feed
abbrev is_feed : ℕ → Bool
is_feed byte = eqb byte 10

-- a part that is not the last is a line
lines_of_more : (part : List ℕ) (parts : List (List ℕ)) → 0 < length parts → lines_of_parts (part ∷ parts) ≡ strip_carriage_return part ∷ lines_of_parts parts
lines_of_more part [] some = absurd (omega arith)
lines_of_more part (next ∷ parts) some = refl

-- a line that a line feed ends
pub lines_at_feed : (bytes : List ℕ) (end : ℕ) → position is_feed bytes ≡ Some end → lines bytes ≡ strip_carriage_return (take end bytes) ∷ lines (drop (end + 1) bytes)
lines_at_feed bytes end found =
    let at = below_where_some (position_or_len is_feed bytes) (length bytes) end found in
    let rest = drop (position_or_len is_feed bytes + 1) bytes in
    let within : position_or_len is_feed bytes < length bytes = omega (arith, at.0, at.1) in
    ap lines_of_parts (slice_split_first is_feed bytes 0 within)
    ∙ lines_of_more (take (position_or_len is_feed bytes) bytes) (slice_split is_feed rest) (omega (arith, length-slice_split is_feed rest))
    ∙ ap (λ place. strip_carriage_return (take place bytes) ∷ lines (drop (place + 1) bytes)) (sym at.0)

-- the last part is a line where it is not empty
lines_of_one : (bytes : List ℕ) → 0 < length bytes → lines_of_parts (bytes ∷ []) ≡ bytes ∷ []
lines_of_one [] some = absurd (omega arith)
lines_of_one (byte ∷ bytes) some = search rules

-- a text without a line feed is one line
pub lines_at_end : (bytes : List ℕ) → 0 < length bytes → position is_feed bytes ≡ None → lines bytes ≡ bytes ∷ []
lines_at_end bytes some none =
    let whole = size_where_none (position_or_len is_feed bytes) (length bytes) none in
    ap lines_of_parts (slice_split_none is_feed bytes (λ k d below. fails_before_first is_feed bytes k d (omega arith))) ∙ lines_of_one bytes some

-- an empty text has no line
pub lines_of_none : (bytes : List ℕ) → length bytes ≡ 0 → lines bytes ≡ []
lines_of_none [] none = refl
lines_of_none (byte ∷ bytes) none = absurd (omega arith)
