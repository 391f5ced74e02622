-- Lines that go on in the next line.
use Rattle.std.specs.Prelude.{ℕ, Bool, List, [], ◌∷◌, ◌++◌, ◌-◌, ◌==◌, map, length, replicate, slice_index, take, if◌then◌else◌}
use Rattle.std.specs.Str.Lines.{lines}
use Rattle.fab_lines.specs.Parts.{uncommented}

-- whether `\` is the last byte of a line
abbrev pub goes_on : List ℕ → Bool
goes_on line = slice_index line (length line - 1) == 92

abbrev pub without_last : List ℕ → List ℕ
without_last line = take (length line - 1) line

-- The front of a line in front of the line that it goes on in. The joined line stands where its first line stood, and an
-- empty line where the next one was, so that each line keeps its number.
abbrev pub onto_next : (front : List ℕ) → (next : List (List ℕ)) → List (List ℕ)
onto_next front [] = front ∷ []
onto_next front (line ∷ rest) = (front ++ line) ∷ [] ∷ rest

-- Each line that `\` ends is joined with the line after it, without the `\` and without a blank; where none follows, the
-- `\` is left out.
abbrev pub joined : List (List ℕ) → List (List ℕ)
joined [] = []
joined (line ∷ rest) = if goes_on line then onto_next (without_last line) (joined rest) else line ∷ joined rest

-- the lines of a text without their comments, and joined
abbrev pub joined_lines : (bytes : List ℕ) → List (List ℕ)
joined_lines bytes = joined (map uncommented (lines bytes))

-- what is left of them after a joined line: so many empty lines in its place, and the lines of the text after it
abbrev pub lines_left : (blanks : ℕ) → (bytes : List ℕ) → List (List ℕ)
lines_left blanks bytes = replicate blanks [] ++ joined_lines bytes
