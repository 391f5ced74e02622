-- Texts of lines of words.
use Rattle.std.specs.Prelude.{ℕ, zero, suc, ◌+◌, ◌==◌, Bool, List, [], ◌∷◌, map, filter, not, length, slice_get, Result, Ok}
use Rattle.std.specs.List.{slice_split}
use Rattle.std.specs.Option.{option_map_or}
use Rattle.std.specs.Str.Lines.{lines}
use Rattle.fab_base.specs.declared.problem.Problem.{Problem}
use Rattle.fab_lines.specs.Items.{is_filled}
use Rattle.fab_lines.specs.Parts.{uncommented, is_blank}

abbrev pub Word : Type 0
Word = List ℕ

-- the words of a line: what blanks and tabs part, before the comment
abbrev pub words : (line : List ℕ) → List Word
words line = filter is_filled (slice_split is_blank (uncommented line))

-- the number of a line, and its words
pub record PlainRow : Type 0 where
  pub line : ℕ
  pub words : List Word

abbrev pub row_at : (number : ℕ) → (line : List ℕ) → PlainRow
row_at number line = record { line = number; words = words line }

-- lines as rows, of which the first has this number
abbrev pub rows_from : (number : ℕ) → List (List ℕ) → List PlainRow
rows_from number [] = []
rows_from number (line ∷ rest) = row_at number line ∷ rows_from (number + 1) rest

abbrev pub holds_word : PlainRow → Bool
holds_word row = not (length row.words == 0)

-- the lines of a text that hold a word
abbrev pub rows_of : (bytes : List ℕ) → List PlainRow
rows_of bytes = filter holds_word (rows_from 1 (lines bytes))

abbrev pub words_of : List PlainRow → List (List Word)
words_of rows = map (λ row. row.words) rows

-- the number of the line of a row, counted from 1; 0 where there is none
abbrev pub entry_line : List PlainRow → (entry : ℕ) → ℕ
entry_line rows zero = 0
entry_line rows (suc before) = option_map_or (λ row. row.line) (slice_get rows before) 0

-- ---- how a reader takes rows

abbrev pub after_words : {S : Type 0} → (after : S → List Word → Result S Problem) → S → List Word → Result S Problem
after_words after state [] = Ok state
after_words after state (word ∷ more) = after state (word ∷ more)

-- a line without words changes nothing
abbrev pub after_line : {S : Type 0} → (after : S → List Word → Result S Problem) → S → (line : List ℕ) → Result S Problem
after_line after state line = after_words after state (words line)

abbrev pub after_row : {S : Type 0} → (after : S → List Word → Result S Problem) → S → PlainRow → Result S Problem
after_row after state row = after state row.words
