-- How rows of words are printed.
use Rattle.std.specs.Prelude.{ℕ, Bool, false, List, [], ◌∷◌, ◌++◌, ◌==◌, ◌&&◌, ◌-◌, not, length, slice_index}
use Rattle.std.specs.List.{flat_map, list_all}
use Rattle.fab_lines.specs.Parts.{is_blank}
use Rattle.fab_texts.specs.Rows.{Word}
use Rattle.fab_lines.specs.Items.{is_filled}

-- the words with a blank between two
abbrev pub spaced : List Word → List ℕ
spaced [] = []
spaced (word ∷ []) = word
spaced (word ∷ next ∷ more) = word ++ 32 ∷ spaced (next ∷ more)

-- a line of words, which LF ends
abbrev pub row_text : List Word → List ℕ
row_text row = spaced row ++ 10 ∷ []

abbrev pub rows_text : List (List Word) → List ℕ
rows_text rows = flat_map row_text rows

-- ---- rows that a text can hold

-- no blank, tab, `#` or LF
abbrev pub is_word_byte : ℕ → Bool
is_word_byte byte = not (is_blank byte) && not (byte == 35) && not (byte == 10)

abbrev pub is_word : Word → Bool
is_word word = is_filled word && list_all is_word_byte word

-- whether a word does not end with CR, which the end of a line would take
abbrev pub ends_line : Word → Bool
ends_line word = not (slice_index word (length word - 1) == 13)

-- a word, and at the end of a line too
abbrev pub is_last_word : Word → Bool
is_last_word word = is_word word && ends_line word

-- there is a word, each is one, and the last can stand at the end of a line
abbrev pub is_row : List Word → Bool
is_row [] = false
is_row (word ∷ []) = is_last_word word
is_row (word ∷ next ∷ more) = is_word word && is_row (next ∷ more)
