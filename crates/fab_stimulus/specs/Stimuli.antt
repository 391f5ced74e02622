-- What the lines of a stimulus say, and why a line is refused.
use Rattle.std.specs.Prelude.{ℕ, Bool, List, [], ◌∷◌, ◌++◌, ◌==◌, ◌&&◌, ◌||◌, not, fold, length, map, position, unwrap_or, is_none, slice_index_or, codes, if◌then◌else◌, Option, Some, None, Result, Ok}
use Rattle.std.specs.List.{list_all}
use Rattle.std.specs.Str.{bytes_eq}
use Rattle.fab_base.specs.declared.words.Reason.TheVariants as reasons
use Rattle.fab_base.specs.declared.problem.Problem.{Problem}
use Rattle.fab_base.specs.declared.problem.Problem.TheVariants as problems
use Rattle.fab_lines.specs.Order.{Format}
pub use Rattle.fab_implementation.specs.Plain.{ports_of}
use Rattle.fab_texts.specs.Rows.{Word, PlainRow}
use Rattle.fab_lines.specs.Items.{word_at, is_among}
use Rattle.fab_texts.specs.Formats.{refused, text_format}
use Rattle.fab_state.specs.Constraints.{with_word}

-- The ports that are fed; for each of them its place among the names of the first line, where this has come; and the values that
-- the further lines give them, in the order of the ports.
pub record Known : Type 0 where
  pub ports : List Word
  pub columns : Option (List ℕ)
  pub lines : List (List Bool)

-- ---- what a line says

-- the words, each once
abbrev pub once : List Word → List Word
once words = fold with_word [] words

-- the place of a word among others
abbrev pub place_in : List Word → Word → ℕ
place_in words word = unwrap_or (position (bytes_eq word) words) 0

-- for each port its place among names
abbrev pub columns_of : (ports names : List Word) → List ℕ
columns_of ports names = map (place_in names) ports

-- the digit in a column is 1
abbrev pub value_at : (digits : Word) → (column : ℕ) → Bool
value_at digits column = slice_index_or digits column 48 == 49

abbrev pub values_at : (digits : Word) → (columns : List ℕ) → List Bool
values_at digits columns = map (value_at digits) columns

-- ---- what all lines say: the first names the ports, and each other one has a digit for each name

abbrev pub known : (ports : List Word) → List (List Word) → Known
known ports [] = record { ports = ports; columns = None; lines = [] }
known ports (first ∷ rest) = record {
  ports = ports;
  columns = Some (columns_of ports (once first));
  lines = map (λ line. values_at (word_at line 0) (columns_of ports (once first))) rest;
}

-- ---- how a line is taken

-- the line `-`, which names nothing and has no digit
abbrev pub is_nothing : List Word → Bool
is_nothing line = (length line == 1) && bytes_eq (word_at line 0) (codes "-")

-- the names of a first line, where there are so many ports
abbrev pub names_of : (count : ℕ) → List Word → Option (List Word)
names_of count line = if count == 0 then (if is_nothing line then Some [] else None) else Some line

-- each port is named, no name stands twice, and each is that of a port
abbrev pub take_names : Known → Option (List Word) → Result Known Problem
take_names old None = refused reasons.Row
take_names old (Some names) =
    if not (list_all (is_among (once names)) old.ports) then refused reasons.Row
    else if not (length (once names) == length names) then refused reasons.NameTwice
    else if not (list_all (is_among old.ports) names) then refused reasons.Port
    else Ok (record old { columns = Some (columns_of old.ports (once names)) })

-- the digits of a further line, where there are so many ports
abbrev pub digits_of : (count : ℕ) → List Word → Option Word
digits_of count line =
    if count == 0 then (if is_nothing line then Some [] else None)
    else if (length line == 1) && (length (word_at line 0) == count) then Some (word_at line 0) else None

abbrev pub is_digit : ℕ → Bool
is_digit byte = (byte == 48) || (byte == 49)

abbrev pub take_digits : Known → Option Word → Result Known Problem
take_digits old None = refused reasons.Row
take_digits old (Some digits) =
    if not (list_all is_digit digits) then refused reasons.Digit
    else Ok (record old { lines = old.lines ++ values_at digits (unwrap_or old.columns []) ∷ [] })

-- what is known after a line more, or why the line is refused
abbrev pub take : Known → List Word → Result Known Problem
take old line =
    if is_none old.columns then take_names old (names_of (length old.ports) line)
    else take_digits old (digits_of (length old.ports) line)

-- the first line has to have come
abbrev pub cut_short : Known → Option Problem
cut_short old = if is_none old.columns then Some (problems.Malformed reasons.EndOfFile) else None

abbrev pub stimulus_format : (ports : List Word) → Format PlainRow
stimulus_format ports = text_format (known ports) take cut_short
