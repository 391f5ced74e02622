-- The models that lines spell.
use Rattle.std.specs.Prelude.{ℕ, Bool, true, List, [], ◌∷◌, ◌++◌, ◌-◌, length, map, filter, take, drop, codes, slice_index, Option, Some, None, if◌then◌else◌}
use Rattle.std.specs.List.{before_first, enumerate_from}
use Rattle.std.specs.Str.{bytes_eq}
use Rattle.fab_blif_models.specs.declared.words.Kind.{Kind}
use Rattle.fab_blif_models.specs.declared.words.Kind.TheVariants as kinds
use Rattle.fab_blif_models.specs.Plain.{PlainBody, inputs, outputs, clock, cover, latch, instance, PlainStatement, PlainModel}
use Rattle.fab_blif_models.specs.Words.{Word, words, arguments, kind_of, is_model, is_row, is_statement}
use Rattle.fab_lines.specs.Items.{word_at}
use Rattle.fab_netlist.specs.declared.wide.Cube.{Cube}
use Rattle.fab_blif_models.specs.Covers.{cubes_of, is_on_set, rows_on}
use Rattle.fab_blif_models.specs.Judge.{has_initial, has_type}

-- the words of a line, with its number
abbrev pub Line : Type 0
Line = ℕ × List Word

-- `NIL` is no control
abbrev pub control_of : (line : List Word) → Option Word
control_of line = if has_type (length line) then (if bytes_eq (word_at line 4) (codes "NIL") then None else Some (word_at line 4)) else None

-- 3, where no initial value is written
abbrev pub initial_of : (line : List Word) → ℕ
initial_of line = if has_initial (length line) then slice_index (word_at line (length line - 1)) 0 - 48 else 3

-- the row of a buffer, which is 1 where its input is 1
abbrev pub buffer_row : Cube
buffer_row = record { care = 1; value = 1 }

-- the words between the first and the last
abbrev pub inner_words : (line : List Word) → List Word
inner_words line = take (length line - 2) (arguments line)

abbrev pub cover_of : (line : List Word) → (on : Bool) → (rows : List Cube) → PlainBody
cover_of line on rows = cover (inner_words line) (word_at line (length line - 1)) on rows

abbrev pub latch_of : (line : List Word) → PlainBody
latch_of line = latch (word_at line 1) (word_at line 2) (control_of line) (initial_of line)

abbrev pub instance_of : (line : List Word) → PlainBody
instance_of line = instance (word_at line 1) (drop 2 line)

abbrev pub buffer_of : (line : List Word) → PlainBody
buffer_of line = cover (word_at line 1 ∷ []) (word_at line 2) true (buffer_row ∷ [])

-- what a line of this kind says, where these rows follow it
abbrev pub body_of : Kind → (line : List Word) → (rows : List (List Word)) → Option PlainBody
body_of kinds.Inputs line rows = Some (inputs (arguments line))
body_of kinds.Outputs line rows = Some (outputs (arguments line))
body_of kinds.Clock line rows = Some (clock (word_at line 1))
body_of kinds.Names line rows = Some (cover_of line (is_on_set (rows_on rows)) (cubes_of rows))
body_of kinds.Latch line rows = Some (latch_of line)
body_of kinds.Instance line rows = Some (instance_of line)
body_of kinds.Buffer line rows = Some (buffer_of line)
body_of _ line rows = None

-- the statement of a line that says something
abbrev pub at_line : ℕ → Option PlainBody → List PlainStatement
at_line number None = []
at_line number (Some body) = record { line = number; body = body } ∷ []

-- the rows of a cover: those before the next line that ends it
abbrev pub rows_in : (after : List Line) → List (List Word)
rows_in after = filter is_row (before_first is_statement (map (λ line. line.1) after))

abbrev pub statements : List Line → List PlainStatement
statements [] = []
statements (line ∷ after) = at_line line.0 (body_of (kind_of line.1) line.1 (rows_in after)) ++ statements after

-- A model is a `.model` line and the lines up to the next one.
abbrev pub models_of : List Line → List PlainModel
models_of [] = []
models_of (line ∷ after) =
    if is_model line.1
    then record { line = line.0; name = word_at line.1 1; statements = statements (before_first (λ other. is_model other.1) after) } ∷ models_of after
    else models_of after

-- the models that the lines of a file spell
abbrev pub spelled : (lines : List (List ℕ)) → List PlainModel
spelled lines = models_of (enumerate_from 1 (map words lines))
