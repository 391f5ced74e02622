-- How the reader follows the lines: what it keeps, and what one line more makes of it.
use Rattle.std.specs.Prelude.{ℕ, Bool, true, false, List, [], ◌∷◌, ◌++◌, ◌-◌, length, take, Option, Some, None, Result, unwrap_or}
use Rattle.std.specs.Str.{bytes_eq}
use Rattle.indexmap.specs.IndexSet.{insert_all}
use Rattle.fab_base.specs.declared.fault.Fault.{Fault}
use Rattle.fab_base.specs.declared.problem.Problem.{Problem}
use Rattle.fab_lines.specs.Joined.{joined_lines}
use Rattle.fab_lines.specs.Order.{judged, placed, read_from}
use Rattle.fab_netlist.specs.declared.wide.Cube.{Cube}
use Rattle.fab_blif_models.specs.declared.words.Kind.{Kind}
use Rattle.fab_blif_models.specs.declared.words.Kind.TheVariants as kinds
use Rattle.fab_blif_models.specs.Plain.{PlainBody, cover, PlainStatement, PlainModel}
use Rattle.fab_blif_models.specs.Words.{Word, words, arguments, kind_of}
use Rattle.fab_lines.specs.Items.{word_at, with_last}
use Rattle.fab_blif_models.specs.Covers.{cube_of, pattern_of, is_on, is_on_set}
use Rattle.fab_blif_models.specs.Context.{Context}
use Rattle.fab_blif_models.specs.Judge.{judge_words}
use Rattle.fab_blif_models.specs.Spelled.{body_of}

-- A cover has at most `most` inputs.
pub record State : Type 0 where
  pub most : ℕ
  pub context : Context
  pub models : List PlainModel

-- ---- the models

abbrev pub with_statements : (List PlainStatement → List PlainStatement) → PlainModel → PlainModel
with_statements change model = record { line = model.line; name = model.name; statements = change model.statements }

abbrev pub pushed : ℕ → PlainBody → List PlainModel → List PlainModel
pushed number body models = with_last (with_statements (λ old. old ++ record { line = number; body = body } ∷ [])) models

-- with what a line says, if it says something
abbrev pub with_body : ℕ → Option PlainBody → List PlainModel → List PlainModel
with_body number None models = models
with_body number (Some body) models = pushed number body models

-- with one row more, of an on-set or not
abbrev pub rowed : (on : Bool) → Cube → PlainBody → PlainBody
rowed on row (cover ins output old rows) = cover ins output on (rows ++ row ∷ [])
rowed on row other = other

abbrev pub with_cube : (on : Bool) → Cube → PlainStatement → PlainStatement
with_cube on row statement = record { line = statement.line; body = rowed on row statement.body }

abbrev pub pushed_row : (on : Bool) → Cube → List PlainModel → List PlainModel
pushed_row on row models = with_last (with_statements (with_last (with_cube on row))) models

-- ---- what the next line depends on

-- at the beginning of a text, or of a model
abbrev pub beginning : (begun : Bool) → Context
beginning begun = record { begun = begun; ended = false; inputs = []; outputs = []; clocks = []; width = None; on = None }

abbrev pub after_end : Context → Context
after_end old = record { begun = old.begun; ended = true; inputs = old.inputs; outputs = old.outputs; clocks = old.clocks; width = None; on = None }

-- after a line that ends a cover and names these ports
abbrev pub with_ports : Context → (ins outs clocks : List Word) → (width : Option ℕ) → Context
with_ports old ins outs clocks width = record {
  begun = old.begun;
  ended = old.ended;
  inputs = insert_all bytes_eq old.inputs ins;
  outputs = insert_all bytes_eq old.outputs outs;
  clocks = insert_all bytes_eq old.clocks clocks;
  width = width;
  on = None;
}

abbrev pub with_row : Context → (on : Bool) → Context
with_row old on = record { begun = old.begun; ended = old.ended; inputs = old.inputs; outputs = old.outputs; clocks = old.clocks; width = old.width; on = Some (unwrap_or old.on on) }

abbrev pub context_after : Context → Kind → List Word → Context
context_after old kinds.Model line = beginning true
context_after old kinds.End line = after_end old
context_after old kinds.Inputs line = with_ports old (arguments line) [] [] None
context_after old kinds.Outputs line = with_ports old [] (arguments line) [] None
context_after old kinds.Clock line = with_ports old [] [] (arguments line) None
context_after old kinds.Names line = with_ports old [] [] [] (Some (length line - 2))
context_after old kinds.Latch line = with_ports old [] [] [] None
context_after old kinds.Instance line = with_ports old [] [] [] None
context_after old kinds.Buffer line = with_ports old [] [] [] None
context_after old kinds.Other line = with_ports old [] [] [] None
context_after old kinds.Row line = with_row old (is_on line)
context_after old kinds.Blank line = old
context_after old kinds.Passed line = old

-- ---- the whole

-- the row of a pattern; a pattern that fits its cover has no more signs than a cover may have inputs
abbrev pub row_of : (most : ℕ) → (pattern : Word) → Cube
row_of most pattern = cube_of (take most pattern)

abbrev pub models_after : (most : ℕ) → List PlainModel → (number : ℕ) → (on : Option Bool) → Kind → List Word → List PlainModel
models_after most models number on kinds.Model line = models ++ record { line = number; name = word_at line 1; statements = [] } ∷ []
models_after most models number on kinds.Row line = pushed_row (is_on_set on) (row_of most (pattern_of line)) models
models_after most models number on kind line = with_body number (body_of kind line []) models

abbrev pub state_after : State → (number : ℕ) → Kind → List Word → State
state_after old number kind line =
    let context = context_after old.context kind line in
    record { most = old.most; context = context; models = models_after old.most old.models number context.on kind line }

abbrev pub after_line : State → (number : ℕ) → (line : List ℕ) → Result State Problem
after_line state number line = judged (judge_words state.most state.context line (kind_of (words line)) (words line)) (state_after state number (kind_of (words line)) (words line))

abbrev pub start : (most : ℕ) → State
start most = record { most = most; context = beginning false; models = [] }

abbrev pub read_of : (most : ℕ) → (file bytes : List ℕ) → Result State Fault
read_of most file bytes = placed file (read_from after_line (start most) 1 (joined_lines bytes))
