-- What a line depends on in the lines before it.
use Rattle.std.specs.Prelude.{ℕ, Bool, List, [], ◌-◌, length, filter, Option, Some, None}
use Rattle.std.specs.List.{list_any, flat_map, after_last, last_or}
use Rattle.std.specs.Str.{bytes_eq}
use Rattle.fab_select.specs.Selection.{firsts}
use Rattle.fab_blif_models.specs.declared.words.Kind.{Kind}
use Rattle.fab_blif_models.specs.declared.words.Kind.TheVariants as kinds
use Rattle.fab_blif_models.specs.Words.{Word, arguments, kind_of, is_model, is_end, is_row, is_statement}
use Rattle.fab_blif_models.specs.Covers.{rows_on}

pub record Context : Type 0 where
  -- a model has begun; `.end` has come after that
  pub begun : Bool
  pub ended : Bool
  -- the ports of the model, each name once
  pub inputs : List Word
  pub outputs : List Word
  pub clocks : List Word
  -- how many inputs the cover has that takes rows, if there is one, and whether its rows so far are of an on-set
  pub width : Option ℕ
  pub on : Option Bool

-- the names that a line of this kind gives to ports
abbrev pub named_by : (asked of : Kind) → List Word → List Word
named_by kinds.Inputs kinds.Inputs line = arguments line
named_by kinds.Outputs kinds.Outputs line = arguments line
named_by kinds.Clock kinds.Clock line = arguments line
named_by asked of line = []

abbrev pub named : (asked : Kind) → List Word → List Word
named asked line = named_by asked (kind_of line) line

-- the lines of the model that begins last
abbrev pub model_lines : List (List Word) → List (List Word)
model_lines lines = after_last is_model lines

abbrev pub ports : (asked : Kind) → List (List Word) → List Word
ports asked lines = firsts bytes_eq (flat_map (named asked) (model_lines lines))

-- the number of inputs of a cover, if a line is one
abbrev pub width_by : Kind → List Word → Option ℕ
width_by kinds.Names line = Some (length line - 2)
width_by _ line = None

abbrev pub width_of : Option (List Word) → Option ℕ
width_of None = None
width_of (Some line) = width_by (kind_of line) line

-- the rows after the last line that ends a cover
abbrev pub open_rows : List (List Word) → List (List Word)
open_rows lines = filter is_row (after_last is_statement lines)

-- what the next line depends on
abbrev pub context_of : List (List Word) → Context
context_of lines = record {
  begun = list_any is_model lines;
  ended = list_any is_end (model_lines lines);
  inputs = ports kinds.Inputs lines;
  outputs = ports kinds.Outputs lines;
  clocks = ports kinds.Clock lines;
  width = width_of (last_or None (filter is_statement lines));
  on = rows_on (open_rows lines);
}
