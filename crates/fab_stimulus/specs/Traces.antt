-- How a trace is printed.
use Rattle.std.specs.Prelude.{ℕ, List, ◌∷◌, map}
use Rattle.fab_texts.specs.Rows.{Word}
use Rattle.fab_texts.specs.Printed.{rows_text}
use Rattle.fab_ternary.specs.declared.Tern.{Tern}
use Rattle.fab_ternary.specs.declared.Tern.TheVariants as terns
use Rattle.fab_stimulus.specs.Spelled.{names_line, digits_line}

abbrev pub digit : Tern → ℕ
digit terns.No = 48
digit terns.Yes = 49
digit terns.Open = 63

-- a line of digits, and `-` where there are none
abbrev pub values_line : List Tern → List Word
values_line values = digits_line (map digit values)

-- the line of the ports' names, and a line for each cycle
abbrev pub trace_text : (ports : List Word) → List (List Tern) → List ℕ
trace_text ports lines = rows_text (names_line ports ∷ map values_line lines)
