-- How many lines a text has.
use Rattle.std.specs.Prelude.{ℕ, List, length, max}
use Rattle.std.specs.Str.Lines.{lines}

-- the number of the last line of a text, 1 where it is empty: what is wrong with a text as a whole is reported there
abbrev pub last_line : (bytes : List ℕ) → ℕ
last_line bytes = max 1 (length (lines bytes))
