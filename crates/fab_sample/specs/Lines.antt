-- Texts of lines.
use Rattle.std.specs.Prelude.{ℕ, List, ◌++◌, codes}
use Rattle.std.specs.List.{flat_map, join_with_byte}

abbrev pub Line : Type 0
Line = List ℕ

-- each line with the line feed that ends it
abbrev pub text : List Line → List ℕ
text lines = flat_map (λ line. line ++ codes "\n") lines

-- words with a blank between two
abbrev pub words : List Line → Line
words parts = join_with_byte 32 parts

-- cells with a comma between two
abbrev pub cells : List Line → Line
cells parts = join_with_byte 44 parts
