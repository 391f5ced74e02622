-- What a cell of a switch list stands for: names, spelled by texts and by choices in brackets.
use Rattle.std.specs.Prelude.{ℕ, ◌+◌, ◌*◌, ◌==◌, ◌||◌, ◌&&◌, Bool, true, false, List, [], ◌∷◌, ◌++◌, map, not, nat_lt, length, drop, replicate, if◌then◌else◌}
use Rattle.std.specs.List.{list_any, list_all, flat_map, slice_split, before_first, after_first}
use Rattle.fab_lines.specs.Names.{is_of_name}
use Rattle.fab_lines.specs.Numbers.{is_number, number_of, capped}

-- ---- the signs of a cell

-- `[`, `]`, `|`, `{`, `}`
abbrev pub is_open : ℕ → Bool
is_open byte = byte == 91

abbrev pub is_close : ℕ → Bool
is_close byte = byte == 93

abbrev pub is_bar : ℕ → Bool
is_bar byte = byte == 124

abbrev pub is_open_brace : ℕ → Bool
is_open_brace byte = byte == 123

abbrev pub is_close_brace : ℕ → Bool
is_close_brace byte = byte == 125

abbrev pub is_brace : ℕ → Bool
is_brace byte = is_open_brace byte || is_close_brace byte

-- a byte that may stand in a cell
abbrev pub is_cell_byte : ℕ → Bool
is_cell_byte byte = is_of_name byte || is_open byte || is_close byte || is_bar byte || is_brace byte

-- ---- how often each name comes

-- whether braces stand in front
abbrev pub begins_repeat : List ℕ → Bool
begins_repeat [] = false
begins_repeat (byte ∷ rest) = is_open_brace byte && list_any is_close_brace rest

-- what stands in them
abbrev pub repeat_digits : List ℕ → List ℕ
repeat_digits cell = before_first is_close_brace (drop 1 cell)

-- what stands behind them
abbrev pub body : List ℕ → List ℕ
body cell = if begins_repeat cell then after_first is_close_brace cell else cell

abbrev pub repeats : List ℕ → ℕ
repeats cell = if begins_repeat cell then number_of (repeat_digits cell) else 1

-- a number from 1 on
abbrev pub is_repeat_number : List ℕ → Bool
is_repeat_number digits = is_number digits && nat_lt 0 (number_of digits)

-- The braces in front hold no number from 1 on, or other braces stand elsewhere.
abbrev pub has_bad_number : List ℕ → Bool
has_bad_number cell = begins_repeat cell && not (is_repeat_number (repeat_digits cell)) || list_any is_close_brace (after_first is_open_brace (body cell))

-- ---- texts and choices

-- a text holds no sign
abbrev pub is_text : List ℕ → Bool
is_text piece = not (list_any is_close piece) && not (list_any is_bar piece)

-- What stands behind a `[`, up to the next: alternatives up to a `]`, and then a text.
abbrev pub is_choice : List ℕ → Bool
is_choice piece = list_any is_close piece && is_text (after_first is_close piece)

abbrev pub are_pieces : List (List ℕ) → Bool
are_pieces [] = true
are_pieces (text ∷ choices) = is_text text && list_all is_choice choices

-- whether the brackets of a cell match, and no brace is left
abbrev pub has_brackets : List ℕ → Bool
has_brackets cell = not (list_any is_brace (body cell)) && are_pieces (slice_split is_open (body cell))

abbrev pub alternatives : List ℕ → List (List ℕ)
alternatives piece = slice_split is_bar (before_first is_close piece)

-- the parts of a name, each with its alternatives; a text is the one alternative of its part
abbrev pub choice_parts : List ℕ → List (List (List ℕ))
choice_parts piece = alternatives piece ∷ (after_first is_close piece ∷ []) ∷ []

abbrev pub parts_of : List (List ℕ) → List (List (List ℕ))
parts_of [] = []
parts_of (text ∷ choices) = (text ∷ []) ∷ flat_map choice_parts choices

-- ---- the names

-- one alternative of each part, those of the first part changing last
abbrev pub product : List (List (List ℕ)) → List (List ℕ)
product [] = [] ∷ []
product (part ∷ parts) = flat_map (λ alternative. map (λ rest. alternative ++ rest) (product parts)) part

-- how many these are
abbrev pub product_size : List (List (List ℕ)) → ℕ
product_size [] = 1
product_size (part ∷ parts) = length part * product_size parts

abbrev pub parts : List ℕ → List (List (List ℕ))
parts cell = parts_of (slice_split is_open (body cell))

-- the names that a cell expands to, each as often as its number says, in its place
abbrev pub names : List ℕ → List (List ℕ)
names cell = flat_map (λ name. replicate (repeats cell) name) (product (parts cell))

-- how many names these are, up to the greatest number of 64 bits
abbrev pub count : List ℕ → ℕ
count cell = capped (repeats cell * product_size (parts cell))
