-- How the names of a cell are made part by part.
use Rattle.std.specs.Prelude.{ℕ, Bool, ◌||◌, List, [], ◌∷◌, ◌++◌, map}
use Rattle.std.specs.List.{flat_map}
use Rattle.fab_tables.specs.Cells.{is_open, is_close, is_bar, is_brace}

-- a byte of which a cell is more than one name
abbrev pub is_sign : ℕ → Bool
is_sign byte = is_open byte || is_close byte || is_bar byte || is_brace byte

-- each name with each alternative of one part more
abbrev pub extended : (names : List (List ℕ)) (part : List (List ℕ)) → List (List ℕ)
extended names part = flat_map (λ name. map (λ alternative. name ++ alternative) part) names

abbrev pub extended_by : (names : List (List ℕ)) (parts : List (List (List ℕ))) → List (List ℕ)
extended_by names [] = names
extended_by names (part ∷ parts) = extended_by (extended names part) parts
