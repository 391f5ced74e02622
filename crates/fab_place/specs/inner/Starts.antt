-- Where items stand before anything is exchanged, by the numbers of sites: cells on the first sites, and ports on pads in order.
use Rattle.std.specs.Prelude.{ℕ, ◌+◌, Bool, false, List, [], ◌∷◌, ◌++◌, Option, Some, None, map, filter, not, drop, get_or, nat_eq}
use Rattle.std.specs.List.{list_any}
use Rattle.fab_model.specs.Tiles.{counted}

abbrev pub is_number : (number : ℕ) → Option ℕ → Bool
is_number number None = false
is_number number (Some other) = nat_eq number other

-- whether a port has this pad by a constraint
abbrev pub is_taken : (constrained : List (Option ℕ)) → (pad : ℕ) → Bool
is_taken constrained pad = list_any (is_number pad) constrained

-- the pads that no constraint names, of so many
abbrev pub free_numbers : (constrained : List (Option ℕ)) → (pads : ℕ) → List ℕ
free_numbers constrained pads = filter (λ pad. not (is_taken constrained pad)) (counted pads (λ pad. pad))

-- how many ports have no constraint
abbrev pub loose : (constrained : List (Option ℕ)) → ℕ
loose [] = 0
loose (Some pad ∷ constrained) = loose constrained
loose (None ∷ constrained) = 1 + loose constrained

-- a port with a constraint has that pad, and each other port the next free one
abbrev pub numbers_in_order : (free : List ℕ) → (constrained : List (Option ℕ)) → List ℕ
numbers_in_order free [] = []
numbers_in_order free (Some pad ∷ constrained) = pad ∷ numbers_in_order free constrained
numbers_in_order free (None ∷ constrained) = get_or free 0 0 ∷ numbers_in_order (drop 1 free) constrained

-- The sites of the items, where the sites of cells come first and then the pads.
abbrev pub start_numbers : (cells luts pads : ℕ) → (constrained : List (Option ℕ)) → List ℕ
start_numbers cells luts pads constrained =
    counted cells (λ cell. cell) ++ map (λ pad. luts + pad) (numbers_in_order (free_numbers constrained pads) constrained)
