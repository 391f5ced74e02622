-- The parts of a line.
use Rattle.std.specs.Prelude.{ℕ, Bool, List, [], ◌∷◌, ◌==◌, ◌||◌, map, length, if◌then◌else◌}
use Rattle.std.specs.List.{before_first, slice_split}

-- a blank or a tab
abbrev pub is_blank : ℕ → Bool
is_blank byte = (byte == 32) || (byte == 9)

-- what stands before the first `#`
abbrev pub uncommented : List ℕ → List ℕ
uncommented line = before_first (λ byte. byte == 35) line

-- without the first items that pass a test
abbrev pub without_front : {X : Type 0} → (X → Bool) → List X → List X
without_front test [] = []
without_front test (x ∷ xs) = if test x then without_front test xs else x ∷ xs

-- an item before what is kept of those after it
abbrev pub before_kept : {X : Type 0} → (X → Bool) → X → List X → List X
before_kept test x [] = if test x then [] else x ∷ []
before_kept test x (y ∷ ys) = x ∷ y ∷ ys

-- without the last items that pass a test
abbrev pub without_back : {X : Type 0} → (X → Bool) → List X → List X
without_back test [] = []
without_back test (x ∷ xs) = before_kept test x (without_back test xs)

-- without the blanks and tabs at both ends
abbrev pub trimmed : List ℕ → List ℕ
trimmed cell = without_back is_blank (without_front is_blank cell)

-- what stands between commas, trimmed
abbrev pub all_cells : List ℕ → List (List ℕ)
all_cells line = map trimmed (slice_split (λ byte. byte == 44) line)

abbrev pub is_empty_cell : List ℕ → Bool
is_empty_cell cell = length cell == 0

-- the cells of a line: those between commas without the empty ones at its end
abbrev pub cells : List ℕ → List (List ℕ)
cells line = without_back is_empty_cell (all_cells line)
