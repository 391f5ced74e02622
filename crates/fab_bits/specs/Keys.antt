-- Tables and sets whose keys are names, and groups of numbers.
use Rattle.std.specs.Prelude.{ℕ, List, [], Vec, map, slice_index_or}

-- the bytes of each key
abbrev pub key_names : {A : Type 0} → List (Vec ℕ A) → List (List ℕ)
key_names keys = map (λ key. key.items) keys

-- the group at a place, empty past the last
abbrev pub group_at : {A : Type 0} → List (Vec ℕ A) → (place : ℕ) → List ℕ
group_at groups place = slice_index_or (map (λ group. group.items) groups) place []
