-- What sets and maps of names hold.
use Rattle.std.specs.Prelude.{◌≡◌, ◌||◌, ℕ, Bool, List, Vec, map}
use Rattle.std.specs.List.{list_any}
use Rattle.std.specs.Str.{bytes_eq}
use Rattle.fab_tables.specs.Lists.{Pair}
use Rattle.fab_list_files.specs.Sides.{has_output, has_input}

abbrev pub key_pairs : {A : Type 0} → List (Vec ℕ A × Vec ℕ A) → List Pair
key_pairs keys = map (λ key. (key.0.items, key.1.items)) keys

-- the names on the two sides of some pairs, in any order
pub record PlainSides : Type 0 where
  pub outputs : List (List ℕ)
  pub inputs : List (List ℕ)

-- these are the names on the two sides of the pairs
pub record HasSides (sides : PlainSides) (pairs : List Pair) : Type 0 where
  pub outputs : (name : List ℕ) → list_any (bytes_eq name) sides.outputs ≡ has_output pairs name
  pub inputs : (name : List ℕ) → list_any (bytes_eq name) sides.inputs ≡ has_input pairs name

-- the output of a pair is among the inputs, or its input among the outputs
abbrev pub crosses_sides : PlainSides → Pair → Bool
crosses_sides sides pair = list_any (bytes_eq pair.0) sides.inputs || list_any (bytes_eq pair.1) sides.outputs
