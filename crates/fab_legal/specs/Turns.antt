-- Lists of which each item is judged after the items before it.
use Rattle.std.specs.Prelude.{ℕ, ◌<◌, List, length, take}
use Rattle.fab_implementation.specs.fab_netlist.specs.Plain.{IsAt}

-- the first n items are right
abbrev pub FirstAreRight : {X : Type 0} → (IsRight : List X → X → Type 0) → List X → (n : ℕ) → Type 0
FirstAreRight {X} IsRight xs n = (place : ℕ) (x : X) → place < n → IsAt xs place x → IsRight (take place xs) x

-- all items are right
abbrev pub AreRight : {X : Type 0} → (IsRight : List X → X → Type 0) → List X → Type 0
AreRight IsRight xs = FirstAreRight IsRight xs (length xs)

-- the item at this place is wrong, and none before it is
pub record IsFirstWrongAt {X : Type 0} (IsRight : List X → X → Type 0) (xs : List X) (place : ℕ) : Type 0 where
  pub inside : place < length xs
  pub wrong : (x : X) → IsAt xs place x → IsRight (take place xs) x → ⊥
  pub before : FirstAreRight IsRight xs place

-- the first wrong item
pub record IsFirstWrong {X : Type 0} (IsRight : List X → X → Type 0) (xs : List X) (x : X) : Type 0 where
  pub place : ℕ
  pub is_at : IsAt xs place x
  pub wrong : IsRight (take place xs) x → ⊥
  pub before : FirstAreRight IsRight xs place
