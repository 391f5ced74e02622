-- What is there behind a pass: what was there before it, and what it adds.
use Rattle.std.specs.Prelude.{◌⊎◌, ◌↔◌, ◌<◌, ℕ, List, Contains}

abbrev pub Adds : {Y : Type 0} → (IsAdded Was IsThere : Y → Type 0) → Type 0
Adds {Y} IsAdded Was IsThere = (y : Y) → IsThere y ↔ (Was y ⊎ IsAdded y)

-- one of the items adds it
abbrev pub AddedBy : {X Y : Type 0} → (IsAdded : X → Y → Type 0) → List X → Y → Type 0
AddedBy {X} {Y} IsAdded xs y = (x : X) × Contains xs x × IsAdded x y

-- one of the numbers below a bound adds it
abbrev pub AddedBelow : {Y : Type 0} → (IsAdded : ℕ → Y → Type 0) → (bound : ℕ) → Y → Type 0
AddedBelow {Y} IsAdded bound y = (number : ℕ) × (number < bound) × IsAdded number y
