-- What stands in lists, by places.
use Rattle.std.specs.Prelude.{◌≡◌, ℕ, List, slice_get, Some}

-- what holds of each item
abbrev pub Each : {X : Type 0} → List X → (X → Type 0) → Type 0
Each xs P = (place : ℕ) (x : _) → slice_get xs place ≡ Some x → P x

-- an item for which this holds stands in the list
abbrev pub HasOne : {X : Type 0} → List X → (X → Type 0) → Type 0
HasOne xs P = (place : ℕ) × (x : _) × (slice_get xs place ≡ Some x) × P x
