-- Flags that are found by blocks.
use Rattle.std.specs.Prelude.{◌≡◌, ℕ, ◌*◌, ◌/◌, ◌<◌, ◌≤◌, Bool, true, false, List, Some, length, slice_get}

abbrev pub IsUnset : (flags : List Bool) → (number : ℕ) → Type 0
IsUnset flags number = slice_get flags number ≡ Some false

-- the same of all flags from one number up to another
abbrev pub AreUnset : (flags : List Bool) → (from end : ℕ) → Type 0
AreUnset flags from end = (number : ℕ) → from ≤ number → number < end → IsUnset flags number

-- the first flag from a number on that is set
pub record IsNextSet (flags : List Bool) (from number : ℕ) : Type 0 where
  pub low : from ≤ number
  pub within : number < length flags
  pub set : slice_get flags number ≡ Some true
  pub passed : AreUnset flags from number

-- Each flag has a block, and a block that is not set has no flag that is.
pub record AreBlocks (flags blocks : List Bool) : Type 0 where
  pub covers : length flags ≤ 32 * length blocks
  pub none : (number : ℕ) → number < length flags → IsUnset blocks (number / 32) → IsUnset flags number
