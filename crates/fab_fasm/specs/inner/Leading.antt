-- The size of a number by its first digit.
use Rattle.std.specs.Prelude.{◌≡◌, ℕ, ◌+◌, ◌*◌, ◌^◌, ◌<◌, ◌≤◌}

-- A number in a base begins with this digit, and so many follow it. A number that is 0 has the digit 0, and none follows.
pub record BeginsWith (radix digit behind number : ℕ) : Type 0 where
  pub low : digit * radix ^ behind ≤ number
  pub high : number < (digit + 1) * radix ^ behind
  pub none : digit ≡ 0 → behind ≡ 0
