-- Two lists in one.
use Rattle.std.specs.Prelude.{◌≡◌, ℕ, ◌+◌, List, ◌++◌, length}
use Rattle.fab_systems_laws.specs.Ternary.{Tern as PlainTern}

-- two lists that stand at the end of another, the first from a place on and the second from the middle on
pub record AreLast (low middle : ℕ) (before left right all : List PlainTern) : Type 0 where
  pub is : all ≡ before ++ (left ++ right)
  pub first : length before ≡ low
  pub second : low + length left ≡ middle
