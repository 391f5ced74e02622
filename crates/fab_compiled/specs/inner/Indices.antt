-- The numbers of indices.
use Rattle.std.specs.Prelude.{◌≡◌, ℕ, Bool, List, ◌++◌, map}
use Rattle.fab_bits.specs.Bits.{number}
use Rattle.fab_systems_laws.specs.Ternary.{known}
use Rattle.fab_systems_laws.specs.Ternary.{Tern as PlainTern}

-- All these bits are known, and they are those of a number below those of another.
abbrev pub IsNumberBelow : List PlainTern → (above whole : ℕ) → Type 0
IsNumberBelow ts above whole = (bits : List Bool) × (ts ≡ map known bits) × ((ups : List Bool) → above ≡ number ups → whole ≡ number (bits ++ ups))
