-- What is told of bits that follow one another.
use Rattle.std.specs.Prelude.{◌≡◌, ℕ, ◌+◌, ◌<◌, Bool, true, List, length, slice_get, Some}
use Rattle.fab_systems_laws.specs.Ternary.{IsBelow}
use Rattle.fab_systems_laws.specs.Ternary.{Tern as PlainTern}
use Rattle.fab_ternary.specs.declared.Tern.{Tern}
use Rattle.fab_ternary.specs.Terns.{plain_tern}
use Rattle.fab_compiled.specs.declared.parts.Part.{Part}
use Rattle.fab_compiled.specs.Leading.{PointTerns, AreAbove, AgreeOnMarked}

-- What is told of bits by a part, under all assignments that know no less than what is kept: they have what is known of them, and where the part is
-- marked, they depend on marked points alone.
pub record TellsBits (terns : List Tern) (leads : List ℕ) (marks : List Bool) (value : PointTerns → (bit : ℕ) → PlainTern) (part : Part) : Type 0 where
  pub below : (k : ℕ) (bit : Tern) → slice_get part.bits.items k ≡ Some bit → (t : PointTerns) → AreAbove terns leads t → IsBelow (plain_tern bit) (value t (part.low + k))
  pub depends : part.marked ≡ true → (k : ℕ) → k < length part.bits.items → (t u : PointTerns) → AreAbove terns leads t → AreAbove terns leads u →
      AgreeOnMarked marks t u → value t (part.low + k) ≡ value u (part.low + k)
