-- Marks of points: which of them are loading points.
use Rattle.std.specs.Prelude.{◌≡◌, ◌≤◌, ℕ, Bool, true, false, List, Option, Some, None, slice_get}
use Rattle.fab_syntax.specs.Plain.{PlainModule}
use Rattle.fab_meaning.specs.Points.{Point}
use Rattle.fab_meaning.specs.Loading.{IsLoading}
use Rattle.fab_equations.specs.Equations.{IsPoint}
use Rattle.fab_equations.specs.declared.driver.Driver.{Driver as NumberedDriver}
use Rattle.fab_equations.specs.declared.driver.Driver.TheVariants as by_number

-- whether a point is marked as one that is a loading point
abbrev pub IsRightly : (mark : Bool) → Type 0 → Type 0
IsRightly true Holds = Holds
IsRightly false Holds = ¬ Holds

-- the mark of the point of a number
abbrev pub IsPointMark : List PlainModule → (number : ℕ) → (mark : Bool) → Type 0
IsPointMark text number mark = (p : Point) → IsPoint text number p → IsRightly mark (IsLoading text p)

-- all points from a number on are marked
abbrev pub AreMarkedFrom : List PlainModule → (first : ℕ) → List Bool → Type 0
AreMarkedFrom text first marks = (number : ℕ) (mark : Bool) → first ≤ number → slice_get marks number ≡ Some mark → IsPointMark text number mark

-- the number of the bit in its name, where an expression of its own drives it
abbrev pub bit_driven : NumberedDriver → Option ℕ
bit_driven by_number.Outside = None
bit_driven (by_number.Same other) = None
bit_driven (by_number.Value source) = Some source.bit
bit_driven (by_number.Flop clock next) = Some next.bit
bit_driven (by_number.Hold gate latched) = Some latched.bit
