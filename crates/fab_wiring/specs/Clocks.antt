-- Where the two clocks stand among the points of a text.
use Rattle.std.specs.Prelude.{ℕ, List, [], Option, None, Some}
use Rattle.fab_syntax.specs.Plain.{PlainModule}
use Rattle.fab_meaning.specs.Points.{point}
use Rattle.fab_meaning.specs.Runs.{clock_name, user_clock_name}
use Rattle.fab_equations.specs.Equations.{IsPoint}
use Rattle.fab_wiring.specs.declared.clocks.Clocks.{Clocks}

-- the point of an input of the top, or none if there is no such point
abbrev pub IsClockAt : List PlainModule → (name : List ℕ) → Option ℕ → Type 0
IsClockAt text name None = (number : ℕ) → IsPoint text number (point [] name 0) → ⊥
IsClockAt text name (Some number) = IsPoint text number (point [] name 0)

pub record AreClocks (text : List PlainModule) (clocks : Clocks) : Type 0 where
  pub loader : IsClockAt text clock_name clocks.loader
  pub user : IsClockAt text user_clock_name clocks.user
