-- What is given to a machine that starts to run.
use Rattle.std.specs.Prelude.{◌≡◌, ◌≢◌, ◌⊎◌, ℕ, ◌+◌, ◌<◌, ◌≤◌, Bool, List, Some, slice_get}
use Rattle.fab_systems_laws.specs.Ternary.{Tern, no, unknown, known}
use Rattle.fab_compiled.specs.Leading.{PointTerns}
use Rattle.fab_phases.specs.Lists.{Each}
use Rattle.fab_phases.specs.Cycles.{IsIn}
use Rattle.fab_state_points.specs.Standing.{data_width, first_data}
use Rattle.fab_state_points.specs.declared.points.StatePoints.{StatePoints}
use Rattle.fab_sim.specs.Making.{IsNoData}

-- neither an input nor a flip-flop of the state
pub record IsUnnamed (points : StatePoints) (number : ℕ) : Type 0 where
  pub ins : IsIn points.ins.items number → ⊥
  pub ffs : IsIn points.ffs.items number → ⊥

-- points that follow one another have this value, and all others what they had
pub record AreFilled (first width : ℕ) (value : Tern) (old new : PointTerns) : Type 0 where
  pub filled : (bit : ℕ) → bit < width → new (first + bit) ≡ value
  pub others : (number : ℕ) → (number < first) ⊎ (first + width ≤ number) → new number ≡ old number

-- The flip-flops of the state have their values, its inputs are open, those that carry words are 0, and all else has what it had.
pub record IsSetOut (points : StatePoints) (values : List Bool) (old new : PointTerns) : Type 0 where
  pub registers : (place number : ℕ) (value : Bool) → slice_get points.ffs.items place ≡ Some number → slice_get values place ≡ Some value →
      new number ≡ known value
  pub opened : Each points.ins.items (λ number. (IsIn points.ffs.items number → ⊥) → new number ≡ unknown)
  pub strobe : IsUnnamed points points.stream.strobe → IsNoData points.stream.carrier points.stream.strobe → new points.stream.strobe ≡ no
  pub carrier : (bit : ℕ) → bit < data_width points.stream.carrier → IsUnnamed points (first_data points.stream.carrier + bit) →
      new (first_data points.stream.carrier + bit) ≡ no
  pub others : (number : ℕ) → IsUnnamed points number → number ≢ points.stream.strobe → IsNoData points.stream.carrier number → new number ≡ old number
