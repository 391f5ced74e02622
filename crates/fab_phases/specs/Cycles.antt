-- A cycle of the design, by numbers.
use Rattle.std.specs.Prelude.{◌≡◌, ◌≢◌, ℕ, Bool, List, Some, slice_get}
use Rattle.fab_systems_laws.specs.Ternary.{known, unknown}
use Rattle.fab_ternary.specs.declared.Tern.{Tern}
use Rattle.fab_compiled.specs.Leading.{PointTerns, IsMarked}
use Rattle.fab_network.specs.declared.network.Clock.{Clock}
use Rattle.fab_network.specs.declared.network.Clock.TheVariants.{User}
use Rattle.fab_network.specs.declared.network.Drive.TheVariants.{Given, Flop, Same, Value}
use Rattle.fab_network.specs.declared.network.Network.{Network}
use Rattle.fab_network.specs.declared.network.Source.{Source}
use Rattle.fab_network.specs.Passes.{kept_tern, IsListed}
use Rattle.fab_demand.specs.Asked.{Asked, DiffersInOwn}
use Rattle.fab_demand.specs.Demand.{AreRegistersAsked, IsAsked, IsKept}
use Rattle.fab_phases.specs.Lists.{Each, HasOne}
use Rattle.fab_phases.specs.Words.{IsLeft}

-- a number stands in a list
abbrev pub IsIn : List ℕ → (number : ℕ) → Type 0
IsIn numbers number = HasOne numbers (λ other. other ≡ number)

-- no number stands twice
abbrev pub AreOnce : List ℕ → Type 0
AreOnce numbers = (place other number : ℕ) → slice_get numbers place ≡ Some number → slice_get numbers other ≡ Some number → place ≡ other

-- some points have new values, each the one in its place, and all others what they had
pub record IsFed (ins : List ℕ) (values : List Bool) (old new : PointTerns) : Type 0 where
  pub fed : (place point : ℕ) (value : Bool) → slice_get ins place ≡ Some point → slice_get values place ≡ Some value → new point ≡ known value
  pub others : (point : ℕ) → (IsIn ins point → ⊥) → new point ≡ old point

-- What is given in the next cycle: flip-flops of UserCLK and latches have what the tick leaves, and all else but the inputs that vary what it had.
pub record IsTicked (network : Network) (ins : List ℕ) (given t next : PointTerns) : Type 0 where
  pub left : (point : ℕ) → IsLeft network User t point (next point)
  pub inputs : (point : ℕ) → slice_get network.drives.items point ≡ Some Given → (IsIn ins point → ⊥) → next point ≡ given point
  pub flops : (point : ℕ) (clock : Clock) (source : Source) → slice_get network.drives.items point ≡ Some (Flop clock source) → clock ≢ User → next point ≡ given point
  pub copies : (point other : ℕ) → slice_get network.drives.items point ≡ Some (Same other) → next point ≡ given point
  pub values : (point : ℕ) (source : Source) → slice_get network.drives.items point ≡ Some (Value source) → next point ≡ given point

-- All that the outputs need has been asked for, where these inputs varied.
pub record IsAskedFor (network : Network) (ins outs : List ℕ) (demand : Asked) : Type 0 where
  pub base : PointTerns
  pub asked : Asked
  pub is_asked : IsAsked network User base asked
  pub registers : AreRegistersAsked network User asked
  pub differs : DiffersInOwn asked demand
  pub outputs : Each outs (IsMarked asked.marks)
  pub inputs : Each ins (λ point. (slice_get network.drives.items point ≡ Some Given) × (base point ≡ unknown))

-- What is given and held in the abstract is kept, and the points that stand for themselves are given the same.
pub record IsRunningAt (network : Network) (ins outs : List ℕ) (demand : Asked) (given : List Tern) (held : PointTerns) : Type 0 where
  pub asked_for : IsAskedFor network ins outs demand
  pub kept : IsKept network User asked_for.base asked_for.asked.terns asked_for.asked.leads held
  pub own : (point : ℕ) → IsListed asked_for.asked.own point → (IsIn ins point → ⊥) → kept_tern given point ≡ held point
