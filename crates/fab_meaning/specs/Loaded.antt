-- What a loaded text may do on its own: activations in any order, ticks of other clocks than CLK, and changes of inputs that carry no words.
use Rattle.std.specs.Prelude.{◌≡◌, ◌≢◌, ◌⊎◌, ℕ, ◌≤◌, Bool, true, List, length}
use Rattle.std.specs.List.{All}
use Rattle.fab_syntax.specs.Plain.{PlainModule}
use Rattle.fab_systems_laws.specs.System.{AgreeOn}
use Rattle.fab_systems_laws.specs.Steps.{IsBlock, blocks_then}
use Rattle.fab_meaning.specs.Points.{Point, Driver}
use Rattle.fab_meaning.specs.Settled.{Assignment, IsSettledOn}
use Rattle.fab_meaning.specs.Runs.{clock_name}
use Rattle.fab_meaning.specs.Sound.{DrivesOnce}
use Rattle.fab_meaning.specs.Activation.{State, Event, activate, tick, change, IsStep, AreSteps}
use Rattle.fab_meaning.specs.Loading.{IsStream, IsLoading}
use Rattle.fab_meaning.specs.Ranked.{IsIn, AreDrivenBy, AreRanked, IsSteady, IsOffClocks, activates}

abbrev pub IsNoLoad : List PlainModule → Event → Type 0
IsNoLoad text (activate p) = Unit {0}
IsNoLoad text (tick clock) = clock ≢ clock_name
IsNoLoad text (change p value) = IsStream text p → ⊥

pub record IsUserStep (text : List PlainModule) (event : Event) (before after : State) : Type 0 where
  pub step : IsStep text event before after
  pub kind : IsNoLoad text event

-- all loading points show what their drivers give them
abbrev pub IsLoaded : List PlainModule → State → Type 0
IsLoaded text state = IsSettledOn (IsLoading text) text state.now state.held state.now

-- Such steps move no loading point, where the loading points are settled at first.
abbrev pub LoadedPointsStay : Type 0
LoadedPointsStay =
    (text : List PlainModule) → All (DrivesOnce text) text → (events : List Event) (before after : State) → IsLoaded text before →
    AreSteps (IsUserStep text) events before after →
    IsLoaded text after × ((p : Point) → IsLoading text p → after.now p ≡ before.now p)

-- a step of the user that leaves the clocks of a set alone, and the points that are given to it, of which loading points stay anyway
pub record IsUserStepBeside (text : List PlainModule) (has given : Point → Bool) (driver : Point → Driver) (event : Event) (before after : State) : Type 0 where
  pub user : IsUserStep text event before after
  pub clocks : IsOffClocks text has driver event
  pub stay : (p : Point) → given p ≡ true → IsLoading text p ⊎ (after.now p ≡ before.now p)

-- So blocks settle a ranked set of a loaded text, whatever else the user does.
abbrev pub LoadedBlocksSettle : Type 0
LoadedBlocksSettle =
    (text : List PlainModule) → All (DrivesOnce text) text →
    (has given : Point → Bool) (driver : Point → Driver) (rank : Point → ℕ) (ranks : ℕ) →
    AreDrivenBy text has driver → AreRanked text has given driver rank ranks → ((p : Point) → has p ≡ true → IsSteady (driver p)) →
    (before after : State) (inputs settled : Assignment) → IsLoaded text before →
    IsSettledOn (IsIn has) text inputs before.held settled → AgreeOn given before.now settled →
    (blocks : List (List Event)) (more : List Event) → All (IsBlock activates has) blocks → ranks ≤ length blocks →
    AreSteps (IsUserStepBeside text has given driver) (blocks_then blocks more) before after →
    AgreeOn has after.now settled
