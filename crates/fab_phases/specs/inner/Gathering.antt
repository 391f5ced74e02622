-- Latches before they stand in runs.
use Rattle.std.specs.Prelude.{◌≡◌, ◌≢◌, ℕ, ◌<◌, ◌≤◌, Bool, List, Option, None, Some, length, slice_get}
use Rattle.fab_compiled.specs.Leading.{IsMarked}
use Rattle.fab_network.specs.declared.network.Clock.{Clock}
use Rattle.fab_network.specs.declared.network.Clock.TheVariants.{Loader}
use Rattle.fab_network.specs.declared.network.Drive.TheVariants.{Flop, Hold}
use Rattle.fab_network.specs.declared.network.Network.{Network}
use Rattle.fab_network.specs.declared.network.Source.{Source}
use Rattle.fab_demand.specs.Asked.{Asked}
use Rattle.fab_phases.specs.Lists.{Each, HasOne}
use Rattle.fab_phases.specs.Loading.{GoTogether, IsInRuns, IsReady}
use Rattle.fab_phases.specs.declared.loading.LoadedFlop.{LoadedFlop}
use Rattle.fab_phases.specs.declared.loading.Run.{Run}
use Rattle.fab_phases.specs.declared.gathering.GatedLatch.{GatedLatch}

-- the flip-flop that is a point, if loading sets it
abbrev pub IsFlopAt : Network → (loads : List Bool) → (point : ℕ) → Option LoadedFlop → Type 0
IsFlopAt network loads point None = (next : Source) → IsMarked loads point → slice_get network.drives.items point ≡ Some (Flop Loader next) → ⊥
IsFlopAt network loads point (Some flop) =
    (flop.point ≡ point) × IsMarked loads point × (slice_get network.drives.items point ≡ Some (Flop Loader flop.next))

-- a flip-flop, if its clock is the loader's
abbrev pub IsLoaderFlop : Clock → (point : ℕ) → (next : Source) → Option LoadedFlop → Type 0
IsLoaderFlop clock point next None = clock ≢ Loader
IsLoaderFlop clock point next (Some flop) = (clock ≡ Loader) × (flop.point ≡ point) × (flop.next ≡ next)

-- the latch that is a point, if loading sets it
abbrev pub IsGatedAt : Network → (loads : List Bool) → (point : ℕ) → Option GatedLatch → Type 0
IsGatedAt network loads point None = (gate latched : Source) → IsMarked loads point → slice_get network.drives.items point ≡ Some (Hold gate latched) → ⊥
IsGatedAt network loads point (Some gated) =
    (gated.latch.point ≡ point) × IsMarked loads point × (slice_get network.drives.items point ≡ Some (Hold gated.gate gated.latch.latched))

-- a latch that loading sets, and all that it needs has been asked for
pub record IsGated (network : Network) (asked : Asked) (loads : List Bool) (gated : GatedLatch) : Type 0 where
  pub marked : IsMarked loads gated.latch.point
  pub is : slice_get network.drives.items gated.latch.point ≡ Some (Hold gated.gate gated.latch.latched)
  pub gate : IsReady network asked gated.gate
  pub latched : IsReady network asked gated.latch.latched

abbrev pub AreGated : Network → Asked → (loads : List Bool) → List GatedLatch → Type 0
AreGated network asked loads latches = Each latches (IsGated network asked loads)

-- all latches that loading sets, below a number
abbrev pub HasGated : Network → (loads : List Bool) → (count : ℕ) → List GatedLatch → Type 0
HasGated network loads count latches =
    (point : ℕ) (gate latched : Source) → point < count → IsMarked loads point → slice_get network.drives.items point ≡ Some (Hold gate latched) →
    HasOne latches (λ gated. gated.latch.point ≡ point)

-- ---- runs

-- so many at the front open together with a gate, and the first one does if its gate is this one
pub record IsTogetherUpTo (network : Network) (asked : Asked) (gate : Source) (latches : List GatedLatch) (count : ℕ) : Type 0 where
  pub within : count ≤ length latches
  pub front : (place : ℕ) (gated : GatedLatch) → place < count → slice_get latches place ≡ Some gated → GoTogether network asked gated.gate gate
  pub first : (gated : GatedLatch) → slice_get latches 0 ≡ Some gated → gated.gate ≡ gate → 0 < count

-- each of these latches stands in a run
abbrev pub AreInRuns : List Run → List GatedLatch → Type 0
AreInRuns runs latches = Each latches (λ gated. IsInRuns runs gated.latch.point)
