-- What a tick writes to flip-flops and latches, one after the other.
use Rattle.std.specs.Prelude.{◌≡◌, ◌⊎◌, ℕ, ◌<◌, Bool, List, Some, length, slice_get}
use Rattle.fab_systems_laws.specs.Ternary.{Tern as PlainTern}
use Rattle.fab_ternary_laws.specs.Shown.{through}
use Rattle.fab_ternary.specs.declared.Tern.{Tern}
use Rattle.fab_compiled.specs.Leading.{PointTerns, IsMarked}
use Rattle.fab_network.specs.declared.network.Clock.TheVariants.{Loader}
use Rattle.fab_network.specs.declared.network.Drive.TheVariants.{Flop, Hold}
use Rattle.fab_network.specs.declared.network.Network.{Network}
use Rattle.fab_network.specs.declared.network.Source.{Source}
use Rattle.fab_network.specs.Network.{source_tern, IsFitSource}
use Rattle.fab_network.specs.Passes.{kept_tern}
use Rattle.fab_network.specs.Solved.{IsLeast}
use Rattle.fab_demand.specs.Asked.{Asked, IsPossible}
use Rattle.fab_demand.specs.Demand.{Shows}
use Rattle.fab_phases.specs.Lists.{Each, HasOne}
use Rattle.fab_phases.specs.Loading.{AreFlops, AreRuns, IsInRuns, IsLatch, IsRun}
use Rattle.fab_phases.specs.Words.{IsLeft}
use Rattle.fab_phases.specs.declared.loading.LoadedFlop.{LoadedFlop}
use Rattle.fab_phases.specs.declared.loading.Latch.{Latch}
use Rattle.fab_phases.specs.declared.loading.Run.{Run}

-- ---- what fits

abbrev pub IsFit : Network → Source → Type 0
IsFit network source = IsFitSource network.trees.items (length network.drives.items) source

pub record IsFitFlop (network : Network) (flop : LoadedFlop) : Type 0 where
  pub point : flop.point < length network.drives.items
  pub next : IsFit network flop.next

abbrev pub AreFitFlops : Network → List LoadedFlop → Type 0
AreFitFlops network flops = Each flops (IsFitFlop network)

pub record IsFitLatch (network : Network) (latch : Latch) : Type 0 where
  pub point : latch.point < length network.drives.items
  pub latched : IsFit network latch.latched

abbrev pub AreFitLatches : Network → List Latch → Type 0
AreFitLatches network latches = Each latches (IsFitLatch network)

pub record IsFitRun (network : Network) (run : Run) : Type 0 where
  pub gate : IsFit network run.gate
  pub latches : AreFitLatches network run.latches.items

abbrev pub AreFitRuns : Network → List Run → Type 0
AreFitRuns network runs = Each runs (IsFitRun network)

-- ---- what is written

-- A tick over an assignment: what was held before it, and which points it sets.
pub record Tick (network : Network) : Type 0 where
  pub asked : Asked
  pub loads : List Bool
  pub before : PointTerns
  pub t : PointTerns
  pub possible : IsPossible asked t
  -- a flip-flop has what it held
  pub flops : (point : ℕ) (next : Source) → slice_get network.drives.items point ≡ Some (Flop Loader next) → t point ≡ before point
  -- a latch has its data, or what it held before
  pub latches : (point : ℕ) (gate latched : Source) → slice_get network.drives.items point ≡ Some (Hold gate latched) →
      t point ≡ through (source_tern network.trees.items t gate) (source_tern network.trees.items t latched) (before point)

-- a flip-flop of the loader's clock, or a latch
abbrev pub IsStored : Network → (point : ℕ) → Type 0
IsStored network point =
    ((next : Source) × (slice_get network.drives.items point ≡ Some (Flop Loader next)))
    ⊎ ((gate : Source) × (latched : Source) × (slice_get network.drives.items point ≡ Some (Hold gate latched)))

-- a point that is set, with what the tick leaves there
pub record IsSet (network : Network) (tick : Tick network) (point : ℕ) (held : PlainTern) : Type 0 where
  pub marked : IsMarked tick.loads point
  pub stored : IsStored network point
  pub left : IsLeft network Loader tick.t point held

-- what points hold on the way: what they held before, or what the tick leaves
abbrev pub AreOnWay : (network : Network) → Tick network → List Tern → Type 0
AreOnWay network tick given = (point : ℕ) → (kept_tern given point ≡ tick.before point) ⊎ IsSet network tick point (kept_tern given point)

-- points that were left with their values stay so, and these points are now
pub record LeavesPoints (network : Network) (tick : Tick network) (Has : ℕ → Type 0) (old new : List Tern) : Type 0 where
  pub on_way : AreOnWay network tick new
  pub stay : (point : ℕ) → IsLeft network Loader tick.t point (kept_tern old point) → IsLeft network Loader tick.t point (kept_tern new point)
  pub left : (point : ℕ) → Has point → IsLeft network Loader tick.t point (kept_tern new point)

-- all points but these have what they had
abbrev pub WritesOnly : (Written : ℕ → Type 0) → (old new : List Tern) → Type 0
WritesOnly Written old new = (point : ℕ) → Written point ⊎ (kept_tern new point ≡ kept_tern old point)

abbrev pub WritesFlops : List LoadedFlop → (old new : List Tern) → Type 0
WritesFlops flops old new = WritesOnly (λ point. HasOne flops (λ flop. flop.point ≡ point)) old new

abbrev pub WritesLatches : List Latch → (old new : List Tern) → Type 0
WritesLatches latches old new = WritesOnly (λ point. HasOne latches (λ latch. latch.point ≡ point)) old new

-- What each step does: for each tick whose values the demand shows.
abbrev pub LeavesFlops : (network : Network) → List LoadedFlop → (demand : Asked) → (old new : List Tern) → Type 0
LeavesFlops network flops demand old new =
    (tick : Tick network) → Shows network tick.asked demand tick.t → AreFlops network tick.asked tick.loads flops → AreOnWay network tick old →
    LeavesPoints network tick (λ point. HasOne flops (λ flop. flop.point ≡ point)) old new

abbrev pub LeavesLatches : (network : Network) → (gate : PlainTern) → List Latch → (demand : Asked) → (old new : List Tern) → Type 0
LeavesLatches network gate latches demand old new =
    (tick : Tick network) → Shows network tick.asked demand tick.t → (opens : Source) → source_tern network.trees.items tick.t opens ≡ gate →
    Each latches (IsLatch network tick.asked tick.loads opens) → AreOnWay network tick old →
    LeavesPoints network tick (λ point. HasOne latches (λ latch. latch.point ≡ point)) old new

abbrev pub LeavesRun : (network : Network) → Run → (demand : Asked) → (old new : List Tern) → Type 0
LeavesRun network run demand old new =
    (tick : Tick network) → Shows network tick.asked demand tick.t → IsRun network tick.asked tick.loads run → AreOnWay network tick old →
    LeavesPoints network tick (λ point. HasOne run.latches.items (λ latch. latch.point ≡ point)) old new

abbrev pub LeavesRuns : (network : Network) → List Run → (demand : Asked) → (old new : List Tern) → Type 0
LeavesRuns network runs demand old new =
    (tick : Tick network) → Shows network tick.asked demand tick.t → AreRuns network tick.asked tick.loads runs → AreOnWay network tick old →
    LeavesPoints network tick (IsInRuns runs) old new

-- ---- the whole tick

-- After a tick of the loader's clock all that loading sets has what the least solution leaves there.
pub record IsLoadTick (network : Network) (loads : List Bool) (old new : PointTerns) : Type 0 where
  pub t : PointTerns
  pub least : IsLeast network.trees.items network.drives.items old t
  pub loaded : (point : ℕ) → IsMarked loads point → IsLeft network Loader t point (new point)
  pub others : (point : ℕ) → (IsMarked loads point → ⊥) → new point ≡ old point
