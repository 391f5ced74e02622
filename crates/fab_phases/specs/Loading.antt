-- What loading sets, by numbers: flip-flops, and latches in runs whose gates open together.
use Rattle.std.specs.Prelude.{◌≡◌, ℕ, zero, suc, ◌<◌, Bool, List, [], Some, length, slice_get}
use Rattle.std.specs.Option.{ForSome, option_map_or}
use Rattle.fab_compiled.specs.Leading.{PointTerns, IsMarked}
use Rattle.fab_network.specs.declared.network.Clock.TheVariants.{Loader}
use Rattle.fab_network.specs.declared.network.Drive.TheVariants.{Flop, Given, Hold}
use Rattle.fab_network.specs.declared.network.Network.{Network}
use Rattle.fab_network.specs.declared.network.Source.{Source}
use Rattle.fab_network.specs.Network.{source_tern, IsFitSource}
use Rattle.fab_network.specs.Solved.{IsLeast}
use Rattle.fab_demand.specs.Asked.{Asked, IsPossible, IsSourceAsked}
use Rattle.fab_phases.specs.Lists.{Each, HasOne}
use Rattle.fab_phases.specs.declared.loading.LoadedFlop.{LoadedFlop}
use Rattle.fab_phases.specs.declared.loading.Latch.{Latch}
use Rattle.fab_phases.specs.declared.loading.Run.{Run}
use Rattle.fab_phases.specs.declared.loading.Loading.{Loading}

-- Whatever is given, there is a least solution.
abbrev pub IsSolvable : Network → Type 0
IsSolvable network = (given : PointTerns) → (t : PointTerns) × IsLeast network.trees.items network.drives.items given t

-- a source of the network, and all that it needs has been asked for
pub record IsReady (network : Network) (asked : Asked) (source : Source) : Type 0 where
  pub fit : IsFitSource network.trees.items (length network.drives.items) source
  pub asked_for : IsSourceAsked network.trees.items asked source

-- two sources that have the same in each assignment that all that is known leaves possible
abbrev pub GoTogether : Network → Asked → (one other : Source) → Type 0
GoTogether network asked one other = (t : PointTerns) → IsPossible asked t → source_tern network.trees.items t one ≡ source_tern network.trees.items t other

-- ---- flip-flops

pub record IsLoadedFlop (network : Network) (asked : Asked) (loads : List Bool) (flop : LoadedFlop) : Type 0 where
  pub marked : IsMarked loads flop.point
  pub is : slice_get network.drives.items flop.point ≡ Some (Flop Loader flop.next)
  pub ready : IsReady network asked flop.next

abbrev pub AreFlops : Network → Asked → (loads : List Bool) → List LoadedFlop → Type 0
AreFlops network asked loads flops = Each flops (IsLoadedFlop network asked loads)

-- all flip-flops of the loader's clock that loading sets, below a number
abbrev pub HasFlops : Network → (loads : List Bool) → (count : ℕ) → List LoadedFlop → Type 0
HasFlops network loads count flops =
    (point : ℕ) (next : Source) → point < count → IsMarked loads point → slice_get network.drives.items point ≡ Some (Flop Loader next) →
    HasOne flops (λ flop. flop.point ≡ point)

-- ---- latches

-- a latch, whose gate opens together with this one
pub record IsLatch (network : Network) (asked : Asked) (loads : List Bool) (gate : Source) (latch : Latch) : Type 0 where
  pub own_gate : Source
  pub marked : IsMarked loads latch.point
  pub is : slice_get network.drives.items latch.point ≡ Some (Hold own_gate latch.latched)
  pub ready : IsReady network asked latch.latched
  pub together : GoTogether network asked own_gate gate

pub record IsRun (network : Network) (asked : Asked) (loads : List Bool) (run : Run) : Type 0 where
  pub ready : IsReady network asked run.gate
  pub latches : Each run.latches.items (IsLatch network asked loads run.gate)

abbrev pub AreRuns : Network → Asked → (loads : List Bool) → List Run → Type 0
AreRuns network asked loads runs = Each runs (IsRun network asked loads)

-- a latch stands in one of the runs
abbrev pub IsInRuns : List Run → (point : ℕ) → Type 0
IsInRuns runs point = HasOne runs (λ (run : Run). HasOne run.latches.items (λ (latch : Latch). latch.point ≡ point))

-- all latches that loading sets, below a number
abbrev pub HasLatches : Network → (loads : List Bool) → (count : ℕ) → List Run → Type 0
HasLatches network loads count runs =
    (point : ℕ) (gate latched : Source) → point < count → IsMarked loads point → slice_get network.drives.items point ≡ Some (Hold gate latched) → IsInRuns runs point

-- ---- a chain

-- the point of the flip-flop at a place
abbrev pub point_at : List LoadedFlop → (place : ℕ) → ℕ
point_at flops place = option_map_or (λ (flop : LoadedFlop). flop.point) (slice_get flops place) 0

-- the point before a place: that of the flip-flop before it, and before the first one this
abbrev pub before_at : (source : ℕ) → List LoadedFlop → (place : ℕ) → ℕ
before_at source flops zero = source
before_at source flops (suc place) = point_at flops place

-- what a flip-flop takes is what a point has
abbrev pub Takes : Network → Asked → (next : Source) → (before : ℕ) → Type 0
Takes network asked next before = (t : PointTerns) → IsPossible asked t → source_tern network.trees.items t next ≡ t before

-- the points of flip-flops rise
abbrev pub Rises : List LoadedFlop → Type 0
Rises flops = (place : ℕ) (flop next : LoadedFlop) → slice_get flops place ≡ Some flop → slice_get flops (suc place) ≡ Some next → flop.point < next.point

-- Each flip-flop takes what the one before it has, and the first what this point has.
pub record IsInChain (network : Network) (asked : Asked) (source : ℕ) (flops : List LoadedFlop) : Type 0 where
  pub takes : (place : ℕ) (flop : LoadedFlop) → slice_get flops place ≡ Some flop → Takes network asked flop.next (before_at source flops place)
  pub rises : Rises flops

-- All that loading sets is one chain behind an input.
pub record IsChain (network : Network) (asked : Asked) (source : ℕ) (flops : List LoadedFlop) (runs : List Run) : Type 0 where
  pub input : slice_get network.drives.items source ≡ Some Given
  pub alone : runs ≡ []
  pub chain : IsInChain network asked source flops

-- ---- both

pub record AreLoading (network : Network) (asked : Asked) (loads : List Bool) (loading : Loading) : Type 0 where
  pub flops : AreFlops network asked loads loading.flops.items
  pub has_flops : HasFlops network loads (length network.drives.items) loading.flops.items
  pub runs : AreRuns network asked loads loading.runs.items
  pub has_latches : HasLatches network loads (length network.drives.items) loading.runs.items
  pub chain : ForSome loading.chain (λ source. IsChain network asked source loading.flops.items loading.runs.items)
