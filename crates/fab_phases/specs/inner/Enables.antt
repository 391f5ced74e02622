-- What lets flip-flops and latches take new values, and what is watched of it.
use Rattle.std.specs.Prelude.{◌≡◌, ℕ, ◌+◌, ◌-◌, ◌<◌, ◌≤◌, ◌++◌, List, Option, None, Some, length, map, slice_get}
use Rattle.fab_systems_laws.specs.Ternary.{no, yes, unknown}
use Rattle.fab_systems_laws.specs.Ternary.{Tern as PlainTern}
use Rattle.fab_ternary.specs.declared.Tern.{Tern}
use Rattle.fab_ternary.specs.declared.Tern.TheVariants.{No}
use Rattle.fab_ternary.specs.Terns.{plain_tern}
use Rattle.fab_compiled.specs.declared.tree.Tree.{Tree, Cond'}
use Rattle.fab_compiled.specs.Leading.{PointTerns, bit_under, IsMarked}
use Rattle.fab_compiled.specs.Terns.{seen}
use Rattle.fab_network.specs.declared.network.Network.{Network}
use Rattle.fab_network.specs.declared.network.Source.{Source}
use Rattle.fab_network.specs.Network.{source_tern, AreBeside}
use Rattle.fab_demand.specs.Asked.{Asked, DiffersInOwn}
use Rattle.fab_demand.specs.Demand.{Shows}
use Rattle.fab_changes.specs.declared.fanout.Fanout.{Fanout}
use Rattle.fab_changes.specs.Changes.{AreChangesOf, HasGiven}
use Rattle.fab_changes.specs.Fanout.{IsFresh, Lists, WatchesTree}
use Rattle.fab_phases.specs.Lists.{Each, HasOne}
use Rattle.fab_phases.specs.Loading.{AreFlops}
use Rattle.fab_phases.specs.inner.Ticks.{AreFitFlops, AreOnWay, IsFit, LeavesPoints, Tick}
use Rattle.fab_phases.specs.declared.enables.Enable.{Enable}
use Rattle.fab_phases.specs.declared.enables.Enable.TheVariants.{Always, Gate, Test}
use Rattle.fab_phases.specs.declared.flop_groups.FlopGroup.{FlopGroup}
use Rattle.fab_phases.specs.declared.loading.LoadedFlop.{LoadedFlop}
use Rattle.fab_phases.specs.declared.loading.Loading.{Loading}
use Rattle.fab_phases.specs.declared.loading.Run.{Run}
use Rattle.fab_phases.specs.declared.watched.Watching.{Watching}

-- ---- enables

-- the test of a choice
abbrev pub test_tern : Option Tree → PointTerns → (first : ℕ) → PlainTern
test_tern None t first = unknown
test_tern (Some (Cond' p c q a r b)) t first = bit_under t first c 0
test_tern (Some tree) t first = unknown

abbrev pub enable_tern : List Tree → PointTerns → Enable → PlainTern
enable_tern trees t Always = yes
enable_tern trees t (Test source) = test_tern (slice_get trees source.tree) t source.first
enable_tern trees t (Gate source) = source_tern trees t source

abbrev pub IsFitEnable : Network → Enable → Type 0
IsFitEnable network Always = Unit {0}
IsFitEnable network (Test source) = IsFit network source
IsFitEnable network (Gate source) = IsFit network source

-- the value of the enable of this number by what is kept now
abbrev pub IsEnabled : Network → (demand : Asked) → List Enable → (number : ℕ) → Tern → Type 0
IsEnabled network demand enables number value =
    (enable : Enable) → slice_get enables number ≡ Some enable → plain_tern value ≡ enable_tern network.trees.items (seen demand.terns demand.leads) enable

-- the enables from one number up to another are 0
abbrev pub AreClosed : Network → (demand : Asked) → List Enable → (from end : ℕ) → Type 0
AreClosed network demand enables from end = (number : ℕ) → from ≤ number → number < end → IsEnabled network demand enables number No

-- the first enable from one number up to another that may be something else
pub record IsNextEnabled (network : Network) (demand : Asked) (enables : List Enable) (from end number : ℕ) (found : Tern) : Type 0 where
  pub low : from ≤ number
  pub within : number < end
  pub passed : AreClosed network demand enables from number
  pub value : IsEnabled network demand enables number found

-- ---- what is watched of them

-- all points of the test of a choice
abbrev pub WatchesTest : (own leads : List ℕ) → Lists → (number first : ℕ) → Option Tree → Type 0
WatchesTest own leads lists number first None = Unit {0}
WatchesTest own leads lists number first (Some (Cond' p c q a r b)) = WatchesTree own leads lists number first c
WatchesTest own leads lists number first (Some tree) = Unit {0}

-- all points of an expression
abbrev pub WatchesWhole : (own leads : List ℕ) → Lists → (number first : ℕ) → Option Tree → Type 0
WatchesWhole own leads lists number first None = Unit {0}
WatchesWhole own leads lists number first (Some tree) = WatchesTree own leads lists number first tree

-- all points that an enable reads
abbrev pub Watches : Network → (own leads : List ℕ) → Lists → (number : ℕ) → Enable → Type 0
Watches network own leads lists number Always = Unit {0}
Watches network own leads lists number (Test source) = WatchesTest own leads lists number source.first (slice_get network.trees.items source.tree)
Watches network own leads lists number (Gate source) = WatchesWhole own leads lists number source.first (slice_get network.trees.items source.tree)

-- Each enable is watched under its number.
abbrev pub AreWatched : Network → (own leads : List ℕ) → List Enable → Lists → Type 0
AreWatched network own leads enables lists =
    (number : ℕ) (enable : Enable) → slice_get enables number ≡ Some enable → Watches network own leads lists number enable

-- All are stale at first.
pub record AreNewlyWatched (network : Network) (own leads : List ℕ) (enables : List Enable) (watches : Fanout) : Type 0 where
  pub long : length watches.stale ≡ length enables
  pub watched : AreWatched network own leads enables watches.readers.items
  pub stale : (number : ℕ) → IsFresh watches.stale number → ⊥

-- Each enable is watched, and is 0 unless it is stale.
pub record AreEnables (network : Network) (demand : Asked) (enables : List Enable) (watches : Fanout) : Type 0 where
  pub fit : Each enables (IsFitEnable network)
  pub long : length watches.stale ≡ length enables
  pub watched : AreWatched network demand.own demand.leads enables watches.readers.items
  pub closed : (number : ℕ) (enable : Enable) → slice_get enables number ≡ Some enable → IsFresh watches.stale number →
      enable_tern network.trees.items (seen demand.terns demand.leads) enable ≡ no

-- ---- groups

-- so many at the front are bits of the same expression as this one, and the first one is if it is this one
pub record AreBesideUpTo (next : Source) (flops : List LoadedFlop) (count : ℕ) : Type 0 where
  pub within : count ≤ length flops
  pub front : (place : ℕ) (flop : LoadedFlop) → place < count → slice_get flops place ≡ Some flop → AreBeside flop.next next
  pub first : (flop : LoadedFlop) → slice_get flops 0 ≡ Some flop → flop.next ≡ next → 0 < count

-- a point that has been asked for is led to this one
pub record IsLedBack (asked : Asked) (back point : ℕ) : Type 0 where
  pub marked : IsMarked asked.marks back
  pub led : slice_get asked.leads back ≡ Some point

-- a flip-flop's bit of an expression is a point that is led to the flip-flop
pub record HasBack (asked : Asked) (tree : Tree) (flop : LoadedFlop) : Type 0 where
  pub back : ℕ
  pub led : IsLedBack asked back flop.point
  pub is : (t : PointTerns) → bit_under t flop.next.first tree flop.next.bit ≡ t back

-- what a flip-flop takes is what a point has that is led to it
pub record TakesOwn (network : Network) (asked : Asked) (flop : LoadedFlop) (t : PointTerns) : Type 0 where
  pub back : ℕ
  pub led : IsLedBack asked back flop.point
  pub is : source_tern network.trees.items t flop.next ≡ t back

-- A flip-flop takes what it has where this enable is 0.
abbrev pub Holds : Network → Asked → Enable → LoadedFlop → Type 0
Holds network asked enable flop = (t : PointTerns) → enable_tern network.trees.items t enable ≡ no → TakesOwn network asked flop t

pub record IsHolding (network : Network) (asked : Asked) (group : FlopGroup) : Type 0 where
  pub enable : IsFitEnable network group.enable
  pub flops : AreFitFlops network group.flops.items
  pub holds : Each group.flops.items (Holds network asked group.enable)

abbrev pub AreHolding : Network → Asked → List FlopGroup → Type 0
AreHolding network asked groups = Each groups (IsHolding network asked)

-- a group of these flip-flops
pub record IsFlopGroupOf (network : Network) (asked : Asked) (flops : List LoadedFlop) (group : FlopGroup) : Type 0 where
  pub enable : IsFitEnable network group.enable
  pub is : group.flops.items ≡ flops
  pub holds : Each flops (Holds network asked group.enable)

-- each of these flip-flops stands among those
abbrev pub AreAmong : (these those : List LoadedFlop) → Type 0
AreAmong these those = Each these (λ flop. HasOne those (λ other. other ≡ flop))

-- groups of some of these flip-flops
pub record AreFlopGroups (network : Network) (asked : Asked) (flops : List LoadedFlop) (groups : List FlopGroup) : Type 0 where
  pub holding : AreHolding network asked groups
  pub among : Each groups (λ (group : FlopGroup). AreAmong group.flops.items flops)

-- a flip-flop stands in one of the groups
abbrev pub IsInFlopGroups : List FlopGroup → (point : ℕ) → Type 0
IsInFlopGroups groups point = HasOne groups (λ (group : FlopGroup). HasOne group.flops.items (λ (flop : LoadedFlop). flop.point ≡ point))

abbrev pub AreInFlopGroups : List FlopGroup → List LoadedFlop → Type 0
AreInFlopGroups groups flops = Each flops (λ flop. IsInFlopGroups groups flop.point)

-- ---- the enables of both

-- the first enables are those of groups
pub record EnableGroups (groups : List FlopGroup) (enables : List Enable) : Type 0 where
  pub room : length groups ≤ length enables
  pub each : (place : ℕ) (group : FlopGroup) → slice_get groups place ≡ Some group → slice_get enables place ≡ Some group.enable

-- the last enables are those of runs
pub record EnableRuns (runs : List Run) (enables : List Enable) : Type 0 where
  pub room : length runs ≤ length enables
  pub gates : (place : ℕ) (run : Run) → slice_get runs place ≡ Some run → slice_get enables (length enables - length runs + place) ≡ Some (Gate run.gate)

-- the enables of groups, and behind them those of runs
abbrev pub AreEnablesOf : List FlopGroup → List Run → List Enable → Type 0
AreEnablesOf groups runs enables = enables ≡ map (λ (group : FlopGroup). group.enable) groups ++ map (λ (run : Run). Gate run.gate) runs

-- ---- what is kept from word to word

pub record IsWatching (network : Network) (loading : Loading) (demand : Asked) (given : List Tern) (watching : Watching) : Type 0 where
  pub groups : AreFlopGroups network demand loading.flops.items watching.groups.items
  pub all : AreInFlopGroups watching.groups.items loading.flops.items
  pub of : AreEnablesOf watching.groups.items loading.runs.items watching.enables.items
  pub changes : AreChangesOf network demand watching.changes
  pub noted : HasGiven demand.terns given watching.changes
  pub enables : AreEnables network demand watching.enables.items watching.watches

-- ---- what is written

-- What each step does: for each tick whose values the demand shows.
abbrev pub LeavesGroup : (network : Network) → FlopGroup → (demand : Asked) → (old new : List Tern) → Type 0
LeavesGroup network group demand old new =
    (tick : Tick network) → Shows network tick.asked demand tick.t → DiffersInOwn tick.asked demand → AreFlops network tick.asked tick.loads group.flops.items →
    AreOnWay network tick old → LeavesPoints network tick (λ point. HasOne group.flops.items (λ flop. flop.point ≡ point)) old new

abbrev pub LeavesGroups : (network : Network) → List FlopGroup → (demand : Asked) → (old new : List Tern) → Type 0
LeavesGroups network groups demand old new =
    (tick : Tick network) → Shows network tick.asked demand tick.t → DiffersInOwn tick.asked demand →
    Each groups (λ (group : FlopGroup). AreFlops network tick.asked tick.loads group.flops.items) → AreOnWay network tick old →
    LeavesPoints network tick (IsInFlopGroups groups) old new

-- the same of all flip-flops
abbrev pub LeavesFlopsOf : (network : Network) → List LoadedFlop → (demand : Asked) → (old new : List Tern) → Type 0
LeavesFlopsOf network flops demand old new =
    (tick : Tick network) → Shows network tick.asked demand tick.t → DiffersInOwn tick.asked demand → AreFlops network tick.asked tick.loads flops →
    AreOnWay network tick old → LeavesPoints network tick (λ point. HasOne flops (λ flop. flop.point ≡ point)) old new
