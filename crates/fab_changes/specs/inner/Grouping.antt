-- How groups come about.
use Rattle.std.specs.Prelude.{◌≡◌, ◌⊎◌, ℕ, ◌+◌, ◌<◌, ◌≤◌, ◌++◌, List, [], ◌∷◌, Some, length, slice_get, slice_index, slice_set}
use Rattle.fab_compiled.specs.declared.tree.Tree.{Tree}
use Rattle.fab_network.specs.declared.network.Network.{Network}
use Rattle.fab_network.specs.declared.network.Source.{Source}
use Rattle.fab_network.specs.Network.{AreBeside}
use Rattle.fab_network.specs.Passes.{IsListed}
use Rattle.fab_changes.specs.declared.fanout.Fanout.{Fanout}
use Rattle.fab_changes.specs.declared.groups.Group.{Group}
use Rattle.fab_changes.specs.Changes.{drive_at, IsBitOf, IsGrouped, IsInGroup, TakesGiven}
use Rattle.fab_changes.specs.Fanout.{IsFresh, IsReader, Lists, WatchesTree}

-- the places below a count whose points take what is given to them
pub record AreTaken (network : Network) (own : List ℕ) (count : ℕ) (taken : List ℕ) : Type 0 where
  pub takes : (place : ℕ) → IsListed taken place → (place < count) × TakesGiven (drive_at network own place)
  pub all : (place : ℕ) → place < count → TakesGiven (drive_at network own place) → IsListed taken place

-- By the number of a point: one more than its place, for the first of these places, and 0 or nothing for all others.
pub record ArePlacedBy (own taken : List ℕ) (count : ℕ) (places : List ℕ) : Type 0 where
  pub found : (k : ℕ) → k < count → slice_get places (slice_index own (slice_index taken k)) ≡ Some (slice_index taken k + 1)
  pub placed : (point place : ℕ) → slice_get places point ≡ Some (place + 1) → IsListed taken place × (slice_index own place ≡ point)

-- Below a count each place is one of an input or a flip-flop, or stands in a group of bits of one expression. Groups follow one another.
pub record AreBitGroups (network : Network) (own : List ℕ) (count : ℕ) (groups : List Group) : Type 0 where
  pub all : (place : ℕ) → place < count → TakesGiven (drive_at network own place) ⊎ IsGrouped groups place
  pub filled : (number : ℕ) (group : Group) → slice_get groups number ≡ Some group → group.begin < group.end
  pub ends : (number : ℕ) (group : Group) → slice_get groups number ≡ Some group → group.end ≤ count
  pub bits : (number : ℕ) (group : Group) → slice_get groups number ≡ Some group → (place : ℕ) → IsInGroup group place → IsBitOf network own group place
  pub rises : (number later : ℕ) (group next : Group) → number < later → slice_get groups number ≡ Some group →
      slice_get groups later ≡ Some next → group.end ≤ next.begin

-- the group of one bit
abbrev pub group_of : (place : ℕ) → Source → Group
group_of place source = record { begin = place; end = place + 1; source = source }

-- a group ends where this bit of its expression stands
pub record IsNext (group : Group) (place : ℕ) (source : Source) : Type 0 where
  pub ends : group.end ≡ place
  pub beside : AreBeside group.source source

-- the last group has one more bit
pub record IsLonger (place : ℕ) (source : Source) (old new : List Group) : Type 0 where
  pub last : ℕ
  pub group : Group
  pub long : length old ≡ last + 1
  pub there : slice_get old last ≡ Some group
  pub next : IsNext group place source
  pub is : new ≡ slice_set old last (record group { end = place + 1 })

abbrev pub HasBit : (place : ℕ) → Source → (old new : List Group) → Type 0
HasBit place source old new = IsLonger place source old new ⊎ (new ≡ old ++ group_of place source ∷ [])

-- ---- what groups read

-- each group below a number watches all points of its expression
abbrev pub AreWatched : Network → (own leads : List ℕ) → Lists → (count : ℕ) → List Group → Type 0
AreWatched network own leads lists count groups =
    (number : ℕ) (group : Group) (tree : Tree) → number < count → slice_get groups number ≡ Some group →
    slice_get network.trees.items group.source.tree ≡ Some tree → WatchesTree own leads lists number group.source.first tree

-- groups that read the point at a place begin behind it, unless it takes what is given to it
abbrev pub IsOrderedAt : Network → (own : List ℕ) → Lists → List Group → (place : ℕ) → Type 0
IsOrderedAt network own lists groups place =
    (number : ℕ) (group : Group) → slice_get groups number ≡ Some group → IsReader lists place number →
    TakesGiven (drive_at network own place) ⊎ (place < group.begin)

-- each of these groups begins behind a place
abbrev pub BeginBehind : (place : ℕ) → (readers : List ℕ) → List Group → Type 0
BeginBehind place readers groups = (number : ℕ) (group : Group) → IsListed readers number → slice_get groups number ≡ Some group → place < group.begin

-- the fan-out of groups that are all stale
pub record IsFanoutOf (network : Network) (own leads : List ℕ) (groups : List Group) (fanout : Fanout) : Type 0 where
  pub watched : AreWatched network own leads fanout.readers.items (length groups) groups
  pub long : length fanout.stale ≡ length groups
  pub stale : (reader : ℕ) → IsFresh fanout.stale reader → ⊥
