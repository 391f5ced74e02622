-- Groups of points that are looked at together, each when something has changed that it reads.
use Rattle.std.specs.Prelude.{◌≡◌, ◌⊎◌, ℕ, ◌+◌, ◌<◌, ◌≤◌, Bool, true, false, List, Option, None, Some, length, slice_get, slice_index}
use Rattle.fab_ternary.specs.declared.Tern.{Tern}
use Rattle.fab_compiled.specs.declared.tree.Tree.{Tree}
use Rattle.fab_compiled.specs.Terns.{seen}
use Rattle.fab_network.specs.declared.network.Drive.{Drive}
use Rattle.fab_network.specs.declared.network.Drive.TheVariants.{Given, Flop, Same, Value, Hold}
use Rattle.fab_network.specs.declared.network.Network.{Network}
use Rattle.fab_network.specs.declared.network.Source.{Source}
use Rattle.fab_network.specs.Network.{source_tern}
use Rattle.fab_network.specs.Passes.{kept_tern, AreOwn, IsListed}
use Rattle.fab_demand.specs.Asked.{Asked}
use Rattle.fab_changes.specs.declared.changes.Changes.{Changes}
use Rattle.fab_changes.specs.declared.groups.Group.{Group}
use Rattle.fab_changes.specs.declared.fanout.Fanout.{Fanout}
use Rattle.fab_changes.specs.Fanout.{IsFresh, IsOnce, IsReader, IsWatched, Lists, WatchesTree}

-- the drive of the point at a place
abbrev pub drive_at : Network → (own : List ℕ) → (place : ℕ) → Option Drive
drive_at network own place = slice_get network.drives.items (slice_index own place)

-- an input or a flip-flop: it takes what is given to it
abbrev pub takes_given : Option Drive → Bool
takes_given None = false
takes_given (Some Given) = true
takes_given (Some (Flop clock next)) = true
takes_given (Some (Same other)) = false
takes_given (Some (Value source)) = false
takes_given (Some (Hold gate latched)) = false

abbrev pub TakesGiven : Option Drive → Type 0
TakesGiven drive = takes_given drive ≡ true

-- ---- groups

pub record IsInGroup (group : Group) (place : ℕ) : Type 0 where
  pub low : group.begin ≤ place
  pub below : place < group.end

-- the point at a place is a bit of the expression of a group
pub record IsBitOf (network : Network) (own : List ℕ) (group : Group) (place : ℕ) : Type 0 where
  pub source : Source
  pub drive : drive_at network own place ≡ Some (Value source)
  pub tree : source.tree ≡ group.source.tree
  pub first : source.first ≡ group.source.first

-- Neighbours that are bits of one expression. The group watches all points of the expression.
pub record IsGroup (network : Network) (own leads : List ℕ) (lists : Lists) (number : ℕ) (group : Group) : Type 0 where
  pub ends : group.end ≤ length own
  pub bits : (place : ℕ) → IsInGroup group place → IsBitOf network own group place
  pub watched : (tree : Tree) → slice_get network.trees.items group.source.tree ≡ Some tree → WatchesTree own leads lists number group.source.first tree

-- a place stands in one of the groups
pub record IsGrouped (groups : List Group) (place : ℕ) : Type 0 where
  pub number : ℕ
  pub group : Group
  pub there : slice_get groups number ≡ Some group
  pub inside : IsInGroup group place

-- Each point takes what is given to it or stands in a group. Groups follow one another, and read what takes what is given or stands before them.
pub record AreGroups (network : Network) (own leads : List ℕ) (lists : Lists) (taken : List ℕ) (groups : List Group) : Type 0 where
  pub unled : AreOwn own leads
  pub once : IsOnce own
  pub takes : (place : ℕ) → IsListed taken place → (place < length own) × TakesGiven (drive_at network own place)
  pub all : (place : ℕ) → place < length own → IsListed taken place ⊎ IsGrouped groups place
  pub each : (number : ℕ) (group : Group) → slice_get groups number ≡ Some group → IsGroup network own leads lists number group
  pub rises : (number later : ℕ) (group next : Group) → number < later → slice_get groups number ≡ Some group →
      slice_get groups later ≡ Some next → group.end ≤ next.begin
  pub ordered : (number : ℕ) (group : Group) → slice_get groups number ≡ Some group → (place : ℕ) → place < length own →
      IsReader lists place number → TakesGiven (drive_at network own place) ⊎ (place < group.begin)

-- ---- what is given

-- Inputs and flip-flops are found by their points, and those that wait are among them.
pub record AreWaiting (own : List ℕ) (changes : Changes) : Type 0 where
  pub found : (place : ℕ) → IsListed changes.taken.items place → slice_get changes.places.items (slice_index own place) ≡ Some (place + 1)
  pub placed : (point place : ℕ) → slice_get changes.places.items point ≡ Some (place + 1) → IsListed changes.taken.items place × (slice_index own place ≡ point)
  pub among : (place : ℕ) → IsListed changes.waiting.items place → IsListed changes.taken.items place

-- This point, if it is an input or a flip-flop that stands for itself, is taken when changes are settled next.
abbrev pub WaitsAt : Changes → (point : ℕ) → Type 0
WaitsAt changes point =
    (changes.all_wait ≡ true) ⊎ ((place : ℕ) → slice_get changes.places.items point ≡ Some (place + 1) → IsListed changes.waiting.items place)

-- Each point has what is given to it, unless it waits.
abbrev pub HasGiven : (terns given : List Tern) → Changes → Type 0
HasGiven terns given changes = (point : ℕ) → WaitsAt changes point ⊎ (kept_tern terns point ≡ kept_tern given point)

-- ---- values

-- the point at a place has what its expression has
abbrev pub IsRight : Network → Asked → (place : ℕ) → Type 0
IsRight network asked place =
    (source : Source) → drive_at network asked.own place ≡ Some (Value source) →
    kept_tern asked.terns (slice_index asked.own place) ≡ source_tern network.trees.items (seen asked.terns asked.leads) source

-- the points of a group have what its expression has
abbrev pub IsRightGroup : Network → Asked → Group → Type 0
IsRightGroup network asked group = (place : ℕ) → IsInGroup group place → IsRight network asked place

-- The groups are those of what has been asked for, and what is kept for a group is right unless it is stale.
pub record AreChangesOf (network : Network) (asked : Asked) (changes : Changes) : Type 0 where
  pub groups : AreGroups network asked.own asked.leads changes.fanout.readers.items changes.taken.items changes.groups.items
  pub waiting : AreWaiting asked.own changes
  pub long : length changes.fanout.stale ≡ length changes.groups.items
  pub room : (number : ℕ) (group : Group) → slice_get changes.groups.items number ≡ Some group → group.end ≤ group.begin + length changes.found.items
  pub right : (number : ℕ) (group : Group) → slice_get changes.groups.items number ≡ Some group → IsFresh changes.fanout.stale number →
      IsRightGroup network asked group

-- ---- what others watch

-- A reader that is not stale was not stale before, and all that it watches has what it had.
pub record HasKept (old new : Asked) (before : Fanout) (reader : ℕ) : Type 0 where
  pub fresh : IsFresh before.stale reader
  pub same : (point : ℕ) → IsWatched old.own old.leads before.readers.items reader point → seen new.terns new.leads point ≡ seen old.terns old.leads point
