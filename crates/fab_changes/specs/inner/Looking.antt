-- What looks at groups do.
use Rattle.std.specs.Prelude.{◌≡◌, ◌≢◌, ℕ, ◌+◌, ◌-◌, ◌<◌, ◌≤◌, List, Option, None, Some, length, slice_get, slice_index}
use Rattle.fab_systems_laws.specs.Ternary.{unknown}
use Rattle.fab_systems_laws.specs.Ternary.{Tern as PlainTern}
use Rattle.fab_ternary.specs.declared.Tern.{Tern}
use Rattle.fab_compiled.specs.declared.tree.Tree.{Tree}
use Rattle.fab_compiled.specs.Leading.{PointTerns}
use Rattle.fab_compiled.specs.Terns.{seen}
use Rattle.fab_network.specs.declared.network.Drive.{Drive}
use Rattle.fab_network.specs.declared.network.Drive.TheVariants.{Given, Flop, Same, Value, Hold}
use Rattle.fab_network.specs.declared.network.Network.{Network}
use Rattle.fab_network.specs.Network.{source_tern}
use Rattle.fab_network.specs.Passes.{kept_tern}
use Rattle.fab_demand.specs.Asked.{Asked}
use Rattle.fab_changes.specs.declared.changes.Changes.{Changes}
use Rattle.fab_changes.specs.declared.groups.Group.{Group}
use Rattle.fab_changes.specs.Changes.{drive_at, IsInGroup, IsRightGroup, TakesGiven}
use Rattle.fab_changes.specs.Fanout.{IsFresh}

-- ---- values that are taken

-- Nothing differs but what is kept.
pub record AreSamePoints (old new : Asked) : Type 0 where
  pub leads : new.leads ≡ old.leads
  pub marks : new.marks ≡ old.marks
  pub own : new.own ≡ old.own
  pub long : length new.terns ≡ length old.terns

-- a point has this value now, and all others what they had
pub record HasTaken (point : ℕ) (value : PlainTern) (old new : Asked) : Type 0 where
  pub points : AreSamePoints old new
  pub has : kept_tern new.terns point ≡ value
  pub others : (other : ℕ) → other ≢ point → kept_tern new.terns other ≡ kept_tern old.terns other

-- the points at the first of these places have what is given to them, and all others what they had
pub record HaveTaken (taken : List ℕ) (count : ℕ) (given : List Tern) (old new : Asked) : Type 0 where
  pub points : AreSamePoints old new
  pub values : (k : ℕ) → k < count → kept_tern new.terns (slice_index old.own (slice_index taken k)) ≡
      kept_tern given (slice_index old.own (slice_index taken k))
  pub others : (point : ℕ) → ((k : ℕ) → k < count → slice_index old.own (slice_index taken k) ≢ point) → kept_tern new.terns point ≡ kept_tern old.terns point

-- the points of a group below a place have what was found, and all others what they had
pub record HasTakenGroup (group : Group) (count : ℕ) (found : List Tern) (old new : Asked) : Type 0 where
  pub points : AreSamePoints old new
  pub values : (place : ℕ) → IsInGroup group place → place < count → kept_tern new.terns (slice_index old.own place) ≡ kept_tern found (place - group.begin)
  pub others : (point : ℕ) → ((place : ℕ) → IsInGroup group place → slice_index old.own place ≢ point) → kept_tern new.terns point ≡ kept_tern old.terns point

-- what the expression of a drive has; nothing is known where there is none
abbrev pub value_tern : List Tree → PointTerns → Option Drive → PlainTern
value_tern trees t None = unknown
value_tern trees t (Some Given) = unknown
value_tern trees t (Some (Flop clock next)) = unknown
value_tern trees t (Some (Same other)) = unknown
value_tern trees t (Some (Value source)) = source_tern trees t source
value_tern trees t (Some (Hold gate latched)) = unknown

-- what was found for the points of a group below a place is what their expression has
abbrev pub AreFound : Network → Asked → Group → (count : ℕ) → (found : List Tern) → Type 0
AreFound network asked group count found =
    (place : ℕ) → IsInGroup group place → place < count →
    kept_tern found (place - group.begin) ≡ value_tern network.trees.items (seen asked.terns asked.leads) (drive_at network asked.own place)

-- Points that take what is given to them, and those that do not stand for themselves, have what they had.
pub record HasWritten (network : Network) (old new : Asked) : Type 0 where
  pub points : AreSamePoints old new
  pub others : (point : ℕ) → ((place : ℕ) → place < length old.own → slice_index old.own place ≡ point → TakesGiven (drive_at network old.own place)) →
      kept_tern new.terns point ≡ kept_tern old.terns point

-- ---- groups

-- Nothing differs but which groups are stale, and what was found last.
pub record AreSameGroups (old new : Changes) : Type 0 where
  pub taken : new.taken.items ≡ old.taken.items
  pub groups : new.groups.items ≡ old.groups.items
  pub lists : new.fanout.readers.items ≡ old.fanout.readers.items
  pub long : length new.fanout.stale ≡ length old.fanout.stale
  pub room : length new.found.items ≡ length old.found.items

-- What waits stays so.
pub record IsSameWaiting (old new : Changes) : Type 0 where
  pub places : new.places.items ≡ old.places.items
  pub waiting : new.waiting.items ≡ old.waiting.items

-- there is room for each group
abbrev pub HasRoom : List Group → (found : List Tern) → Type 0
HasRoom groups found = (number : ℕ) (group : Group) → slice_get groups number ≡ Some group → group.end ≤ group.begin + length found

-- Groups before this number are right, and so are all others that are not stale.
pub record AreRightFrom (network : Network) (asked : Asked) (changes : Changes) (count : ℕ) : Type 0 where
  pub done : (number : ℕ) (group : Group) → number < count → slice_get changes.groups.items number ≡ Some group → IsRightGroup network asked group
  pub rest : (number : ℕ) (group : Group) → slice_get changes.groups.items number ≡ Some group → IsFresh changes.fanout.stale number →
      IsRightGroup network asked group
