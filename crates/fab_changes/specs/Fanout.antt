-- Who reads which points.
use Rattle.std.specs.Prelude.{◌≡◌, ◌≢◌, ℕ, ◌+◌, ◌<◌, ◌≤◌, Bool, List, Some, Vec, length, slice_get, slice_index}
use Rattle.std.specs.Global.{Global}
use Rattle.fab_ternary.specs.declared.Tern.{Tern}
use Rattle.fab_compiled.specs.declared.tree.Tree.{Tree}
use Rattle.fab_compiled.specs.Trees.{EachPlace}
use Rattle.fab_network.specs.Passes.{kept_tern, AreOwn, IsListed}
use Rattle.fab_changes.specs.declared.fanout.Fanout.{Fanout}
use Rattle.fab_changes.specs.declared.places.Places.{Places}
use Rattle.fab_changes.specs.Flags.{AreUnset, IsNextSet, IsUnset}

-- no point stands twice among those that stand for themselves
abbrev pub IsOnce : (own : List ℕ) → Type 0
IsOnce own = (place later : ℕ) → place < later → later < length own → slice_index own place ≢ slice_index own later

-- the place of each point that stands for itself is found by its number
pub record ArePlaces (places : Places) : Type 0 where
  pub own : AreOwn places.own.now places.leads.now
  pub long : length places.places.items ≡ length places.leads.now
  pub inside : (point : ℕ) → point < length places.leads.now → slice_index places.leads.now point < length places.leads.now
  pub found : (place : ℕ) → place < length places.own.now → slice_get places.places.items (slice_index places.own.now place) ≡ Some place

-- ---- readers

-- the readers of points, by the places of these
abbrev pub Lists : Type 0
Lists = List (Vec ℕ Global)

-- a reader of the point at this place
pub record IsReader (lists : Lists) (place reader : ℕ) : Type 0 where
  pub readers : Vec ℕ Global
  pub there : slice_get lists place ≡ Some readers
  pub listed : IsListed readers.items reader

-- If this point stands for itself, it has this reader.
abbrev pub HasReader : (own : List ℕ) → Lists → (reader point : ℕ) → Type 0
HasReader own lists reader point = (place : ℕ) → place < length own → slice_index own place ≡ point → IsReader lists place reader

-- A reader watches a point: it reads the one to which this is led.
abbrev pub IsWatched : (own leads : List ℕ) → Lists → (reader point : ℕ) → Type 0
IsWatched own leads lists reader point = HasReader own lists reader (slice_index leads point)

-- the same of all points of an expression
abbrev pub WatchesTree : (own leads : List ℕ) → Lists → (reader first : ℕ) → Tree → Type 0
WatchesTree own leads lists reader first tree = EachPlace (λ place. IsWatched own leads lists reader (first + place)) tree

-- Readers stay readers.
abbrev pub ReadsMore : (old new : Lists) → Type 0
ReadsMore old new = (place reader : ℕ) → IsReader old place reader → IsReader new place reader

-- ---- changes

-- nothing has changed that this reader reads since it was looked at
abbrev pub IsFresh : (stale : List Bool) → (reader : ℕ) → Type 0
IsFresh = IsUnset

-- the same of all readers from one number up to another
abbrev pub AreFresh : (stale : List Bool) → (from end : ℕ) → Type 0
AreFresh = AreUnset

-- the first stale reader from a number on
abbrev pub IsNextStale : (stale : List Bool) → (from reader : ℕ) → Type 0
IsNextStale = IsNextSet

-- Values of points have changed from old to new, and readers of those that differ are stale.
pub record HasTouched (own : List ℕ) (old new : List Tern) (before after : Fanout) : Type 0 where
  pub readers : after.readers.items ≡ before.readers.items
  pub long : length after.stale ≡ length before.stale
  pub fresh : (reader : ℕ) → IsFresh after.stale reader → IsFresh before.stale reader
  pub same : (reader : ℕ) → IsFresh after.stale reader → (point : ℕ) → HasReader own before.readers.items reader point →
      kept_tern new point ≡ kept_tern old point
