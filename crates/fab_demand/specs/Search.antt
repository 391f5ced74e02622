-- A search along what points need, depth first.
use Rattle.std.specs.Prelude.{◌≡◌, ◌≢◌, ℕ, ◌+◌, ◌-◌, ◌<◌, ◌≤◌, Bool, true, false, Some, List, [], ◌∷◌, length, take, replicate, slice_get}
use Rattle.std.specs.Prelude.{slice_index, slice_set, vec_capacity}
use Rattle.std.specs.List.{range_with_len}
use Rattle.fab_ternary.specs.declared.Tern.TheVariants.{Open}
use Rattle.fab_compiled.specs.Leading.{PointTerns, IsMarked}
use Rattle.fab_network.specs.declared.network.Clock.{Clock}
use Rattle.fab_network.specs.declared.network.Network.{Network}
use Rattle.fab_network.specs.Passes.{EachListed, IsListed}
use Rattle.fab_demand.specs.Asked.{Asked, IsWhole}
use Rattle.fab_demand.specs.Demand.{IsLooked}
use Rattle.fab_demand.specs.Gates.{AreGates}
use Rattle.fab_demand.specs.declared.search.Search.{Search}

abbrev pub asked_of : Search → Asked
asked_of search = record { terns = search.terns.items; leads = search.leads.items; marks = search.marks.items; own = search.own.items }

abbrev pub unset_count : List Bool → ℕ
unset_count [] = 0
unset_count (true ∷ marks) = unset_count marks
unset_count (false ∷ marks) = 1 + unset_count marks

-- Nothing has been asked for, and nothing is known of so many points.
pub record IsBlank (count : ℕ) (asked : Asked) : Type 0 where
  pub terns : asked.terns ≡ replicate count Open
  pub leads : asked.leads ≡ range_with_len 0 count
  pub marks : asked.marks ≡ replicate count false
  pub own : asked.own ≡ []

-- what is left to do: two steps for a point that has not been asked for, and one for a point that waits
abbrev pub left_of : Search → ℕ
left_of search = unset_count search.marks.items + unset_count search.done.items

-- there is room for all points
pub record HasRoom (search : Search) : Type 0 where
  pub done : length search.done.items ≡ length search.leads.items
  pub own : length search.own.items + unset_count search.done.items ≤ length search.leads.items
  pub own_room : length search.leads.items ≤ vec_capacity search.own
  pub stack : length search.stack.items + unset_count search.marks.items ≤ length search.leads.items
  pub stack_room : length search.leads.items ≤ vec_capacity search.stack

-- The last point that waits is done, and this is known now.
pub record Closes (old new : Search) (point : ℕ) (known : Asked) : Type 0 where
  pub asked : asked_of new ≡ known
  pub done : new.done.items ≡ slice_set old.done.items point true
  pub stack : new.stack.items ≡ take (length old.stack.items - 1) old.stack.items
  pub gates : new.gates.kept.items ≡ old.gates.kept.items
  pub room : HasRoom new

-- these are the points that wait, each once
pub record AreWaiting (marks done : List Bool) (stack : List ℕ) : Type 0 where
  pub wait : EachListed (length stack) stack (λ point. IsMarked marks point × (slice_get done point ≡ Some false))
  pub once : (place later : ℕ) → place < later → later < length stack → slice_index stack place ≢ slice_index stack later
  pub all : (point : ℕ) → IsMarked marks point → slice_get done point ≡ Some false → IsListed stack point

-- a search on its way
pub record IsSearching (network : Network) (clock : Clock) (given : PointTerns) (search : Search) : Type 0 where
  pub looked : IsLooked network clock given (asked_of search) search.done.items
  pub room : HasRoom search
  pub marked : (point : ℕ) → IsMarked search.done.items point → IsMarked search.marks.items point
  pub waiting : AreWaiting search.marks.items search.done.items search.stack.items
  pub gates : AreGates network.trees.items search.terns.items search.leads.items search.marks.items search.gates.kept.items

-- no point waits
pub record IsResting (search : Search) : Type 0 where
  pub done : search.done.items ≡ search.marks.items
  pub stack : search.stack.items ≡ []

-- a search between two questions
pub record IsKeeping (search : Search) : Type 0 where
  pub whole : IsWhole (asked_of search)
  pub room : HasRoom search
  pub resting : IsResting search
