-- The state of a search for a cycle of covers.
use Rattle.std.specs.Prelude.{◌≡◌, ◌⊎◌, ℕ, suc, ◌<◌, ◌≤◌, Bool, true, false, List, [], ◌∷◌, length, get_or, Contains, Option, Some, None, if◌then◌else◌}
use Rattle.fab_netlist.specs.declared.walk.Mark.{Mark}
use Rattle.fab_netlist.specs.declared.walk.Mark.TheVariants as marks
use Rattle.fab_netlist.specs.Plain.{PlainNetlist, cover_at}
use Rattle.fab_netlist.specs.WellMade.{times}
use Rattle.fab_netlist.specs.Cycles.{Reads}
use Rattle.fab_netlist.specs.inner.Order.{StandBehind}

-- all that the cover reads leads to no cycle
pub data Fine (netlist : PlainNetlist) : ℕ → Type 0 where
  fine : {reader : ℕ} → ((source : ℕ) → Reads netlist reader source → Fine netlist source) → Fine netlist reader

abbrev pub driver_at : List (Option ℕ) → ℕ → Option ℕ
driver_at drivers net = get_or drivers net None

-- for each net the place of the cover that drives it, among the first covers
pub record HasDrivers (netlist : PlainNetlist) (count : ℕ) (drivers : List (Option ℕ)) : Type 0 where
  pub fits : length drivers ≡ length netlist.nets
  pub found : (net place : ℕ) → driver_at drivers net ≡ Some place → (place < count) × ((cover_at netlist place).output ≡ net)
  pub all : (place : ℕ) → place < count → driver_at drivers (cover_at netlist place).output ≡ Some place

abbrev pub IsDriverTable : PlainNetlist → List (Option ℕ) → Type 0
IsDriverTable netlist drivers = HasDrivers netlist (length netlist.covers) drivers

abbrev pub mark_at : List Mark → ℕ → Mark
mark_at list place = get_or list place marks.New

abbrev pub is_new : Mark → Bool
is_new marks.New = true
is_new marks.Open = false
is_new marks.Done = false

abbrev pub is_open : Mark → Bool
is_open marks.New = false
is_open marks.Open = true
is_open marks.Done = false

abbrev pub is_done : Mark → Bool
is_done marks.New = false
is_done marks.Open = false
is_done marks.Done = true

-- a cover that is not done
abbrev pub if_unfinished : List Mark → Option ℕ → Option ℕ
if_unfinished list None = None
if_unfinished list (Some place) = if is_done (mark_at list place) then None else Some place

abbrev pub first_of : Option ℕ → Option ℕ → Option ℕ
first_of None later = later
first_of (Some place) later = Some place

-- the first cover that is not done among those that drive nets
abbrev pub unfinished : List (Option ℕ) → List Mark → List ℕ → Option ℕ
unfinished drivers list [] = None
unfinished drivers list (net ∷ nets) = first_of (if_unfinished list (driver_at drivers net)) (unfinished drivers list nets)

-- Each cover of the path reads the next one. The covers of the path are open, and those that are done lead to no cycle.
pub record IsSearch (netlist : PlainNetlist) (list : List Mark) (path : List ℕ) : Type 0 where
  pub fits : length list ≡ length netlist.covers
  pub finished : (place : ℕ) → mark_at list place ≡ marks.Done → Fine netlist place
  pub on_path : (place : ℕ) → mark_at list place ≡ marks.Open → Contains path place
  pub opened : (place : ℕ) → Contains path place → mark_at list place ≡ marks.Open
  pub linked : (turn : ℕ) → suc turn < length path → Reads netlist (get_or path turn 0) (get_or path (suc turn) 0)
  pub once : (place : ℕ) → times place path ≤ 1

-- the last cover of the path reads one of the path
pub record IsRound (netlist : PlainNetlist) (path : List ℕ) (source : ℕ) : Type 0 where
  pub linked : (turn : ℕ) → suc turn < length path → Reads netlist (get_or path turn 0) (get_or path (suc turn) 0)
  pub once : (place : ℕ) → times place path ≤ 1
  pub met : Contains path source
  pub closes : (last : ℕ) → suc last ≡ length path → Reads netlist (get_or path last 0) source

abbrev pub StaysDone : (old new : List Mark) → Type 0
StaysDone old new = (place : ℕ) → mark_at old place ≡ marks.Done → mark_at new place ≡ marks.Done

-- a search that ended without a cycle, after which these covers are done
pub record HasEnded (netlist : PlainNetlist) (old new : List Mark) (path left : List ℕ) : Type 0 where
  pub empty : left ≡ []
  pub state : IsSearch netlist new []
  pub stays : StaysDone old new
  pub done : (place : ℕ) → Contains path place → mark_at new place ≡ marks.Done

-- a search under way: these marks and this path came of the old marks and of the path with which it was begun
pub record IsGoing (netlist : PlainNetlist) (old : List Mark) (begun : List ℕ) (list : List Mark) (path : List ℕ) : Type 0 where
  pub state : IsSearch netlist list path
  pub stays : StaysDone old list
  pub met : (place : ℕ) → Contains begun place → Contains path place ⊎ (mark_at list place ≡ marks.Done)

-- the covers that are done stand in an order, each behind those that it reads
pub record IsListed (netlist : PlainNetlist) (list : List Mark) (order : List ℕ) : Type 0 where
  pub behind : StandBehind netlist [] order
  pub listed : (place : ℕ) → mark_at list place ≡ marks.Done → Contains order place
