-- When enough has been asked for.
use Rattle.std.specs.Prelude.{◌≡◌, ◌≢◌, ◌⊎◌, ℕ, ◌<◌, Bool, false, List, [], Option, None, Some, length, slice_get, slice_index}
use Rattle.fab_systems_laws.specs.Ternary.{no, unknown, IsBelow}
use Rattle.fab_systems_laws.specs.Ternary.{Tern as PlainTern}
use Rattle.fab_ternary.specs.declared.Tern.{Tern}
use Rattle.fab_compiled.specs.Terns.{seen}
use Rattle.fab_compiled.specs.Leading.{PointTerns, AreAbove, AgreeOnMarked, IsMarked}
use Rattle.fab_compiled.specs.declared.tree.Tree.{Tree}
use Rattle.fab_network.specs.declared.forms.Form.{Form}
use Rattle.fab_network.specs.declared.network.Clock.{Clock}
use Rattle.fab_network.specs.declared.network.Drive.{Drive}
use Rattle.fab_network.specs.declared.network.Drive.TheVariants.{Given, Flop, Same, Value, Hold}
use Rattle.fab_network.specs.declared.network.Network.{Network}
use Rattle.fab_network.specs.declared.network.Source.{Source}
use Rattle.fab_network.specs.Forms.{HasForms}
use Rattle.fab_network.specs.Network.{source_tern}
use Rattle.fab_network.specs.Passes.{kept_tern, IsListed}
use Rattle.fab_network.specs.Solved.{asked_tern, IsLeast, Solves}
use Rattle.fab_demand.specs.Asked.{Asked, DiffersInOwn, IsPossible, IsSourceAsked, IsWhole}

-- ---- what is given later

-- a gate that is 0 in each assignment that knows no less
abbrev pub IsClosed : List Tree → List Tern → List ℕ → (gate : Source) → Type 0
IsClosed trees terns leads gate = (t : PointTerns) → AreAbove terns leads t → source_tern trees t gate ≡ no

-- What may be given to a point later: what was known of an input stays; a flip-flop of another clock than the one that ticks holds the same, and so
-- does a latch whose gate is 0 by what is known; all other flip-flops and latches may hold anything.
abbrev pub IsKeptBy : List Tree → Clock → List Tern → List ℕ → (given later : PlainTern) → Option Drive → Type 0
IsKeptBy trees clock terns leads given later None = Unit {0}
IsKeptBy trees clock terns leads given later (Some Given) = IsBelow given later
IsKeptBy trees clock terns leads given later (Some (Flop own next)) = own ≢ clock → later ≡ given
IsKeptBy trees clock terns leads given later (Some (Same other)) = Unit {0}
IsKeptBy trees clock terns leads given later (Some (Value source)) = Unit {0}
IsKeptBy trees clock terns leads given later (Some (Hold gate latched)) = IsClosed trees terns leads gate → later ≡ given

abbrev pub IsKept : Network → Clock → (given : PointTerns) → List Tern → List ℕ → (later : PointTerns) → Type 0
IsKept network clock given terns leads later =
    (point : ℕ) → IsKeptBy network.trees.items clock terns leads (given point) (later point) (slice_get network.drives.items point)

-- ---- what is known of points

-- what a point shows, where this is given
abbrev pub shown_of : Network → (given t : PointTerns) → (point : ℕ) → PlainTern
shown_of network given t point = asked_tern network.trees.items network.drives.items given t point

-- A point shows what it has, whatever is given later and as long as nothing known is denied.
abbrev pub IsDecided : Network → Clock → (given : PointTerns) → Asked → (point : ℕ) → Type 0
IsDecided network clock given asked point =
    (later t : PointTerns) → IsKept network clock given asked.terns asked.leads later → IsPossible asked t → shown_of network later t point ≡ t point

-- A point stands for itself: what it shows depends on points alone that have been asked for.
pub record StandsForItself (network : Network) (clock : Clock) (given : PointTerns) (asked : Asked) (point : ℕ) : Type 0 where
  pub not_kept : kept_tern asked.terns point ≡ unknown
  pub enough : (later t u : PointTerns) → IsKept network clock given asked.terns asked.leads later → IsPossible asked t → IsPossible asked u →
      AgreeOnMarked asked.marks t u → shown_of network later t point ≡ shown_of network later u point

-- What is known of points that are done: each of them is decided or stands for itself.
pub record IsLooked (network : Network) (clock : Clock) (given : PointTerns) (asked : Asked) (done : List Bool) : Type 0 where
  pub whole : IsWhole asked
  -- no solution is denied
  pub sound : (later t : PointTerns) → IsKept network clock given asked.terns asked.leads later →
      Solves network.trees.items network.drives.items later t → IsPossible asked t
  pub enough : (point : ℕ) → IsMarked done point → IsListed asked.own point ⊎ IsDecided network clock given asked point
  pub own : (point : ℕ) → IsListed asked.own point → IsMarked done point × StandsForItself network clock given asked point
  pub once : (place later : ℕ) → place < later → later < length asked.own → slice_index asked.own place ≢ slice_index asked.own later
  -- a flip-flop of the clock that ticks stands for itself
  pub registers : (point : ℕ) (next : Source) → IsMarked done point → slice_get network.drives.items point ≡ Some (Flop clock next) → IsListed asked.own point
  -- points are led to points that are led no further
  pub led : (point : ℕ) → IsMarked done point → IsMarked done (slice_index asked.leads point)
  pub last : (point : ℕ) → IsMarked done point → slice_index asked.leads (slice_index asked.leads point) ≡ slice_index asked.leads point
  -- of all other points nothing is known
  pub others : (point : ℕ) → slice_get done point ≡ Some false → (slice_index asked.leads point ≡ point) × (kept_tern asked.terns point ≡ unknown)

-- Enough is known of all points that have been asked for.
abbrev pub IsAsked : Network → Clock → (given : PointTerns) → Asked → Type 0
IsAsked network clock given asked = IsLooked network clock given asked asked.marks

-- Nothing has been asked for.
pub record IsClear (asked : Asked) : Type 0 where
  pub none : (point : ℕ) → IsMarked asked.marks point → ⊥
  pub own : asked.own ≡ []
  pub enough : (network : Network) (clock : Clock) (given : PointTerns) → IsAsked network clock given asked

-- the next value of a flip-flop of this clock has been asked for
abbrev pub IsRegisterAsked : Network → Clock → Asked → (point : ℕ) → Type 0
IsRegisterAsked network clock asked point =
    (next : Source) → slice_get network.drives.items point ≡ Some (Flop clock next) → IsSourceAsked network.trees.items asked next

abbrev pub AreRegistersAsked : Network → Clock → Asked → Type 0
AreRegistersAsked network clock asked = (point : ℕ) → IsListed asked.own point → IsRegisterAsked network clock asked point

-- ---- points that stand for themselves

-- They have been asked for, and nothing is known of them yet.
abbrev pub AreOpen : Asked → Type 0
AreOpen asked = (point : ℕ) → IsListed asked.own point → IsMarked asked.marks point × (kept_tern asked.terns point ≡ unknown)

-- forms of them that are right, whatever is kept for them
abbrev pub AreFormsOf : Network → Asked → List Form → Type 0
AreFormsOf network asked forms = HasForms network.trees.items network.drives.items asked.own asked.leads asked.terns forms

-- ---- what is settled

-- what has been asked for has the values of this assignment
pub record Shows (network : Network) (asked now : Asked) (t : PointTerns) : Type 0 where
  pub points : (point : ℕ) → IsMarked asked.marks point → seen now.terns now.leads point ≡ t point
  pub sources : (source : Source) → IsSourceAsked network.trees.items asked source →
      source_tern network.trees.items (seen now.terns now.leads) source ≡ source_tern network.trees.items t source

-- Points that stand for themselves are given the same by both.
abbrev pub GivesOwn : Asked → (held : List Tern) → (later : PointTerns) → Type 0
GivesOwn asked held later = (point : ℕ) → IsListed asked.own point → kept_tern held point ≡ later point

-- Whatever is given later, what has been asked for has the values of the least solution.
abbrev pub ShowsLeast : Network → (held : List Tern) → (old new : Asked) → Type 0
ShowsLeast network held old new =
    (clock : Clock) (given : PointTerns) (asked : Asked) → IsAsked network clock given asked → DiffersInOwn asked old →
    (later t : PointTerns) → IsKept network clock given asked.terns asked.leads later → GivesOwn asked held later →
    IsLeast network.trees.items network.drives.items later t → Shows network asked new t
