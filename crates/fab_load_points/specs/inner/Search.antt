-- The search for the names that are inside the set of some flip-flops: what is known of each name, and the names that wait for others.
use Rattle.std.specs.Prelude.{◌≡◌, ◌<◌, ℕ, ◌+◌, ◌⊎◌, Bool, true, false, List, [], ◌∷◌, Option, Some, None, slice_get, slice_set}
use Rattle.fab_syntax.specs.Plain.{PlainModule}
use Rattle.fab_syntax.specs.Sound.{IsSound}
use Rattle.fab_meaning.specs.Points.{Point, Driver, Drives}
use Rattle.fab_meaning.specs.Reads.{reads}
use Rattle.fab_meaning.specs.Loading.{IsDerived, Within}
use Rattle.fab_load_points.specs.inner.Causes.{StandsFor, IsFlop}
use Rattle.fab_load_points.specs.declared.search.Status.{Status}
use Rattle.fab_load_points.specs.declared.search.Status.TheVariants.{New, Waiting, Inside, Outside}
use Rattle.fab_load_points.specs.declared.search.Visit.{Visit}
use Rattle.fab_load_points.specs.declared.search.Visit.TheVariants.{Enter, Leave}

-- ---- the flip-flops

-- A search among flip-flops, some of which may have left since it began: what it finds inside is in the set of all, and what it finds outside is not
-- in the set of those that are left.
pub record Scene (text : List PlainModule) : Type 0 where
  pub all : Point → Bool
  pub left : Point → Bool
  pub sound : IsSound text
  pub flops : (p : Point) → left p ≡ true → (d : Driver) × Drives text p d × IsFlop d
  pub alike : (p q : Point) → all p ≡ true → p.path ≡ q.path → p.name ≡ q.name → all q ≡ true

-- ---- the stack, the latest visit first

abbrev pub name_of : Visit → ℕ
name_of (Enter name) = name
name_of (Leave name) = name

-- a name waits for those above it
abbrev pub Waits : List Visit → (name : ℕ) → Type 0
Waits [] name = ⊥
Waits (Enter other ∷ visits) name = Waits visits name
Waits (Leave other ∷ visits) name = (other ≡ name) ⊎ Waits visits name

abbrev pub AreBelow : (count : ℕ) → List Visit → Type 0
AreBelow count [] = Unit {0}
AreBelow count (visit ∷ visits) = (name_of visit < count) × AreBelow count visits

-- a point reads another, be it through others
pub data Reaches (text : List PlainModule) : Point → Point → Type 0 where
  reads_it : {p q : Point} (d : Driver) → Drives text p d → IsDerived d → reads text d q ≡ true → Reaches text p q
  through : {p q : Point} (d : Driver) (middle : Point) → Drives text p d → IsDerived d → reads text d middle ≡ true → Reaches text middle q → Reaches text p q

abbrev pub LeadsTo : List PlainModule → (name other : ℕ) → Type 0
LeadsTo text name other = (p q : Point) → StandsFor text name p → StandsFor text other q → Reaches text p q

-- each name that waits leads to all above it
abbrev pub IsPath : List PlainModule → List Visit → Type 0
IsPath text [] = Unit {0}
IsPath text (visit ∷ visits) =
    ((p : Point) × StandsFor text (name_of visit) p) × ((name : ℕ) → Waits visits name → LeadsTo text name (name_of visit)) × IsPath text visits

abbrev pub IsInside : (text : List PlainModule) → Scene text → (name : ℕ) → Type 0
IsInside text scene name = (p : Point) → StandsFor text name p → Within text scene.all p

-- a name that waits is inside where all are that stand above it to be entered
abbrev pub Follow : (text : List PlainModule) → Scene text → List Visit → Type 0
Follow text scene [] = Unit {0}
Follow text scene (Enter name ∷ visits) = IsInside text scene name → Follow text scene visits
Follow text scene (Leave name ∷ visits) = IsInside text scene name × Follow text scene visits

-- ---- the state of a search

pub record IsSearch (text : List PlainModule) (scene : Scene text) (statuses : List Status) (visits : List Visit) : Type 0 where
  pub inside : (name : ℕ) (p : Point) → StandsFor text name p → slice_get statuses name ≡ Some Inside → Within text scene.all p
  pub outside : (name : ℕ) (p : Point) → StandsFor text name p → slice_get statuses name ≡ Some Outside → ¬ Within text scene.left p
  pub flops : (name : ℕ) (p : Point) → StandsFor text name p → scene.left p ≡ true → slice_get statuses name ≡ Some Inside
  pub waiting : (name : ℕ) → slice_get statuses name ≡ Some Waiting → Waits visits name
  pub path : IsPath text visits
  pub follow : Follow text scene visits

-- ---- steps

-- all names that wait are outside
abbrev pub given_up : List Visit → List Status → List Status
given_up [] statuses = statuses
given_up (Enter name ∷ visits) statuses = given_up visits statuses
given_up (Leave name ∷ visits) statuses = given_up visits (slice_set statuses name Outside)

-- the names of a list are to be entered, the last of them first
abbrev pub entered : List ℕ → List Visit → List Visit
entered [] visits = visits
entered (name ∷ names) visits = entered names (Enter name ∷ visits)

-- a name that is to be entered, if there is one
abbrev pub with_next : Option ℕ → List Visit → List Visit
with_next None visits = visits
with_next (Some name) visits = Enter name ∷ visits

-- of how many names nothing is known
abbrev pub new_count : List Status → ℕ
new_count [] = 0
new_count (New ∷ statuses) = 1 + new_count statuses
new_count (Waiting ∷ statuses) = new_count statuses
new_count (Inside ∷ statuses) = new_count statuses
new_count (Outside ∷ statuses) = new_count statuses

-- no name comes to be new, and this one no more
pub record Opens (name : ℕ) (old new : List Status) : Type 0 where
  pub fewer : new_count new < new_count old
  pub others : (other : ℕ) → slice_get new other ≡ Some New → slice_get old other ≡ Some New
  pub this : slice_get new name ≡ Some New → ⊥

-- what a search tells of a name at last
abbrev pub told : (inside : Bool) → Status
told true = Inside
told false = Outside
