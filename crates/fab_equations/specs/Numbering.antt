-- Laws of the numbers of instances and points: each instance and each point of a sound text has one number.
use Rattle.std.specs.Prelude.{◌≡◌, ℕ, ◌+◌, ◌<◌, true, List, ◌∷◌, Contains, take, length, slice_get, Some}
use Rattle.std.specs.List.{flat_map}
use Rattle.fab_syntax.specs.Declarations.{module_named, width}
use Rattle.fab_syntax.specs.Plain.{PlainModule}
use Rattle.fab_syntax.specs.Sound.{IsSound}
use Rattle.fab_values.specs.fab_meaning.specs.Points.{Path, Point, point, module_at}
use Rattle.fab_values.specs.fab_meaning.specs.Reads.{is_declared}
use Rattle.fab_values.specs.Declarations.{declarations, found_in}
use Rattle.fab_values.specs.declared.names.Local.{Local}
use Rattle.fab_equations.specs.Instances.{Instance, instances, instance_points, points}
use Rattle.fab_equations.specs.Children.{Child, children, modules_before, offset_of}

-- the instance of a number
abbrev pub IsInstanceOfNumber : List PlainModule → ℕ → Instance → Type 0
IsInstanceOfNumber text number i = slice_get (instances text) number ≡ Some i

-- ---- instances

-- Instances stand at their paths. Their modules have their numbers.
abbrev pub InstancesStand : Type 0
InstancesStand =
    (text : List PlainModule) → IsSound text → (number : ℕ) (i : Instance) → IsInstanceOfNumber text number i →
    (module_at text i.path ≡ Some i.here) × (slice_get text i.number ≡ Some i.here)

-- At each path at which a module stands there is an instance,
abbrev pub PathsAreInstances : Type 0
PathsAreInstances =
    (text : List PlainModule) → IsSound text → (path : Path) (m : PlainModule) → module_at text path ≡ Some m →
    (number : ℕ) × (i : Instance) × IsInstanceOfNumber text number i × (i.path ≡ path)

-- and just one.
abbrev pub PathsDiffer : Type 0
PathsDiffer =
    (text : List PlainModule) → IsSound text → (number other : ℕ) (i j : Instance) →
    IsInstanceOfNumber text number i → IsInstanceOfNumber text other j → i.path ≡ j.path → number ≡ other

-- ---- the instances in an instance

-- an instance is the child of a number in another
pub record IsChildOf (text : List PlainModule) (parent : Instance) (number : ℕ) (below : Instance) : Type 0 where
  pub child : Child
  pub is : slice_get (children parent.here.items) number ≡ Some child
  pub path : below.path ≡ child.name ∷ parent.path
  pub of : module_named text child.module_name ≡ Some below.here

abbrev pub offset_in : List PlainModule → Instance → (child : ℕ) → ℕ
offset_in text i child = offset_of (modules_before text i.number) (children i.here.items) child

-- A child follows its instance at its offset,
abbrev pub ChildrenFollow : Type 0
ChildrenFollow =
    (text : List PlainModule) → IsSound text → (number : ℕ) (i : Instance) → IsInstanceOfNumber text number i →
    (child : ℕ) → child < length (children i.here.items) →
    (below : Instance) × IsInstanceOfNumber text (number + offset_in text i child) below × IsChildOf text i child below

-- and each instance but the top is such a child.
abbrev pub InstancesAreChildren : Type 0
InstancesAreChildren =
    (text : List PlainModule) → IsSound text → (number : ℕ) → 0 < number → number < length (instances text) →
    (above : ℕ) × (i : Instance) × IsInstanceOfNumber text above i × (child : ℕ) × (child < length (children i.here.items))
    × (number ≡ above + offset_in text i child)

-- ---- points

-- how many points the instances before one have
abbrev pub points_before : List PlainModule → (number : ℕ) → ℕ
points_before text number = length (flat_map instance_points (take number (instances text)))

-- The bits of a name of an instance follow one another, behind those of the names declared before it and of the instances before.
abbrev pub NamesHavePoints : Type 0
NamesHavePoints =
    (text : List PlainModule) (number : ℕ) (i : Instance) → IsInstanceOfNumber text number i →
    (name : List ℕ) (local : Local) → found_in (declarations i.here) name ≡ Some local → (bit : ℕ) → bit < width local.shape →
    slice_get (points text) (points_before text number + (local.first + bit)) ≡ Some (point i.path name bit)

-- The points are the declared bits of the text, each once.
abbrev pub PointsAreDeclared : Type 0
PointsAreDeclared = (text : List PlainModule) → IsSound text → (p : Point) → Contains (points text) p → is_declared text p ≡ true

abbrev pub DeclaredArePoints : Type 0
DeclaredArePoints = (text : List PlainModule) → IsSound text → (p : Point) → is_declared text p ≡ true → Contains (points text) p

abbrev pub PointsDiffer : Type 0
PointsDiffer =
    (text : List PlainModule) → IsSound text → (number other : ℕ) (p : Point) →
    slice_get (points text) number ≡ Some p → slice_get (points text) other ≡ Some p → number ≡ other
