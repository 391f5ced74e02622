-- What the parts of a look-up say: an instance with the table of its module, a bit of a declared name, what is joined to an input.
use Rattle.std.specs.Prelude.{◌≡◌, ℕ, ◌+◌, ◌<◌, ◌≤◌, List, ◌∷◌, ◌++◌, length, All, Option, Some, None, slice_get}
use Rattle.fab_syntax.specs.Plain.{variable, PlainModule}
use Rattle.fab_syntax.specs.Sound.{ServesAsClock, IsScalarInput, IsSound}
use Rattle.fab_sound.specs.Narrow.{AreNarrow}
use Rattle.fab_values.specs.fab_meaning.specs.Points.{Path, point, module_at}
use Rattle.fab_values.specs.Declarations.{Declaration, declarations, bits_of, number_of, width}
use Rattle.fab_values.specs.declared.names.Role.TheVariants as roles
use Rattle.fab_equations.specs.Instances.{Instance, whole_count, most_points}
use Rattle.fab_equations.specs.Numbering.{IsInstanceOfNumber, IsChildOf, points_before}
use Rattle.fab_equations.specs.Children.{children, modules_before}
use Rattle.fab_equations.specs.Tables.{IsExpression, IsTable, IsJoined}
use Rattle.fab_equations.specs.inner.Placed.{IsPlaced}
use Rattle.fab_equations.specs.Equations.{IsPoint, hierarchical_name, HasNoDot, IsNotFound}
use Rattle.fab_equations.specs.declared.driver.Source.{Source}
use Rattle.fab_equations.specs.declared.lookups.Here.{Here}
use Rattle.fab_equations.specs.declared.lookups.LocalBit.{LocalBit}
use Rattle.fab_equations.specs.declared.lookups.LocalName.{LocalName}

-- the instance of a number with the table of its module, in a sound text that is small enough and whose widths are counted in 64 bits
pub record IsHere (text : List PlainModule) (number : ℕ) (here : Here) : Type 0 where
  pub sound : IsSound text
  pub small : whole_count text ≤ most_points
  pub narrow : AreNarrow text
  pub placed : IsPlaced text number here.placed
  pub table : IsTable text (modules_before text placed.i.number) placed.i.here here.table.now

-- ---- points

-- a point is among those of the instance of a number
pub record IsPointOf (text : List PlainModule) (point number : ℕ) : Type 0 where
  pub i : Instance
  pub is : IsInstanceOfNumber text number i
  pub begins : points_before text number ≤ point
  pub ends : point < bits_of (declarations i.here) + points_before text number

-- the last of a list that begins at a place or before it
pub record IsLastAtMost {X : Type 0} (begins : X → ℕ) (xs : List X) (place number : ℕ) : Type 0 where
  pub x : X
  pub is : slice_get xs number ≡ Some x
  pub at_most : begins x ≤ place
  pub last : (later : ℕ) (next : X) → number < later → slice_get xs later ≡ Some next → place < begins next

-- the point of a number is this bit of a declared name
pub record IsBit (text : List PlainModule) (number : ℕ) (local : LocalBit) : Type 0 where
  pub i : Instance
  pub is : IsInstanceOfNumber text local.instance i
  pub d : Declaration
  pub declares : slice_get (declarations i.here) local.declared ≡ Some d
  pub less : local.bit < width d.shape
  pub point_is : IsPoint text number (point i.path d.name local.bit)

-- ---- inputs

-- a declared name of an instance is an input
pub record IsInput (text : List PlainModule) (number declared : ℕ) : Type 0 where
  pub i : Instance
  pub is : IsInstanceOfNumber text number i
  pub d : Declaration
  pub declares : slice_get (declarations i.here) declared ≡ Some d
  pub role : d.role ≡ roles.Input

-- what the instance above has joined to an input, in a sound text
pub record IsJoinedAbove (text : List PlainModule) (number declared : ℕ) (source : Source) : Type 0 where
  pub sound : IsSound text
  pub input : IsInput text number declared
  pub less : source.instance < number
  pub above : Instance
  pub above_is : IsInstanceOfNumber text source.instance above
  pub place : ℕ
  pub child : IsChildOf text above place input.i
  pub joined : IsJoined text child.child.joins input.d.name (Some source.expr)

-- the top has nothing joined to its inputs, and each other instance something
abbrev pub IsJoin : List PlainModule → (number declared : ℕ) → Option Source → Type 0
IsJoin text number declared None = number ≡ 0
IsJoin text number declared (Some source) = IsJoinedAbove text number declared source

-- ---- clocks

-- an expression is a name, which the instance declares under a number
pub record IsName (text : List PlainModule) (source : Source) (declared : ℕ) : Type 0 where
  pub i : Instance
  pub is : IsInstanceOfNumber text source.instance i
  pub name : List ℕ
  pub expression : IsExpression text source.expr (variable name)
  pub declares : number_of (declarations i.here) name ≡ Some declared

-- a declared name of an instance is a clock
pub record IsClock (text : List PlainModule) (number declared : ℕ) : Type 0 where
  pub i : Instance
  pub is : IsInstanceOfNumber text number i
  pub d : Declaration
  pub declares : slice_get (declarations i.here) declared ≡ Some d
  pub role : d.role ≡ roles.Input
  pub serves : ServesAsClock text i.here d.name
  pub input : IsScalarInput i.here d.name

-- ---- the instances in an instance

-- an instance has a child of this number
pub record HasChild (text : List PlainModule) (number place : ℕ) : Type 0 where
  pub i : Instance
  pub is : IsInstanceOfNumber text number i
  pub within : place < length (children i.here.items)

-- the child of this number
pub record IsChild (text : List PlainModule) (number place child : ℕ) : Type 0 where
  pub i : Instance
  pub is : IsInstanceOfNumber text number i
  pub below : Instance
  pub below_is : IsInstanceOfNumber text child below
  pub of : IsChildOf text i place below

-- the instance of a name in another, if there is one
abbrev pub IsChildNamed : List PlainModule → Instance → (name : List ℕ) → Option ℕ → Type 0
IsChildNamed text i name None = module_at text (name ∷ i.path) ≡ None
IsChildNamed text i name (Some number) = (below : Instance) × IsInstanceOfNumber text number below × (below.path ≡ name ∷ i.path)

-- ---- hierarchical names

-- each way to read a name leads through the instance at a path, with this rest of the name
abbrev pub LeadsThrough : List PlainModule → (name : List ℕ) → Path → (rest : List ℕ) → Type 0
LeadsThrough text name at rest =
    (path : Path) (m : PlainModule) (local : List ℕ) → module_at text path ≡ Some m → All HasNoDot path → HasNoDot local → name ≡ hierarchical_name path local →
    (front : Path) × (path ≡ front ++ at) × (rest ≡ hierarchical_name front local)

-- A name is read up to a rest within the instance of a number, in a sound text that is small enough.
pub record IsRead (text : List PlainModule) (name : List ℕ) (number : ℕ) (rest : List ℕ) : Type 0 where
  pub sound : IsSound text
  pub small : whole_count text ≤ most_points
  pub i : Instance
  pub is : IsInstanceOfNumber text number i
  pub spelled : name ≡ hierarchical_name i.path rest
  pub only : LeadsThrough text name i.path rest

-- The instance to which a name leads, and the last part of the name; none where no instance declares the name. The text is sound.
abbrev pub IsLocalName : List PlainModule → (name : List ℕ) → Option LocalName → Type 0
IsLocalName text name None = IsSound text × IsNotFound text name
IsLocalName text name (Some local) = IsRead text name local.instance local.name.now × HasNoDot local.name.now
