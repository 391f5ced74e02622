-- The points of a text and what drives each of them. A point is one bit of one hierarchical wire or register. Section
-- numbers are those of IEEE 1364-2005.
use Rattle.std.specs.Prelude.{◌≡◌, ◌⊎◌, ℕ, Bool, true, false, List, [], ◌∷◌, Contains, Option, Some, None, if◌then◌else◌}
use Rattle.std.specs.Str.{bytes_eq}
use Rattle.fab_syntax.specs.Declarations.{module_named, is_input_of}
use Rattle.fab_syntax.specs.Plain.{PlainExpr, variable, PlainJoin, PlainItem, wire, reg, assign, latch, clocked, instance, PlainModule}

-- an instance of a module, by the names of the instances that lead to it, its own first; the top has no name
abbrev pub Path : Type 0
Path = List (List ℕ)

pub record Point : Type 0 where
  pub path : Path
  pub name : List ℕ
  pub bit : ℕ

abbrev pub point : Path → List ℕ → ℕ → Point
point path name bit = record { path = path; name = name; bit = bit }

-- what drives a point
pub data Driver : Type 0 where
  -- the world: an input of the top
  outside : Driver
  -- another point, through an output port of an instance
  copy : Point → Driver
  -- a bit of an expression over the names of an instance
  bit_of : (path : Path) (value : PlainExpr) (bit : ℕ) → Driver
  -- a flip-flop, with its clock and a bit of its next value
  flop : (path : Path) (clock : List ℕ) (next : PlainExpr) (bit : ℕ) → Driver
  -- a latch, with its gate and a bit of its data
  hold : (path : Path) (gate data_value : PlainExpr) (bit : ℕ) → Driver

-- ---- modules and their instances (12.1)

abbrev pub last_of : {X : Type 0} → List X → Option X
last_of [] = None
last_of (x ∷ []) = Some x
last_of (x ∷ y ∷ xs) = last_of (y ∷ xs)

-- an instance among items: the name of its module, and its joins
pub record Found : Type 0 where
  pub module_name : List ℕ
  pub joins : List PlainJoin

abbrev pub instance_named : List PlainItem → List ℕ → Option Found
instance_named [] name = None
instance_named (instance module_name other joins ∷ items) name =
    if bytes_eq other name then Some (record { module_name = module_name; joins = joins }) else instance_named items name
instance_named (_ ∷ items) name = instance_named items name

abbrev pub instance_in : Option PlainModule → List ℕ → Option Found
instance_in None name = None
instance_in (Some m) name = instance_named m.items name

abbrev pub module_of : List PlainModule → Option Found → Option PlainModule
module_of text None = None
module_of text (Some found) = module_named text found.module_name

-- the module of the instance at a path; the last module of the text is the top
abbrev pub module_at : List PlainModule → Path → Option PlainModule
module_at text [] = last_of text
module_at text (name ∷ path) = module_of text (instance_in (module_at text path) name)

-- ---- drivers

-- A port of an instance (12.3.6). An expression drives an input port; an output port drives the name that is joined to it.
abbrev pub JoinDrives : Path → (instance_name : List ℕ) → (input : Bool) → (port : List ℕ) → Option PlainExpr → Point → Driver → Type 0
JoinDrives path i input port None p d = ⊥
JoinDrives path i true port (Some e) p d = (p ≡ point (i ∷ path) port p.bit) × (d ≡ bit_of path e p.bit)
JoinDrives path i false port (Some e) p d =
    (name : List ℕ) × (e ≡ variable name) × (p ≡ point path name p.bit) × (d ≡ copy (point (i ∷ path) port p.bit))

-- What an item of the instance at a path drives: a continuous assignment (6.1), a latch, which is an always construct over
-- all that it reads (9.4, 9.7.5), a flip-flop, which is one over an edge of its clock (9.2.2, 9.7.2), and an instance.
-- No bound is asked of the bit: the sets of points below hold declared bits alone.
abbrev pub ItemDrives : List PlainModule → Path → PlainItem → Point → Driver → Type 0
ItemDrives text path (wire shape name) p d = ⊥
ItemDrives text path (reg shape name) p d = ⊥
ItemDrives text path (assign target e) p d = (p ≡ point path target p.bit) × (d ≡ bit_of path e p.bit)
ItemDrives text path (latch target gate e) p d = (p ≡ point path target p.bit) × (d ≡ hold path gate e p.bit)
ItemDrives text path (clocked clock target e) p d = (p ≡ point path target p.bit) × (d ≡ flop path clock e p.bit)
ItemDrives text path (instance module_name i joins) p d =
    (join : PlainJoin) × Contains joins join
    × JoinDrives path i (is_input_of (module_named text module_name) join.port) join.port join.to p d

-- an item of some instance drives the point so
pub record IsDrivenByItem (text : List PlainModule) (p : Point) (d : Driver) : Type 0 where
  pub path : Path
  pub module_here : PlainModule
  pub item : PlainItem
  pub stands : module_at text path ≡ Some module_here
  pub holds : Contains module_here.items item
  pub drives : ItemDrives text path item p d

-- an input of the top (12.1.1) is driven from outside
pub record IsDrivenOutside (text : List PlainModule) (p : Point) (d : Driver) : Type 0 where
  pub top : p.path ≡ []
  pub input : is_input_of (module_at text []) p.name ≡ true
  pub is : d ≡ outside

-- the text drives the point so; a sound text has one driver for each of its points
abbrev pub Drives : List PlainModule → Point → Driver → Type 0
Drives text p d = IsDrivenOutside text p d ⊎ IsDrivenByItem text p d

-- a flip-flop or a latch, which keep a value
abbrev pub IsStored : Driver → Type 0
IsStored outside = ⊥
IsStored (copy other) = ⊥
IsStored (bit_of path e bit) = ⊥
IsStored (flop path clock next bit) = Unit {0}
IsStored (hold path gate e bit) = Unit {0}
