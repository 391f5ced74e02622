-- What the table of a module says: what drives each declared name within the module, and what is joined to the instances in it.
use Rattle.std.specs.Prelude.{◌≡◌, ℕ, ◌+◌, List, [], ◌∷◌, Contains, length, map, slice_get, Option, Some, false, true}
use Rattle.fab_syntax.specs.Declarations.{module_named, is_input}
use Rattle.fab_syntax.specs.Plain.{PlainExpr, variable, PlainJoin, assign, latch, clocked, PlainModule}
use Rattle.fab_values.specs.Declarations.{Declaration, declarations, found_in, number_of, width}
use Rattle.fab_values.specs.declared.names.Local.{Local}
use Rattle.fab_values.specs.declared.names.Role.TheVariants as roles
use Rattle.fab_equations.specs.Instances.{expressions, in_64_bits}
use Rattle.fab_equations.specs.Children.{Child, children, modules_before, offset_of}
use Rattle.fab_equations.specs.declared.tables.LocalDriver.{LocalDriver}
use Rattle.fab_equations.specs.declared.tables.LocalDriver.TheVariants.{Input, Value, Flop, Hold, Output}
use Rattle.fab_equations.specs.declared.tables.ChildTable.{ChildTable}
use Rattle.fab_equations.specs.declared.tables.Table.{Table}

-- the expression of a number in the text
abbrev pub IsExpression : List PlainModule → (number : ℕ) → PlainExpr → Type 0
IsExpression text number e = slice_get (expressions text) number ≡ Some e

-- where the bits of each declaration begin, if this many come before all of these
abbrev pub firsts_from : (first : ℕ) → List Declaration → List ℕ
firsts_from first [] = []
firsts_from first (d ∷ ds) = first ∷ firsts_from (first + width d.shape) ds

abbrev pub firsts_of : List Declaration → List ℕ
firsts_of ds = firsts_from 0 ds

-- ---- drivers of names

-- An output port of the child of a number drives a name. The first bit of the port is the one of this place among the child's.
pub record IsDrivenByChild (text : List PlainModule) (m : PlainModule) (name : List ℕ) (number place : ℕ) : Type 0 where
  pub child : Child
  pub join : PlainJoin
  pub below : PlainModule
  pub local : Local
  pub is : slice_get (children m.items) number ≡ Some child
  pub holds : Contains child.joins join
  pub joined : join.to ≡ Some (variable name)
  pub stands : module_named text child.module_name ≡ Some below
  pub output : is_input below.ports join.port ≡ false
  pub declares : found_in (declarations below) join.port ≡ Some local
  pub first : local.first ≡ place

-- what drives a declared name within its module
abbrev pub DrivesName : List PlainModule → PlainModule → (name : List ℕ) → LocalDriver → Type 0
DrivesName text m name Input = is_input m.ports name ≡ true
DrivesName text m name (Value value) = (e : PlainExpr) × IsExpression text value e × Contains m.items (assign name e)
DrivesName text m name (Flop clock next) =
    (c : List ℕ) × (e : PlainExpr) × (number_of (declarations m) c ≡ Some clock) × IsExpression text next e × Contains m.items (clocked c name e)
DrivesName text m name (Hold gate latched) =
    (g : PlainExpr) × (e : PlainExpr) × IsExpression text gate g × IsExpression text latched e × Contains m.items (latch name g e)
DrivesName text m name (Output child place) = IsDrivenByChild text m name child place

-- ---- the instances in a module

-- What is joined to an input of a child, by the number of its expression.
pub record IsJoined (text : List PlainModule) (joins : List PlainJoin) (port : List ℕ) (joined : Option ℕ) : Type 0 where
  pub number : ℕ
  pub e : PlainExpr
  pub join : PlainJoin
  pub is : joined ≡ Some number
  pub expression : IsExpression text number e
  pub holds : Contains joins join
  pub port_is : join.port ≡ port
  pub to : join.to ≡ Some e

-- what is joined to the inputs of a child, by the numbers of the declarations in its module
abbrev pub InputsAreJoined : List PlainModule → List PlainJoin → List Declaration → (inputs : List (Option ℕ)) → Type 0
InputsAreJoined text joins ds inputs =
    (number : ℕ) (d : Declaration) → slice_get ds number ≡ Some d → d.role ≡ roles.Input →
    (joined : Option ℕ) × (slice_get inputs number ≡ Some joined) × IsJoined text joins d.name joined

-- the table of the child of a number
pub record IsChildTable (text : List PlainModule) (before : List PlainModule) (all : List Child) (number : ℕ) (table : ChildTable) : Type 0 where
  pub child : Child
  pub below : PlainModule
  pub is : slice_get all number ≡ Some child
  pub stands : module_named text child.module_name ≡ Some below
  pub numbered : slice_get text table.«module» ≡ Some below
  pub offset : table.offset ≡ in_64_bits (offset_of before all number)
  pub inputs : InputsAreJoined text child.joins (declarations below) table.inputs.items

-- ---- modules

-- the table of a module, behind others
pub record IsTable (text : List PlainModule) (before : List PlainModule) (m : PlainModule) (table : Table) : Type 0 where
  pub names : table.names ≡ declarations m
  pub firsts : table.firsts.items ≡ firsts_of (declarations m)
  pub drivers : (number : ℕ) (d : Declaration) → slice_get (declarations m) number ≡ Some d →
      (driver : LocalDriver) × (slice_get table.drivers.items number ≡ Some driver) × DrivesName text m d.name driver
  pub child_names : map (λ key. key.items) table.child_names.keys ≡ map (λ child. child.name) (children m.items)
  pub children_count : length table.children.items ≡ length (children m.items)
  pub children_fit : (number : ℕ) (child : ChildTable) → slice_get table.children.items number ≡ Some child → IsChildTable text before (children m.items) number child

-- the tables of all modules
abbrev pub AreTables : List PlainModule → List Table → Type 0
AreTables text tables =
    (length tables ≡ length text)
    × ((number : ℕ) (m : PlainModule) (table : Table) → slice_get text number ≡ Some m → slice_get tables number ≡ Some table →
    IsTable text (modules_before text number) m table)
