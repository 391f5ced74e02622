-- How far the table of a module is, item by item: what its makers keep.
use Rattle.std.specs.Prelude.{◌≡◌, ◌⊎◌, ℕ, All, ◌+◌, ◌≤◌, List, [], ◌∷◌, ◌++◌, length, map, slice_get, slice_set, Option, Some, None}
use Rattle.std.specs.Borrow.{Bor}
use Rattle.fab_syntax.specs.declared.tree.Expr.{Expr}
use Rattle.fab_syntax.specs.Plain.{PlainExpr, variable, PlainJoin, PlainItem, PlainModule, plain_expr}
use Rattle.fab_syntax.specs.Declarations.{module_named, one_if_same, times_driven, times_joined_out, times_joined}
use Rattle.fab_syntax.specs.Sound.{IsSound, JoinFits, joined_expressions, item_expressions}
use Rattle.fab_values.specs.Declarations.{Declaration, declarations, number_of}
use Rattle.fab_values.specs.declared.names.Role.TheVariants as roles
use Rattle.fab_equations.specs.Instances.{expressions, in_64_bits}
use Rattle.fab_equations.specs.Counting.{AreCounts}
use Rattle.fab_equations.specs.Numbers.{AreNumbers}
use Rattle.fab_equations.specs.Children.{Child, children, modules_before, instances_of_children}
use Rattle.fab_equations.specs.Tables.{DrivesName, IsJoined, IsChildTable, IsTable}
use Rattle.fab_equations.specs.declared.tables.LocalDriver.{LocalDriver}
use Rattle.fab_equations.specs.declared.tables.LocalDriver.TheVariants.{Input}
use Rattle.fab_equations.specs.declared.tables.ChildTable.{ChildTable}
use Rattle.fab_equations.specs.declared.tables.Table.{Table}
use Rattle.fab_equations.specs.declared.before.Before.{Before}
use Rattle.fab_equations.specs.declared.driving.Inside.{Inside}

-- the expressions of a list of references
abbrev pub listed : List (Bor Expr) → List PlainExpr
listed es = map (λ e. plain_expr e.now) es

-- an item is put at a place, if there is one
abbrev pub put_at : {X : Type 0} → List X → (place : Option ℕ) → X → List X
put_at xs None x = xs
put_at xs (Some place) x = slice_set xs place x

-- an expression that is a name is driven
abbrev pub put_variable : List LocalDriver → List Declaration → PlainExpr → LocalDriver → List LocalDriver
put_variable drivers ds (variable name) driver = put_at drivers (number_of ds name) driver
put_variable drivers ds _ driver = drivers

-- ---- declarations

-- how often a name stands among declarations
abbrev pub times_among : List Declaration → (name : List ℕ) → ℕ
times_among [] name = 0
times_among (d ∷ ds) name = one_if_same d.name name + times_among ds name

abbrev pub DeclaresOnce : List Declaration → Type 0
DeclaresOnce ds = (name : List ℕ) → times_among ds name ≤ 1

-- ---- a module of a sound text, by its number

pub record Spot : Type 0 where
  pub text : List PlainModule
  pub number : ℕ
  pub here : PlainModule
  pub sound : IsSound text
  pub stands : slice_get text number ≡ Some here

-- the modules before it are told by their tables
pub record IsBefore (text : List PlainModule) (number : ℕ) (before : Before) : Type 0 where
  pub counts : AreCounts (modules_before text number) before.counts.entries
  pub numbers : AreNumbers (modules_before text number) before.numbers.entries
  pub tables : length before.tables.items ≡ number
  pub fit : (k : ℕ) (m : PlainModule) (table : Table) → slice_get text k ≡ Some m → slice_get before.tables.items k ≡ Some table → IsTable text (modules_before text k) m table

-- ---- drivers

-- a name is driven so, or by none of the items so far
abbrev pub IsDrivenSoFar : Spot → (times : ℕ) → (name : List ℕ) → LocalDriver → Type 0
IsDrivenSoFar spot times name Input = times ≡ 0
IsDrivenSoFar spot times name driver = DrivesName spot.text spot.here name driver

abbrev pub AreDriven : Spot → (times : List ℕ → ℕ) → List LocalDriver → Type 0
AreDriven spot times drivers =
    (number : ℕ) (d : Declaration) → slice_get (declarations spot.here) number ≡ Some d →
    (driver : LocalDriver) × (slice_get drivers number ≡ Some driver) × IsDrivenSoFar spot (times d.name) d.name driver

-- ---- the joins of an instance

-- an input is joined so, or by none of the joins so far
abbrev pub AreJoined : Spot → (all so_far : List PlainJoin) → (below : List Declaration) → (inputs : List (Option ℕ)) → Type 0
AreJoined spot all so_far below inputs =
    (number : ℕ) (d : Declaration) → slice_get below number ≡ Some d → d.role ≡ roles.Input →
    (to : Option ℕ) × (slice_get inputs number ≡ Some to) × ((times_joined so_far d.name ≡ 0) ⊎ IsJoined spot.text all d.name to)

-- an instance in a module and what is known of it
pub record IsInstance (spot : Spot) (number : ℕ) (child : Child) (below : PlainModule) : Type 0 where
  pub is : slice_get (children spot.here.items) number ≡ Some child
  pub stands : module_named spot.text child.module_name ≡ Some below
  pub once : DeclaresOnce (declarations below)
  pub fit : All (JoinFits spot.here below) child.joins

-- the next of its joins; the expressions so far are the first of the text
pub record IsJoin (spot : Spot) (child : Child) (so_far : List PlainJoin) (join : PlainJoin) (es : List PlainExpr) : Type 0 where
  pub rest : List PlainJoin
  pub parts : child.joins ≡ so_far ++ join ∷ rest
  pub more : List PlainExpr
  pub all : es ++ (joined_expressions join.to ++ more) ≡ expressions spot.text

-- how far the drivers and the inputs are
pub record AreJoinedSoFar (spot : Spot) (items : List PlainItem) (child : Child) (below : PlainModule) (so_far : List PlainJoin) (drivers : List LocalDriver) (inputs : List (Option ℕ)) : Type 0 where
  pub drivers_are : AreDriven spot (λ name. times_driven spot.text items name + times_joined_out (Some below) so_far name) drivers
  pub inputs_are : AreJoined spot child.joins so_far (declarations below) inputs

-- ---- the items of a module

-- the next item; the expressions so far are the first of the text
pub record IsItem (spot : Spot) (so_far : List PlainItem) (item : PlainItem) (es : List PlainExpr) : Type 0 where
  pub rest : List PlainItem
  pub parts : spot.here.items ≡ so_far ++ item ∷ rest
  pub more : List PlainExpr
  pub all : es ++ (item_expressions item ++ more) ≡ expressions spot.text

-- how far the inside of a table is
pub record IsInside (spot : Spot) (items : List PlainItem) (inside : Inside) : Type 0 where
  pub drivers : AreDriven spot (times_driven spot.text items) inside.drivers.items
  pub child_names : map (λ key. key.items) inside.child_names.keys ≡ map (λ (child : Child). child.name) (children items)
  pub offset : inside.next_offset ≡ in_64_bits (1 + instances_of_children (modules_before spot.text spot.number) (children items))
  pub children_count : length inside.children.items ≡ length (children items)
  pub children_fit : (number : ℕ) (child : ChildTable) → slice_get inside.children.items number ≡ Some child →
      IsChildTable spot.text (modules_before spot.text spot.number) (children spot.here.items) number child
