-- The instances of a text as they are kept.
use Rattle.std.specs.Prelude.{◌≡◌, ◌≤◌, ℕ, ◌+◌, ◌<◌, List, length, map, slice_get, Option, Some, None}
use Rattle.std.specs.Borrow.{Bor}
use Rattle.std.specs.List.{sum_by}
use Rattle.fab_syntax.specs.Plain.{PlainModule, plain_expr}
use Rattle.fab_syntax.specs.Sound.{IsSound}
use Rattle.fab_syntax.specs.declared.tree.Expr.{Expr}
use Rattle.fab_sound.specs.Narrow.{AreNarrow}
use Rattle.fab_values.specs.Declarations.{bits_of}
use Rattle.fab_equations.specs.Instances.{Instance, instances, points, expressions, whole_count, most_points}
use Rattle.fab_equations.specs.Numbering.{IsInstanceOfNumber, points_before, offset_in}
use Rattle.fab_equations.specs.Children.{children}
use Rattle.fab_equations.specs.Tables.{AreTables}
use Rattle.fab_equations.specs.declared.placed.PlacedInstance.{PlacedInstance}
use Rattle.fab_equations.specs.declared.tables.ChildTable.{ChildTable}
use Rattle.fab_equations.specs.declared.tables.Table.{Table}

-- an instance is the child of a number in another, behind which it stands
pub record IsUnder (text : List PlainModule) (number parent child : ℕ) : Type 0 where
  pub above : Instance
  pub is : IsInstanceOfNumber text parent above
  pub within : child < length (children above.here.items)
  pub follows : number ≡ parent + offset_in text above child

-- the instance of a number: its module, its first point, and of which instance it is which child
pub record IsPlaced (text : List PlainModule) (number : ℕ) (placed : PlacedInstance) : Type 0 where
  pub i : Instance
  pub is : IsInstanceOfNumber text number i
  pub of_module : placed.«module» ≡ i.number
  pub first : placed.first ≡ points_before text number
  pub under : 0 < number → IsUnder text number placed.parent placed.child

-- all instances of a text
abbrev pub ArePlaced : List PlainModule → List PlacedInstance → Type 0
ArePlaced text placed =
    (length placed ≡ length (instances text))
    × ((number : ℕ) (p : PlacedInstance) → slice_get placed number ≡ Some p → IsPlaced text number p)

-- ---- how they are made

-- the instance of a table that is the child of this number in another; its first point is not known yet
abbrev pub noted : (parent number : ℕ) → ChildTable → PlacedInstance
noted parent number child = record { «module» = child.«module»; first = 0; parent = parent; child = number }

-- an instance is noted as one of the children in another, behind which it stands
pub record IsNoted (children_of : List ChildTable) (parent number : ℕ) (placed : PlacedInstance) : Type 0 where
  pub child_number : ℕ
  pub child : ChildTable
  pub is : slice_get children_of child_number ≡ Some child
  pub follows : number ≡ parent + child.offset
  pub placed_is : placed ≡ noted parent child_number child

abbrev pub bits_in : Option Table → ℕ
bits_in None = 0
bits_in (Some table) = bits_of table.names

-- how many points instances have together, by the tables of their modules
abbrev pub bits_together : List Table → List PlacedInstance → ℕ
bits_together tables placed = sum_by (λ (p : PlacedInstance). bits_in (slice_get tables p.«module»)) placed

-- ---- what is kept

-- What is kept of a text is that of a sound text that is small enough, and whose widths are counted in 64 bits.
pub record Keeps (text : List PlainModule) (tables : List Table) (exprs : List (Bor Expr)) (placed : List PlacedInstance) (count : ℕ) : Type 0 where
  pub sound : IsSound text
  pub small : whole_count text ≤ most_points
  pub narrow : AreNarrow text
  pub tables_are : AreTables text tables
  pub exprs_are : map (λ e. plain_expr e.now) exprs ≡ expressions text
  pub placed_are : ArePlaced text placed
  pub count_is : count ≡ length (points text)
