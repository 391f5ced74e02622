-- The instances in a module, and how far behind it they stand among the instances of a text.
use Rattle.std.specs.Prelude.{ℕ, ◌+◌, List, [], ◌∷◌, take, reverse}
use Rattle.fab_syntax.specs.Plain.{PlainItem, PlainJoin, instance, PlainModule}
use Rattle.fab_equations.specs.Counting.{instances_count}

-- an instance in a module
pub record Child : Type 0 where
  pub module_name : List ℕ
  pub name : List ℕ
  pub joins : List PlainJoin

-- those among items, in their order
abbrev pub children : List PlainItem → List Child
children [] = []
children (instance module_name name joins ∷ items) = record { module_name = module_name; name = name; joins = joins } ∷ children items
children (_ ∷ items) = children items

-- the modules before the one of a number, the latest first
abbrev pub modules_before : List PlainModule → (number : ℕ) → List PlainModule
modules_before text number = reverse (take number text)

-- how many instances some children are together, with all those inside them
abbrev pub instances_of_children : (before : List PlainModule) → List Child → ℕ
instances_of_children before [] = 0
instances_of_children before (child ∷ more) = instances_count before child.module_name + instances_of_children before more

-- how far behind its instance the child of a number stands
abbrev pub offset_of : (before : List PlainModule) → List Child → (child : ℕ) → ℕ
offset_of before all child = 1 + instances_of_children before (take child all)
