-- The instances, the points and the expressions of a text in their order.
use Rattle.std.specs.Prelude.{ℕ, ◌+◌, ◌-◌, ◌^◌, min, List, [], ◌∷◌, ◌++◌, length, reverse, if◌then◌else◌}
use Rattle.std.specs.List.{flat_map}
use Rattle.std.specs.Str.{bytes_eq}
use Rattle.fab_syntax.specs.Sound.{item_expressions}
use Rattle.fab_syntax.specs.Plain.{PlainExpr, PlainItem, instance, PlainModule}
use Rattle.fab_values.specs.fab_meaning.specs.Points.{Path, Point}
use Rattle.fab_values.specs.Declarations.{declarations, declared_points}

-- an instance, with the module that stands there and its number in the text
pub record Instance : Type 0 where
  pub path : Path
  pub number : ℕ
  pub here : PlainModule

-- the instances among items, as each instance lists those in it; each is followed by those inside it
abbrev pub instances_among : (of : List ℕ → Path → List Instance) → Path → List PlainItem → List Instance
instances_among of path [] = []
instances_among of path (instance module_name name joins ∷ items) = of module_name (name ∷ path) ++ instances_among of path items
instances_among of path (_ ∷ items) = instances_among of path items

-- an instance of a module and all instances inside it
abbrev pub instances_within : (of : List ℕ → Path → List Instance) → (number : ℕ) → PlainModule → Path → List Instance
instances_within of number m path = record { path = path; number = number; here = m } ∷ instances_among of path m.items

-- the same of a module by its name; each instance in it is of a module that stands before, here the latest first
abbrev pub instances_named : (before : List PlainModule) → (name : List ℕ) → Path → List Instance
instances_named [] name path = []
instances_named (m ∷ before) name path =
    if bytes_eq name m.name then instances_within (instances_named before) (length before) m path else instances_named before name path

abbrev pub instances_of_last : (before : List PlainModule) → List Instance
instances_of_last [] = []
instances_of_last (m ∷ before) = instances_within (instances_named before) (length before) m []

-- the instances of a text; the first is the top, which is the last module
unfoldable pub instances : List PlainModule → List Instance
instances text = instances_of_last (reverse text)

-- the points of an instance: by declaration, and then by bit
abbrev pub instance_points : Instance → List Point
instance_points i = declared_points i.path (declarations i.here)

unfoldable pub points : List PlainModule → List Point
points text = flat_map instance_points (instances text)

-- the expressions of a text, by module and by item
unfoldable pub expressions : List PlainModule → List PlainExpr
expressions text = flat_map (λ m. flat_map item_expressions m.items) text

-- how many points and instances a text has together
abbrev pub whole_count : List PlainModule → ℕ
whole_count text = length (points text) + length (instances text)

-- how many it may have
abbrev pub most_points : ℕ
most_points = 16777216

-- a count as it is reported
abbrev pub in_64_bits : ℕ → ℕ
in_64_bits n = min n (2 ^ 64 - 1)
