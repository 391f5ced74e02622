-- Instances by the numbers of their modules.
use Rattle.std.specs.Prelude.{◌≡◌, ℕ, List, [], ◌∷◌, ◌++◌, length, map, Vec, Option, Some, None, if◌then◌else◌}
use Rattle.std.specs.List.{flat_map}
use Rattle.std.specs.Map.{lookup}
use Rattle.std.specs.Str.{bytes_eq}
use Rattle.fab_syntax.specs.Plain.{PlainItem, instance, PlainModule}

abbrev pub option_list : Option ℕ → List ℕ
option_list None = []
option_list (Some n) = n ∷ []

-- the number of a module by its name among those that stand before, the latest first
abbrev pub number_named : (before : List PlainModule) → (name : List ℕ) → Option ℕ
number_named [] name = None
number_named (m ∷ before) name = if bytes_eq name m.name then Some (length before) else number_named before name

abbrev pub item_number : (before : List PlainModule) → PlainItem → Option ℕ
item_number before (instance module_name name joins) = number_named before module_name
item_number before _ = None

-- the numbers of the modules of the instances among items
abbrev pub child_numbers : (before : List PlainModule) → List PlainItem → List ℕ
child_numbers before items = flat_map (λ item. option_list (item_number before item)) items

-- those in each module, in the order of the modules
abbrev pub children_behind : (before : List PlainModule) → List (List ℕ)
children_behind [] = []
children_behind (m ∷ before) = children_behind before ++ child_numbers before m.items ∷ []

-- the last module, if there is one
abbrev pub top_number : (before : List PlainModule) → List ℕ
top_number [] = []
top_number (m ∷ before) = length before ∷ []

-- what a table of numbers has of a name
abbrev pub AreNumbers : {A : Type 0} → (before : List PlainModule) → List (Vec ℕ A × ℕ) → Type 0
AreNumbers before entries = (name : List ℕ) → lookup (λ key. bytes_eq name key.items) entries ≡ number_named before name

abbrev pub lists : {A : Type 0} → List (Vec ℕ A) → List (List ℕ)
lists vectors = map (λ v. v.items) vectors
