-- How much the instances of a module have together, from what each module has of its own: each module is counted once.
use Rattle.std.specs.Prelude.{◌≡◌, ℕ, ◌+◌, List, [], ◌∷◌, Vec, Option, Some, None, if◌then◌else◌}
use Rattle.std.specs.Map.{lookup}
use Rattle.std.specs.Str.{bytes_eq}
use Rattle.fab_syntax.specs.Plain.{PlainItem, instance, PlainModule}
use Rattle.fab_values.specs.Declarations.{declarations, item_declarations, bits_of}
use Rattle.fab_equations.specs.Instances.{in_64_bits}
use Rattle.fab_equations.specs.declared.counts.Count.{Count}

abbrev pub total_among : (of : List ℕ → ℕ) → List PlainItem → ℕ
total_among of [] = 0
total_among of (instance module_name name joins ∷ items) = of module_name + total_among of items
total_among of (_ ∷ items) = total_among of items

abbrev pub total_named : (own : PlainModule → ℕ) → (before : List PlainModule) → (name : List ℕ) → ℕ
total_named own [] name = 0
total_named own (m ∷ before) name = if bytes_eq name m.name then own m + total_among (total_named own before) m.items else total_named own before name

-- the points and the instances of an instance of a module by its name
abbrev pub points_named : (before : List PlainModule) → (name : List ℕ) → ℕ
points_named before name = total_named (λ m. bits_of (declarations m)) before name

abbrev pub instances_count : (before : List PlainModule) → (name : List ℕ) → ℕ
instances_count before name = total_named (λ m. 1) before name

-- counts of 64 bits
abbrev pub counted : (points instances : ℕ) → Count
counted points instances = record { points = in_64_bits points; instances = in_64_bits instances }

abbrev pub count_named : (before : List PlainModule) → (name : List ℕ) → Count
count_named before name = counted (points_named before name) (instances_count before name)

abbrev pub count_of_items : (before : List PlainModule) → List PlainItem → Count
count_of_items before items =
    counted (bits_of (item_declarations items) + total_among (points_named before) items) (total_among (instances_count before) items)

abbrev pub count_of_module : (before : List PlainModule) → PlainModule → Count
count_of_module before m =
    counted (bits_of (declarations m) + total_among (points_named before) m.items) (1 + total_among (instances_count before) m.items)

-- what a table of counts has of a name
abbrev pub count_or_none : Option Count → Count
count_or_none None = record { points = 0; instances = 0 }
count_or_none (Some count) = count

abbrev pub AreCounts : {A : Type 0} → (before : List PlainModule) → List (Vec ℕ A × Count) → Type 0
AreCounts before entries = (name : List ℕ) → count_or_none (lookup (λ key. bytes_eq name key.items) entries) ≡ count_named before name
