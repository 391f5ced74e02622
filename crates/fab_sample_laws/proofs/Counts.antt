-- How many points and instances a text has: those of its top module, and those below its instances.
use Rattle.std.proofs.Common.{◌≡◌, ◌∙◌, ℕ, ◌+◌, List, [], ◌∷◌, ◌++◌, map, length, reverse, refl, ap, arith, length-append}
use Rattle.std.specs.List.{flat_map, sum_by}
use Rattle.std.proofs.lemmas.List.Concat.{flat_map-cons}
use Rattle.std.proofs.lemmas.List.Sums.{sum_by-cons}
use Rattle.fab_syntax.specs.declared.tree.Port.{Port}
use Rattle.fab_syntax.specs.Plain.{PlainItem, wire, reg, assign, latch, clocked, instance, PlainModule}
use Rattle.fab_values.specs.Declarations.{Declaration, width, port_declaration, item_declarations, declarations, bits_of}
use Rattle.fab_equations.specs.Instances.{Instance, instances_within, instances_named, instance_points, instances, points, whole_count}
use Rattle.fab_equations.specs.Counting.{total_among, total_named}
use Rattle.fab_equations.proofs.Counted.{within, named, points_length}

-- the points of a module itself, and the instance
abbrev pub own : PlainModule → ℕ
own m = bits_of (declarations m) + 1

-- the points and instances below each instance of a module by its name, where these modules stand before, the last first
abbrev pub below : (before : List PlainModule) → List ℕ → ℕ
below before name = total_named own before name

abbrev of_instance : Instance → ℕ
of_instance i = length (instance_points i) + 1

weighed : (is : List Instance) → length (flat_map instance_points is) + length is ≡ sum_by of_instance is
weighed [] = refl
weighed (i ∷ is) =
    let parts : length (flat_map instance_points (i ∷ is)) ≡ length (instance_points i) + length (flat_map instance_points is) =
    ap (λ ps. length ps) (flat_map-cons instance_points i is) ∙ length-append (instance_points i) (flat_map instance_points is) in
    omega (arith, parts, weighed is, sum_by-cons of_instance i is)

pub count_is : (before : List PlainModule) (top : PlainModule) (text : List PlainModule) → reverse text ≡ top ∷ before →
    whole_count text ≡ own top + total_among (below before) top.items
unfolding points instances
count_is before top text last =
    let listed : List Instance = instances_within (instances_named before) (length before) top [] in
    let instances_are : instances text ≡ listed = λ j. elim (last j) [ [] ↦ [] | m ∷ ms ↦ instances_within (instances_named ms) (length ms) m [] ] in
    let each = λ (path : List (List ℕ)) (number : ℕ) (m : PlainModule). ap (λ n. n + 1) (points_length path (declarations m)) in
    ap (λ is. length (flat_map instance_points is) + length is) instances_are
    ∙ weighed listed
    ∙ within of_instance own each (instances_named before) (below before) (named of_instance own each before) (length before) top []

-- ---- by ports and items

abbrev pub port_bits : Port → ℕ
port_bits port = width port.shape

-- what an item declares, or what is below it
abbrev pub item_count : (of : List ℕ → ℕ) → PlainItem → ℕ
item_count of (wire shape name) = width shape
item_count of (reg shape name) = width shape
item_count of (assign target e) = 0
item_count of (latch target gate e) = 0
item_count of (clocked clock target e) = 0
item_count of (instance module_name name joins) = of module_name

items_count : (of : List ℕ → ℕ) (items : List PlainItem) → bits_of (item_declarations items) + total_among of items ≡ sum_by (item_count of) items
items_count of [] = refl
items_count of (wire shape name ∷ items) = omega (arith, items_count of items, sum_by-cons (item_count of) (wire shape name) items)
items_count of (reg shape name ∷ items) = omega (arith, items_count of items, sum_by-cons (item_count of) (reg shape name) items)
items_count of (assign target e ∷ items) = omega (arith, items_count of items, sum_by-cons (item_count of) (assign target e) items)
items_count of (latch target gate e ∷ items) = omega (arith, items_count of items, sum_by-cons (item_count of) (latch target gate e) items)
items_count of (clocked clock target e ∷ items) = omega (arith, items_count of items, sum_by-cons (item_count of) (clocked clock target e) items)
items_count of (instance m i joins ∷ items) = omega (arith, items_count of items, sum_by-cons (item_count of) (instance m i joins) items)

ports_count : (ports : List Port) (rest : List Declaration) → bits_of (map port_declaration ports ++ rest) ≡ sum_by port_bits ports + bits_of rest
ports_count [] rest = omega arith
ports_count (port ∷ ports) rest = omega (arith, ports_count ports rest, sum_by-cons port_bits port ports)

pub module_count : (of : List ℕ → ℕ) (m : PlainModule) →
    own m + total_among of m.items ≡ 1 + sum_by port_bits m.ports + sum_by (item_count of) m.items
module_count of m = omega (arith, ports_count m.ports (item_declarations m.items), items_count of m.items)
