-- Counts are the lengths of the lists.
use Rattle.std.proofs.Common.{◌≡◌, ℕ, zero, suc, ◌+◌, ◌-◌, ◌<◌, ◌≤◌, cond, List, [], ◌∷◌, ◌++◌, length, map, reverse, take, get_or, slice_get, Vec, Some, refl, sym, ap, subst, ◌∙◌, inl, inr, arith}
use Rattle.std.proofs.lemmas.Bool.{cases_Bool, false≢true}
use Rattle.std.proofs.lemmas.List.{take_more, take_all, length-append, map-append, reverse-append}
use Rattle.std.proofs.lemmas.List.Sums.{sum_by-append, sum_by-cons}
use Rattle.std.proofs.lemmas.List.Concat.{length-flat_map}
use Rattle.std.proofs.lemmas.Option.{slice_get_within, get_or_from_slice_get}
use Rattle.std.proofs.lemmas.Slice.Eq.{bytes_eq-Decides}
use Rattle.std.specs.List.{flat_map, sum_by}
use Rattle.std.specs.Map.{lookup}
use Rattle.std.specs.Str.{bytes_eq}
use Rattle.indexmap.specs.IndexMap.{insert_entry}
use Rattle.fab_syntax.specs.declared.tree.Port.{Port}
use Rattle.fab_syntax.specs.declared.tree.Module.{Module}
use Rattle.fab_syntax.specs.Plain.{PlainJoin, PlainItem, wire, reg, assign, latch, clocked, instance, PlainModule, plain_module}
use Rattle.fab_values.specs.fab_meaning.specs.Points.{Path}
use Rattle.fab_values.specs.fab_meaning.proofs.Dependence.{same_name}
use Rattle.fab_values.specs.Declarations.{Declaration, port_declaration, item_declarations, declarations, width, bits_of, bits_from, declared_points}
use Rattle.fab_equations.specs.Instances.{Instance, instances_among, instances_within, instances_named, instance_points, instances, points, in_64_bits}
use Rattle.fab_equations.specs.Counting.{total_among, total_named, points_named, instances_count, counted, count_named, count_of_items, count_of_module, count_or_none, AreCounts}
use Rattle.fab_equations.specs.declared.counts.Count.{Count}

saturate_left : (a b : ℕ) → in_64_bits (in_64_bits a + b) ≡ in_64_bits (a + b)
saturate_left a b = omega arith

pub saturate_both : (a b : ℕ) → in_64_bits (in_64_bits a + in_64_bits b) ≡ in_64_bits (a + b)
saturate_both a b = omega arith

pub take_next : {X : Type 0} (xs : List X) (i : ℕ) (x : X) → i < length xs → x ≡ get_or xs i x → take (i + 1) xs ≡ take i xs ++ x ∷ []
take_next xs i x l is = take_more xs i x l ∙ ap (λ y. take i xs ++ y ∷ []) (sym is)

-- ---- sums over declarations and items

bits_append : (xs ys : List Declaration) → bits_of (xs ++ ys) ≡ bits_of xs + bits_of ys
bits_append [] ys = omega arith
bits_append (x ∷ xs) ys = omega (arith, bits_append xs ys)

items_append : (xs ys : List PlainItem) → bits_of (item_declarations (xs ++ ys)) ≡ bits_of (item_declarations xs) + bits_of (item_declarations ys)
items_append [] ys = omega arith
items_append (wire shape name ∷ xs) ys = omega (arith, items_append xs ys)
items_append (reg shape name ∷ xs) ys = omega (arith, items_append xs ys)
items_append (assign target e ∷ xs) ys = items_append xs ys
items_append (latch target gate e ∷ xs) ys = items_append xs ys
items_append (clocked clock target e ∷ xs) ys = items_append xs ys
items_append (instance of name joins ∷ xs) ys = items_append xs ys

total_append : (f : List ℕ → ℕ) (xs ys : List PlainItem) → total_among f (xs ++ ys) ≡ total_among f xs + total_among f ys
total_append f [] ys = omega arith
total_append f (instance of name joins ∷ xs) ys = omega (arith, total_append f xs ys)
total_append f (_ ∷ xs) ys = total_append f xs ys

pub ports_push : (ports : List Port) (i : ℕ) (port : Port) (bits wide : ℕ) → i < length ports → port ≡ get_or ports i port →
    bits ≡ in_64_bits (bits_of (map port_declaration (take i ports))) → wide ≡ width port.shape →
    in_64_bits (bits + wide) ≡ in_64_bits (bits_of (map port_declaration (take (i + 1) ports)))
ports_push ports i port bits wide l is so_far more =
    let before = map port_declaration (take i ports) in
    let parted : map port_declaration (take (i + 1) ports) ≡ before ++ port_declaration port ∷ [] =
    ap (map port_declaration) (take_next ports i port l is) ∙ map-append port_declaration (take i ports) (port ∷ []) in
    let sum : bits_of (map port_declaration (take (i + 1) ports)) ≡ bits_of before + width port.shape =
    ap bits_of parted ∙ bits_append before (port_declaration port ∷ []) ∙ (let end : bits_of before + (width port.shape + 0) ≡ bits_of before + width port.shape = omega arith in end) in
    (λ j. in_64_bits (so_far j + more j)) ∙ saturate_left (bits_of before) (width port.shape) ∙ ap in_64_bits (sym sum)

-- ---- counts of a module, item by item

pub counted_ports : (before : List PlainModule) (name : List ℕ) (ports : List Port) (bits : ℕ) → bits ≡ in_64_bits (bits_of (map port_declaration ports)) →
    (let count : Count = record { points = bits; instances = 1 } in count) ≡ count_of_module before (record { name = name; ports = ports; items = [] })
counted_ports before name ports bits is =
    let all : bits_of (map port_declaration ports) ≡ bits_of (map port_declaration ports ++ []) + 0 = omega (arith, bits_append (map port_declaration ports) []) in
    let points = is ∙ ap in_64_bits all in
    λ j. let count : Count = record { points = points j; instances = 1 } in count

pub module_push : (before : List PlainModule) (name : List ℕ) (ports : List Port) (done : List PlainItem) (item : PlainItem) (count more : Count) →
    count ≡ count_of_module before (record { name = name; ports = ports; items = done }) → more ≡ count_of_items before (item ∷ []) →
    counted (count.points + more.points) (count.instances + more.instances)
    ≡ count_of_module before (record { name = name; ports = ports; items = done ++ item ∷ [] })
module_push before name ports done item count more so_far adds =
    let heads = map port_declaration ports in
    let bits : bits_of (heads ++ item_declarations (done ++ item ∷ [])) ≡ bits_of (heads ++ item_declarations done) + bits_of (item_declarations (item ∷ [])) =
    omega (arith, bits_append heads (item_declarations (done ++ item ∷ [])), bits_append heads (item_declarations done), items_append done (item ∷ [])) in
    let inner = total_append (points_named before) done (item ∷ []) in
    let a = bits_of (heads ++ item_declarations done) + total_among (points_named before) done in
    let b = bits_of (item_declarations (item ∷ [])) + total_among (points_named before) (item ∷ []) in
    let c = 1 + total_among (instances_count before) done in
    let d = total_among (instances_count before) (item ∷ []) in
    let points : a + b ≡ bits_of (heads ++ item_declarations (done ++ item ∷ [])) + total_among (points_named before) (done ++ item ∷ []) = omega (arith, bits, inner) in
    let instances : c + d ≡ 1 + total_among (instances_count before) (done ++ item ∷ []) = omega (arith, total_append (instances_count before) done (item ∷ [])) in
    (λ j. counted ((so_far j).points + (adds j).points) ((so_far j).instances + (adds j).instances))
    ∙ (λ j. let count : Count = record { points = saturate_both a b j; instances = saturate_both c d j } in count)
    ∙ (λ j. counted (points j) (instances j))

pub instance_counts : (before : List PlainModule) (of name : List ℕ) (joins : List PlainJoin) (count : Count) → count ≡ count_named before of →
    count ≡ count_of_items before (instance of name joins ∷ [])
instance_counts before of name joins count is =
    let points : points_named before of ≡ 0 + (points_named before of + 0) = omega arith in
    let instances : instances_count before of ≡ instances_count before of + 0 = omega arith in
    is ∙ (λ j. counted (points j) (instances j))

-- ---- the table of counts

pub lookup_inserted : {A X : Type 0} (name : List ℕ) (key : Vec ℕ A) (count : X) (es : List (Vec ℕ A × X)) →
    lookup (λ k. bytes_eq name k.items) (insert_entry (λ a b. bytes_eq a.items b.items) es key count)
    ≡ cond (bytes_eq name key.items) (Some count) (lookup (λ k. bytes_eq name k.items) es)
lookup_inserted name key count [] = refl
lookup_inserted name key count (e ∷ es) =
    elim (cases_Bool (bytes_eq key.items e.0.items)) [
      | inl t ↦ let same : bytes_eq name key.items ≡ bytes_eq name e.0.items = ap (bytes_eq name) ((bytes_eq-Decides key.items e.0.items).0 t) in
          rw (t, same) (elim (cases_Bool (bytes_eq name e.0.items)) [ inl u ↦ rw u refl | inr g ↦ rw g refl ])
      | inr f ↦ rw (f, lookup_inserted name key count es) (elim (cases_Bool (bytes_eq name key.items)) [
        | inl u ↦ elim (cases_Bool (bytes_eq name e.0.items)) [
          | inl w ↦ absurd (false≢true (sym f ∙ ap (λ n. bytes_eq n e.0.items) (sym ((bytes_eq-Decides name key.items).0 u)) ∙ w))
          | inr g ↦ rw (u, g) refl
        ]
        | inr g ↦ rw g refl
      ])
    ]

pub added : {A : Type 0} (before : List PlainModule) (m : PlainModule) (old new : List (Vec ℕ A × Count)) (key : Vec ℕ A) (count : Count) →
    key.items ≡ m.name → AreCounts before old → count ≡ count_of_module before m →
    new ≡ insert_entry (λ a b. bytes_eq a.items b.items) old key count → AreCounts (m ∷ before) new
added before m old new key count named are is inserts name =
    ap (λ es. count_or_none (lookup (λ k. bytes_eq name k.items) es)) inserts
    ∙ ap count_or_none (lookup_inserted name key count old)
    ∙ ap (λ n. count_or_none (cond (bytes_eq name n) (Some count) (lookup (λ k. bytes_eq name k.items) old))) named
    ∙ elim (cases_Bool (bytes_eq name m.name)) [ inl t ↦ rw t is | inr f ↦ rw f (are name) ]

pub reversed_push : (modules : List Module) (i : ℕ) (m : Module) → i < length modules → m ≡ get_or modules i m →
    reverse (map plain_module (take (i + 1) modules)) ≡ plain_module m ∷ reverse (map plain_module (take i modules))
reversed_push modules i m l is =
    ap (λ ms. reverse (map plain_module ms)) (take_next modules i m l is)
    ∙ ap reverse (map-append plain_module (take i modules) (m ∷ []))
    ∙ reverse-append (map plain_module (take i modules)) (plain_module m ∷ [])

-- ---- totals are lengths

module _ (g : Instance → ℕ) (own : PlainModule → ℕ) (is : (path : Path) (number : ℕ) (m : PlainModule) → g (record { path = path; number = number; here = m }) ≡ own m) where
  among : (of : List ℕ → Path → List Instance) (f : List ℕ → ℕ) → ((name : List ℕ) (path : Path) → sum_by g (of name path) ≡ f name) →
      (path : Path) (items : List PlainItem) → sum_by g (instances_among of path items) ≡ total_among f items
  among of f same path [] = refl
  among of f same path (instance module_name name joins ∷ items) =
      sum_by-append g (of module_name (name ∷ path)) (instances_among of path items)
      ∙ (λ j. same module_name (name ∷ path) j + among of f same path items j)
  among of f same path (_ ∷ items) = among of f same path items

  pub within : (of : List ℕ → Path → List Instance) (f : List ℕ → ℕ) → ((name : List ℕ) (path : Path) → sum_by g (of name path) ≡ f name) →
      (number : ℕ) (m : PlainModule) (path : Path) → sum_by g (instances_within of number m path) ≡ own m + total_among f m.items
  within of f same number m path =
      sum_by-cons g (record { path = path; number = number; here = m }) (instances_among of path m.items) ∙ (λ j. is path number m j + among of f same path m.items j)

  pub named : (before : List PlainModule) (name : List ℕ) (path : Path) → sum_by g (instances_named before name path) ≡ total_named own before name
  named [] name path = refl
  named (m ∷ before) name path =
      elim (cases_Bool (bytes_eq name m.name)) [
        | inl t ↦ rw t (within (instances_named before) (total_named own before) (named before) (length before) m path)
        | inr f ↦ rw f (named before name path)
      ]

length_sum : (xs : List Instance) → length xs ≡ sum_by (λ x. 1) xs
length_sum [] = refl
length_sum (x ∷ xs) = omega (arith, length_sum xs, sum_by-cons (λ (y : Instance). 1) x xs)

pub length_among : (before : List PlainModule) (path : Path) (items : List PlainItem) → length (instances_among (instances_named before) path items) ≡ total_among (instances_count before) items
length_among before path items =
    length_sum (instances_among (instances_named before) path items)
    ∙ among (λ i. 1) (λ m. 1) (λ path number m. refl) (instances_named before) (instances_count before) (named (λ i. 1) (λ m. 1) (λ path number m. refl) before) path items

pub length_named : (before : List PlainModule) (name : List ℕ) (path : Path) → length (instances_named before name path) ≡ instances_count before name
length_named before name path = length_sum (instances_named before name path) ∙ named (λ i. 1) (λ m. 1) (λ path number m. refl) before name path

pub bits_length : (path : Path) (name : List ℕ) (count bit : ℕ) → length (bits_from path name count bit) ≡ count
bits_length path name zero bit = refl
bits_length path name (suc count) bit = ap suc (bits_length path name count (suc bit))

pub points_length : (path : Path) (ds : List Declaration) → length (declared_points path ds) ≡ bits_of ds
points_length path [] = refl
points_length path (d ∷ ds) =
    length-append (bits_from path d.name (width d.shape) 0) (declared_points path ds)
    ∙ (λ j. bits_length path d.name (width d.shape) 0 j + points_length path ds j)

pub empty : {X : Type 0} (xs : List X) → length xs ≤ 0 → xs ≡ []
empty [] l = refl
empty (x ∷ xs) l = absurd (omega (arith, l))

pub nothing_counted : (text : List PlainModule) → text ≡ [] → counted 0 0 ≡ counted (length (points text)) (length (instances text))
unfolding points instances
nothing_counted text none = subst (λ t. counted 0 0 ≡ counted (length (points t)) (length (instances t))) (sym none) refl

last_counted : (before : List PlainModule) (top : PlainModule) (text : List PlainModule) → reverse text ≡ top ∷ before →
    count_of_module before top ≡ counted (length (points text)) (length (instances text))
unfolding points instances
last_counted before top text last =
    let listed = instances_within (instances_named before) (length before) top [] in
    let instances_are : instances text ≡ listed = λ j. elim (last j) [ [] ↦ [] | m ∷ ms ↦ instances_within (instances_named ms) (length ms) m [] ] in
    let own : (path : Path) (number : ℕ) (m : PlainModule) → length (instance_points (record { path = path; number = number; here = m })) ≡ bits_of (declarations m) =
    λ path number m. points_length path (declarations m) in
    let bits : length (flat_map instance_points listed) ≡ bits_of (declarations top) + total_among (points_named before) top.items =
    length-flat_map instance_points listed
    ∙ within (λ i. length (instance_points i)) (λ m. bits_of (declarations m)) own (instances_named before) (points_named before)
    (named (λ i. length (instance_points i)) (λ m. bits_of (declarations m)) own before) (length before) top [] in
    let number : length listed ≡ 1 + total_among (instances_count before) top.items =
    length_sum listed
    ∙ within (λ i. 1) (λ m. 1) (λ path number m. refl) (instances_named before) (instances_count before) (named (λ i. 1) (λ m. 1) (λ path number m. refl) before) (length before) top [] in
    (λ j. counted (sym bits j) (sym number j)) ∙ ap (λ is. counted (length (flat_map instance_points is)) (length is)) (sym instances_are)

pub top_counted : {A : Type 0} (modules : List Module) (top : Module) (entries : List (Vec ℕ A × Count)) (count : Count) →
    Some top ≡ slice_get modules (length modules - 1) → AreCounts (reverse (map plain_module modules)) entries →
    count ≡ count_or_none (lookup (λ key. bytes_eq top.name key.items) entries) →
    count ≡ counted (length (points (map plain_module modules))) (length (instances (map plain_module modules)))
top_counted modules top entries count at are is =
    let i = length modules - 1 in
    let l = slice_get_within modules i top (sym at) in
    let before = reverse (map plain_module (take i modules)) in
    let whole : modules ≡ take (i + 1) modules = sym (take_all (i + 1) modules (omega arith)) in
    let last : reverse (map plain_module modules) ≡ plain_module top ∷ before =
    ap (λ ms. reverse (map plain_module ms)) whole ∙ reversed_push modules i top l (sym (get_or_from_slice_get modules i top top (sym at))) in
    let here : count ≡ count_named (plain_module top ∷ before) top.name = is ∙ are top.name ∙ ap (λ ms. count_named ms top.name) last in
    here ∙ rw (same_name top.name) (last_counted before (plain_module top) (map plain_module modules) last)
