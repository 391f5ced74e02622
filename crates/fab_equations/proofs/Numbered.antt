-- The instances of a text are gone through with a list of those that are still to be expanded.
use Rattle.std.proofs.Common.{◌≡◌, ℕ, suc, ◌+◌, ◌<◌, ◌≤◌, cond, nat_eq, List, [], ◌∷◌, ◌++◌, length, map, reverse, take, get_or, Vec, Some, false, refl, sym, ap, ◌∙◌, inl, inr, arith}
use Rattle.std.proofs.lemmas.Bool.{cases_Bool, eq-eqb, eqb-true}
use Rattle.std.proofs.lemmas.List.{map-append, append-nil, length-reverse, length-map, length-take-le}
use Rattle.std.proofs.lemmas.Grind.{flat_map-append}
use Rattle.std.specs.List.{flat_map}
use Rattle.std.specs.Map.{lookup}
use Rattle.std.specs.Str.{bytes_eq}
use Rattle.indexmap.specs.IndexMap.{insert_entry}
use Rattle.fab_syntax.specs.Plain.{PlainItem, instance, PlainModule, plain_item, plain_module}
use Rattle.fab_syntax.specs.declared.tree.Item.{Item}
use Rattle.fab_syntax.specs.declared.tree.Module.{Module}
use Rattle.fab_values.specs.fab_meaning.specs.Points.{Path}
use Rattle.fab_equations.specs.Instances.{Instance, instances_among, instances_within, instances_named, instances_of_last, instances}
use Rattle.fab_equations.specs.Numbers.{option_list, number_named, item_number, child_numbers, children_behind, top_number, AreNumbers, lists}
use Rattle.fab_equations.proofs.Counted.{lookup_inserted, take_next, reversed_push}

-- ---- the table of numbers

pub noted : {A : Type 0} (before : List PlainModule) (m : PlainModule) (old new : List (Vec ℕ A × ℕ)) (key : Vec ℕ A) (number : ℕ) →
    key.items ≡ m.name → AreNumbers before old → number ≡ length before →
    new ≡ insert_entry (λ a b. bytes_eq a.items b.items) old key number → AreNumbers (m ∷ before) new
noted before m old new key number named are is inserts name =
    ap (λ es. lookup (λ k. bytes_eq name k.items) es) inserts
    ∙ lookup_inserted name key number old
    ∙ (λ j. cond (bytes_eq name (named j)) (Some (is j)) (are name j))

-- ---- expansion

-- the instances of a module by its number, as numbers of modules
abbrev pub expanded : (before : List PlainModule) → ℕ → List ℕ
expanded [] k = []
expanded (m ∷ before) k = cond (nat_eq k (length before)) (k ∷ flat_map (expanded before) (child_numbers before m.items)) (expanded before k)

abbrev pub AreBelow : ℕ → List ℕ → Type 0
AreBelow n [] = Unit {0}
AreBelow n (k ∷ ks) = (k < n) × AreBelow n ks

below_more : (n more : ℕ) (ks : List ℕ) → n ≤ more → AreBelow n ks → AreBelow more ks
below_more n more [] l are = tt
below_more n more (k ∷ ks) l are = (omega (arith, are.0, l), below_more n more ks l are.1)

pub below_append : (n : ℕ) (ks ls : List ℕ) → AreBelow n ks → AreBelow n ls → AreBelow n (ks ++ ls)
below_append n [] ls are more = more
below_append n (k ∷ ks) ls are more = (are.0, below_append n ks ls are.1 more)

named_below : (before : List PlainModule) (name : List ℕ) → AreBelow (length before) (option_list (number_named before name))
named_below [] name = tt
named_below (m ∷ before) name =
    elim (cases_Bool (bytes_eq name m.name)) [
      | inl t ↦ rw t (omega arith, tt)
      | inr f ↦ rw f (below_more (length before) (suc (length before)) _ (omega arith) (named_below before name))
    ]

children_below : (before : List PlainModule) (items : List PlainItem) → AreBelow (length before) (child_numbers before items)
children_below before [] = tt
children_below before (instance module_name name joins ∷ items) =
    below_append (length before) (option_list (number_named before module_name)) (child_numbers before items) (named_below before module_name) (children_below before items)
children_below before (_ ∷ items) = children_below before items

not_equal : (k n : ℕ) → k < n → nat_eq k n ≡ false
not_equal k n l = elim (cases_Bool (nat_eq k n)) [ inl t ↦ absurd (omega (arith, l, eqb-true k n t)) | inr f ↦ f ]

-- a number of an earlier module is expanded as before
older : (m : PlainModule) (before : List PlainModule) (ks : List ℕ) → AreBelow (length before) ks → flat_map (expanded (m ∷ before)) ks ≡ flat_map (expanded before) ks
older m before [] are = refl
older m before (k ∷ ks) are =
    let here : expanded (m ∷ before) k ≡ expanded before k =
    ap (λ b. cond b (k ∷ flat_map (expanded before) (child_numbers before m.items)) (expanded before k)) (not_equal k (length before) are.0) in
    λ j. here j ++ older m before ks are.1 j

among_numbers : (of : List ℕ → Path → List Instance) (before : List PlainModule) →
    ((name : List ℕ) (path : Path) → map (λ (i : Instance). i.number) (of name path) ≡ flat_map (expanded before) (option_list (number_named before name))) →
    (path : Path) (items : List PlainItem) →
    map (λ (i : Instance). i.number) (instances_among of path items) ≡ flat_map (expanded before) (child_numbers before items)
among_numbers of before same path [] = refl
among_numbers of before same path (instance module_name name joins ∷ items) =
    map-append (λ (i : Instance). i.number) (of module_name (name ∷ path)) (instances_among of path items)
    ∙ (λ j. same module_name (name ∷ path) j ++ among_numbers of before same path items j)
    ∙ sym (flat_map-append (expanded before) (option_list (number_named before module_name)) (child_numbers before items))
among_numbers of before same path (_ ∷ items) = among_numbers of before same path items

pub last_expanded : (m : PlainModule) (before : List PlainModule) →
    flat_map (expanded (m ∷ before)) (length before ∷ []) ≡ length before ∷ flat_map (expanded before) (child_numbers before m.items)
last_expanded m before =
    append-nil (expanded (m ∷ before) (length before))
    ∙ ap (λ b. cond b (length before ∷ flat_map (expanded before) (child_numbers before m.items)) (expanded before (length before))) (eq-eqb (length before) (length before) refl)

named_numbers : (before : List PlainModule) (name : List ℕ) (path : Path) →
    map (λ (i : Instance). i.number) (instances_named before name path) ≡ flat_map (expanded before) (option_list (number_named before name))
named_numbers [] name path = refl
named_numbers (m ∷ before) name path =
    let here : map (λ (i : Instance). i.number) (instances_within (instances_named before) (length before) m path) ≡ flat_map (expanded (m ∷ before)) (length before ∷ []) =
    ap (λ ks. length before ∷ ks) (among_numbers (instances_named before) before (named_numbers before) path m.items) ∙ sym (last_expanded m before) in
    let other = named_numbers before name path ∙ sym (older m before (option_list (number_named before name)) (named_below before name)) in
    elim (cases_Bool (bytes_eq name m.name)) [ inl t ↦ rw t here | inr f ↦ rw f other ]

pub text_numbers : (text : List PlainModule) → map (λ (i : Instance). i.number) (instances text) ≡ flat_map (expanded (reverse text)) (top_number (reverse text))
unfolding instances
text_numbers text = by (reverse text)
  where
    by : (behind : List PlainModule) → map (λ (i : Instance). i.number) (instances_of_last behind) ≡ flat_map (expanded behind) (top_number behind)
    by [] = refl
    by (m ∷ before) = ap (λ ks. length before ∷ ks) (among_numbers (instances_named before) before (named_numbers before) [] m.items) ∙ sym (last_expanded m before)

-- ---- the instances in each module, item by item and module by module

pub child_push : (before : List PlainModule) (items : List Item) (i : ℕ) (item : Item) (so_far : List ℕ) → i < length items → item ≡ get_or items i item →
    so_far ≡ child_numbers before (map plain_item (take i items)) →
    so_far ++ option_list (item_number before (plain_item item)) ≡ child_numbers before (map plain_item (take (i + 1) items))
child_push before items i item so_far l is are =
    let own = option_list (item_number before (plain_item item)) in
    let parted : map plain_item (take (i + 1) items) ≡ map plain_item (take i items) ++ plain_item item ∷ [] =
    ap (map plain_item) (take_next items i item l is) ∙ map-append plain_item (take i items) (item ∷ []) in
    ap (λ ks. ks ++ own) are
    ∙ ap (λ ks. child_numbers before (map plain_item (take i items)) ++ ks) (sym (append-nil own))
    ∙ sym (flat_map-append (λ x. option_list (item_number before x)) (map plain_item (take i items)) (plain_item item ∷ []))
    ∙ ap (child_numbers before) (sym parted)

pub children_push : {A : Type 0} (modules : List Module) (i : ℕ) (m : Module) (old : List (Vec ℕ A)) (inside : Vec ℕ A) → i < length modules → m ≡ get_or modules i m →
    lists old ≡ children_behind (reverse (map plain_module (take i modules))) →
    inside.items ≡ child_numbers (reverse (map plain_module (take i modules))) (map plain_item m.items.items) →
    lists (old ++ inside ∷ []) ≡ children_behind (reverse (map plain_module (take (i + 1) modules)))
children_push modules i m old inside l is are own =
    map-append (λ v. v.items) old (inside ∷ [])
    ∙ (λ j. are j ++ own j ∷ [])
    ∙ ap children_behind (sym (reversed_push modules i m l is))

pub behind_length : (modules : List Module) (i : ℕ) → i ≤ length modules → length (reverse (map plain_module (take i modules))) ≡ i
behind_length modules i l = length-reverse (map plain_module (take i modules)) ∙ length-map (take i modules) plain_module ∙ length-take-le i modules l
