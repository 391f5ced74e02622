-- When the names of a module fit: its nets are declared first and are apart, and what is used is among them.
use Rattle.std.proofs.Common.{◌≡◌, ◌≢◌, ℕ, Bool, true, false, ◌||◌, List, [], ◌∷◌, ◌++◌, map, Option, Some, None, refl, sym, ap, ◌∙◌, subst, All, AllPairs, Contains, append_assoc}
use Rattle.std.specs.List.{flat_map, list_any}
use Rattle.std.specs.Str.{bytes_eq}
use Rattle.std.proofs.lemmas.Bool.{false≢true}
use Rattle.std.proofs.lemmas.List.{map-append}
use Rattle.std.proofs.lemmas.List.Concat.{flat_map-append}
use Rattle.std.proofs.lemmas.List.Elements.{All-nil, All-cons, All-head, All-tail, All-map, All-contains, All-weaker}
use Rattle.std.proofs.lemmas.Slice.Eq.{bytes_eq-Decides}
use Rattle.fab_syntax.specs.declared.tree.Port.{Port}
use Rattle.fab_syntax.specs.Plain.{PlainExpr, PlainJoin, PlainItem, PlainModule, constant, variable, pick, part, concatenation, complement, operation, conditional, wire, reg, assign, latch, clocked, instance}
use Rattle.fab_syntax.specs.Sound.{Mention, net, instance_name, use_of, joined_expressions, subexpressions, own_names, uses, item_mentions, mentions_in, is_net, is_declaration, refusals}
use Rattle.fab_tile_drives_laws.proofs.fab_meaning_Declared.{bytes_apart}
use Rattle.fab_parts_sound_laws.proofs.Lists.{all_flat_map, pairs_head, pairs_tail, pairs_left, pairs_right, pairs_across}

abbrev pub Differ : List ℕ → List ℕ → Type 0
Differ first second = first ≢ second

-- names that a test tells apart differ
pub told_apart : (first second : List ℕ) → bytes_eq first second ≡ false → first ≢ second
told_apart first second told same = false≢true (sym told ∙ (bytes_eq-Decides first second).1 same)

-- no two of these names are one
abbrev pub AreApart : List (List ℕ) → Type 0
AreApart names = AllPairs Differ names

-- none of these names is this
abbrev pub IsNoneOf : List (List ℕ) → List ℕ → Type 0
IsNoneOf names name = All (λ other. other ≢ name) names

-- ---- what a module declares

-- the nets that items declare, in their order
abbrev pub net_names : List PlainItem → List (List ℕ)
net_names [] = []
net_names (wire shape name ∷ items) = name ∷ net_names items
net_names (reg shape name ∷ items) = name ∷ net_names items
net_names (_ ∷ items) = net_names items

-- the names of instances, in their order
abbrev pub instance_names : List PlainItem → List (List ℕ)
instance_names [] = []
instance_names (instance module_name name joins ∷ items) = name ∷ instance_names items
instance_names (_ ∷ items) = instance_names items

-- the nets that ports and items declare
abbrev pub nets : List Port → List PlainItem → List (List ℕ)
nets ports items = map (λ (port : Port). port.name) ports ++ net_names items

-- an item that declares a net
abbrev pub IsNet : PlainItem → Type 0
IsNet (wire shape name) = Unit {0}
IsNet (reg shape name) = Unit {0}
IsNet _ = ⊥

-- what is mentioned behind the nets: uses of them, and names of instances
abbrev pub IsKnown : (names : List (List ℕ)) → Mention → Type 0
IsKnown names (net name) = ⊥
IsKnown names (instance_name name) = Unit {0}
IsKnown names (use_of name) = Contains names name

-- an item behind the declarations of nets, whose names are among them
abbrev pub UsesNets : (names : List (List ℕ)) → PlainItem → Type 0
UsesNets names item = All (IsKnown names) (item_mentions item)

-- ---- nets, one after another

abbrev behind : (before : List Mention) → (names : List (List ℕ)) → List Mention
behind before [] = before
behind before (name ∷ names) = behind (net name ∷ before) names

or_right : (a b : Bool) → b ≡ true → (a || b) ≡ true
or_right true b e = refl
or_right false b e = e

-- a name that is not declared, and differs from the next, is not declared behind it
still_new : (first name : List ℕ) (before : List Mention) → first ≢ name → list_any (is_declaration name) before ≡ false →
    (bytes_eq first name || list_any (is_declaration name) before) ≡ false
still_new first name before differ new = let other : bytes_eq first name ≡ false = bytes_apart first name differ in rw other new

all_still_new : (first : List ℕ) (names : List (List ℕ)) (before : List Mention) → All (Differ first) names → All (λ name. list_any (is_declaration name) before ≡ false) names →
    All (λ name. (bytes_eq first name || list_any (is_declaration name) before) ≡ false) names
all_still_new first names before differ new k d within = still_new first _ before (differ k d within) (new k d within)

nets_pass : (before : List Mention) (names : List (List ℕ)) (rest : List Mention) → AreApart names → All (λ name. list_any (is_declaration name) before ≡ false) names →
    refusals before (map net names ++ rest) ≡ refusals (behind before names) rest
nets_pass before [] rest apart new = refl
nets_pass before (name ∷ names) rest apart new =
    let here : list_any (is_declaration name) before ≡ false = All-head (λ n. list_any (is_declaration n) before ≡ false) name names new in
    let later : refusals (net name ∷ before) (map net names ++ rest) ≡ refusals (behind (net name ∷ before) names) rest =
    nets_pass (net name ∷ before) names rest (pairs_tail Differ name names apart)
    (all_still_new name names before (pairs_head Differ name names apart) (All-tail (λ n. list_any (is_declaration n) before ≡ false) name names new)) in
    rw here later

still_there : (name : List ℕ) (before : List Mention) (names : List (List ℕ)) → list_any (is_net name) before ≡ true → list_any (is_net name) (behind before names) ≡ true
still_there name before [] there = there
still_there name before (other ∷ names) there = still_there name (net other ∷ before) names (or_right (bytes_eq other name) (list_any (is_net name) before) there)

-- each net is declared behind all of them
all_there : (before : List Mention) (names : List (List ℕ)) → All (λ name. list_any (is_net name) (behind before names) ≡ true) names
all_there before [] = All-nil (λ name. list_any (is_net name) before ≡ true)
all_there before (name ∷ names) =
    let same : bytes_eq name name ≡ true = (bytes_eq-Decides name name).1 refl in
    All-cons (λ n. list_any (is_net n) (behind (net name ∷ before) names) ≡ true) name names
    (still_there name (net name ∷ before) names (rw same refl)) (all_there (net name ∷ before) names)

new_behind : (name : List ℕ) (before : List Mention) (names : List (List ℕ)) → list_any (is_declaration name) before ≡ false → All (λ other. other ≢ name) names →
    list_any (is_declaration name) (behind before names) ≡ false
new_behind name before [] new differ = new
new_behind name before (other ∷ names) new differ =
    new_behind name (net other ∷ before) names (still_new other name before (All-head (λ o. o ≢ name) other names differ) new) (All-tail (λ o. o ≢ name) other names differ)

-- ---- what follows them

abbrev instance_mentions : List Mention → List (List ℕ)
instance_mentions [] = []
instance_mentions (instance_name name ∷ rest) = name ∷ instance_mentions rest
instance_mentions (_ ∷ rest) = instance_mentions rest

later_pass : (names : List (List ℕ)) (before rest : List Mention) → All (λ name. list_any (is_net name) before ≡ true) names → All (IsKnown names) rest →
    AreApart (instance_mentions rest) → All (λ name. list_any (is_declaration name) before ≡ false) (instance_mentions rest) → refusals before rest ≡ []
later_pass names before [] there known apart new = refl
later_pass names before (net name ∷ rest) there known apart new = absurd (All-head (IsKnown names) (net name) rest known)
later_pass names before (instance_name name ∷ rest) there known apart new =
    let here : list_any (is_declaration name) before ≡ false = All-head (λ n. list_any (is_declaration n) before ≡ false) name (instance_mentions rest) new in
    let later : refusals (instance_name name ∷ before) rest ≡ [] =
    later_pass names (instance_name name ∷ before) rest there (All-tail (IsKnown names) (instance_name name) rest known) (pairs_tail Differ name (instance_mentions rest) apart)
    (all_still_new name (instance_mentions rest) before (pairs_head Differ name (instance_mentions rest) apart) (All-tail (λ n. list_any (is_declaration n) before ≡ false) name (instance_mentions rest) new)) in
    rw here later
later_pass names before (use_of name ∷ rest) there known apart new =
    let here : list_any (is_net name) before ≡ true = All-contains (λ n. list_any (is_net n) before ≡ true) names name there (All-head (IsKnown names) (use_of name) rest known) in
    let later : refusals (use_of name ∷ before) rest ≡ [] =
    later_pass names (use_of name ∷ before) rest there (All-tail (IsKnown names) (use_of name) rest known) apart new in
    rw here later

-- ---- items

port_mentions : (ports : List Port) → map (λ (port : Port). net port.name) ports ≡ map net (map (λ (port : Port). port.name) ports)
port_mentions [] = refl
port_mentions (port ∷ ports) = ap (λ rest. net port.name ∷ rest) (port_mentions ports)

net_mentions : (items : List PlainItem) → All IsNet items → flat_map item_mentions items ≡ map net (net_names items)
net_mentions [] all = refl
net_mentions (wire shape name ∷ items) all = ap (λ rest. net name ∷ rest) (net_mentions items (All-tail IsNet (wire shape name) items all))
net_mentions (reg shape name ∷ items) all = ap (λ rest. net name ∷ rest) (net_mentions items (All-tail IsNet (reg shape name) items all))
net_mentions (assign target e ∷ items) all = absurd (All-head IsNet (assign target e) items all)
net_mentions (latch target gate e ∷ items) all = absurd (All-head IsNet (latch target gate e) items all)
net_mentions (clocked clock target e ∷ items) all = absurd (All-head IsNet (clocked clock target e) items all)
net_mentions (instance module_name i joins ∷ items) all = absurd (All-head IsNet (instance module_name i joins) items all)

instances-append : (xs ys : List Mention) → instance_mentions (xs ++ ys) ≡ instance_mentions xs ++ instance_mentions ys
instances-append [] ys = refl
instances-append (net name ∷ xs) ys = instances-append xs ys
instances-append (instance_name name ∷ xs) ys = ap (λ rest. name ∷ rest) (instances-append xs ys)
instances-append (use_of name ∷ xs) ys = instances-append xs ys

no_instances : (names : List (List ℕ)) → instance_mentions (map use_of names) ≡ []
no_instances [] = refl
no_instances (name ∷ names) = no_instances names

skipped : (xs ys : List Mention) → instance_mentions xs ≡ [] → instance_mentions (xs ++ ys) ≡ instance_mentions ys
skipped xs ys none = instances-append xs ys ∙ ap (λ front. front ++ instance_mentions ys) none

no_instance_used : (e : PlainExpr) → instance_mentions (uses e) ≡ []
no_instance_used e = no_instances (flat_map own_names (subexpressions e))

no_instance_joined : (to : Option PlainExpr) → instance_mentions (flat_map uses (joined_expressions to)) ≡ []
no_instance_joined None = refl
no_instance_joined (Some e) = instances-append (uses e) [] ∙ ap (λ front. front ++ []) (no_instance_used e)

no_instance_in_joins : (joins : List PlainJoin) → instance_mentions (flat_map (λ (join : PlainJoin). flat_map uses (joined_expressions join.to)) joins) ≡ []
no_instance_in_joins [] = refl
no_instance_in_joins (join ∷ joins) = skipped (flat_map uses (joined_expressions join.to)) _ (no_instance_joined join.to) ∙ no_instance_in_joins joins

items_instances : (items : List PlainItem) → instance_mentions (flat_map item_mentions items) ≡ instance_names items
items_instances [] = refl
items_instances (wire shape name ∷ items) = items_instances items
items_instances (reg shape name ∷ items) = items_instances items
items_instances (assign target e ∷ items) = skipped (item_mentions (assign target e)) (flat_map item_mentions items) (no_instance_used e) ∙ items_instances items
items_instances (latch target gate e ∷ items) =
    skipped (item_mentions (latch target gate e)) (flat_map item_mentions items) (skipped (uses gate) (use_of target ∷ uses e) (no_instance_used gate) ∙ no_instance_used e)
    ∙ items_instances items
items_instances (clocked clock target e ∷ items) = skipped (item_mentions (clocked clock target e)) (flat_map item_mentions items) (no_instance_used e) ∙ items_instances items
items_instances (instance module_name i joins ∷ items) =
    ap (λ rest. i ∷ rest) (skipped (flat_map (λ (join : PlainJoin). flat_map uses (joined_expressions join.to)) joins) (flat_map item_mentions items) (no_instance_in_joins joins) ∙ items_instances items)

-- ---- together

-- Where nets are declared before all else, names that are apart are fit if those that are used are among the nets.
pub names_fit : (m : PlainModule) (declarations rest : List PlainItem) → m.items ≡ declarations ++ rest → All IsNet declarations →
    AreApart (nets m.ports declarations ++ instance_names rest) → All (UsesNets (nets m.ports declarations)) rest → refusals [] (mentions_in m) ≡ []
names_fit m declarations rest are declare apart used =
    let names = nets m.ports declarations in
    let later = flat_map item_mentions rest in
    let in_order : mentions_in m ≡ map net names ++ later =
    ap (λ items. map (λ (port : Port). net port.name) m.ports ++ flat_map item_mentions items) are
    ∙ (λ j. port_mentions m.ports j ++ (flat_map-append item_mentions declarations rest ∙ ap (λ front. front ++ later) (net_mentions declarations declare)) j)
    ∙ sym (append_assoc (map net (map (λ (port : Port). port.name) m.ports)) (map net (net_names declarations)) later)
    ∙ ap (λ front. front ++ later) (sym (map-append net (map (λ (port : Port). port.name) m.ports) (net_names declarations))) in
    let named = items_instances rest in
    ap (refusals []) in_order
    ∙ nets_pass [] names later (pairs_left Differ names (instance_names rest) apart) (λ k d within. refl)
    ∙ later_pass names (behind [] names) later (all_there [] names) (all_flat_map (IsKnown names) item_mentions rest used)
    (subst AreApart (sym named) (pairs_right Differ names (instance_names rest) apart))
    (subst (All (λ name. list_any (is_declaration name) (behind [] names) ≡ false)) (sym named)
    (λ k d within. new_behind _ [] names refl (λ i o few. pairs_across Differ names (instance_names rest) apart i o few k d within)))

-- ---- the uses of an expression

-- the names of an expression's own are among these
abbrev pub OwnKnown : (names : List (List ℕ)) → PlainExpr → Type 0
OwnKnown names (variable name) = Contains names name
OwnKnown names (pick name index) = Contains names name
OwnKnown names (part name high low) = Contains names name
OwnKnown names _ = Unit {0}

own_known : (names : List (List ℕ)) (e : PlainExpr) → OwnKnown names e → All (Contains names) (own_names e)
own_known names (constant bits) known = All-nil (Contains names)
own_known names (variable name) known = All-cons (Contains names) name [] known (All-nil (Contains names))
own_known names (pick name index) known = All-cons (Contains names) name [] known (All-nil (Contains names))
own_known names (part name high low) known = All-cons (Contains names) name [] known (All-nil (Contains names))
own_known names (concatenation es) known = All-nil (Contains names)
own_known names (complement e) known = All-nil (Contains names)
own_known names (operation op a b) known = All-nil (Contains names)
own_known names (conditional c a b) known = All-nil (Contains names)

pub uses_known : (names : List (List ℕ)) (e : PlainExpr) → All (OwnKnown names) (subexpressions e) → All (IsKnown names) (uses e)
uses_known names e known =
    All-map (IsKnown names) use_of (flat_map own_names (subexpressions e))
    (all_flat_map (Contains names) own_names (subexpressions e) (All-weaker (OwnKnown names) (λ sub. All (Contains names) (own_names sub)) (own_known names) (subexpressions e) known))
