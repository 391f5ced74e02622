-- Names fit where each net is declared before its uses, and no two declarations have one name.
use Rattle.std.proofs.Common.{◌≡◌, ℕ, Bool, true, false, ◌||◌, List, [], ◌∷◌, ◌++◌, map, Option, Some, None, refl, sym, ap, ◌∙◌, subst, All, Contains, inl, inr}
use Rattle.std.specs.List.{flat_map, list_any}
use Rattle.std.specs.Str.{bytes_eq}
use Rattle.std.proofs.lemmas.List.Concat.{flat_map-append}
use Rattle.std.proofs.lemmas.List.Elements.{All-nil, All-cons, All-append, All-head, All-tail, All-contains, All-contains_itself, All-weaker, Contains-append_left, Contains-append_right}
use Rattle.std.proofs.lemmas.Slice.Eq.{bytes_eq-Decides}
use Rattle.fab_syntax.specs.declared.tree.Shape.{Shape}
use Rattle.fab_syntax.specs.declared.tree.Port.{Port}
use Rattle.fab_syntax.specs.Plain.{PlainExpr, PlainJoin, PlainItem, PlainModule, constant, variable, wire, reg, assign, latch, clocked, instance}
use Rattle.fab_syntax.specs.Sound.{Mention, net, instance_name, use_of, joined_expressions, subexpressions, own_names, uses, item_mentions, mentions_in, is_net, is_declaration, refusals}
use Rattle.fab_meaning.proofs.Declared.{bytes_apart}
use Rattle.fab_drives_laws.proofs.Lists.{none_there, first_or_later}
use Rattle.fab_tiles_sound_laws.proofs.fab_parts_sound_laws_Declared.{port_names}
use Rattle.fab_tiles_sound_laws.proofs.fab_parts_sound_laws_Lists.{all_flat_map, pairs_head, pairs_tail, contains_first, contains_later}
use Rattle.fab_tiles_sound_laws.proofs.fab_parts_sound_laws_Names.{Differ, AreApart, IsKnown, UsesNets, net_names}
use Rattle.fab_text_sound_laws.proofs.TopApart.{item_names}

-- ---- mentions in order

abbrev declared_by : Mention → List (List ℕ)
declared_by (net name) = name ∷ []
declared_by (instance_name name) = name ∷ []
declared_by (use_of name) = []

abbrev declared_in : List Mention → List (List ℕ)
declared_in mentions = flat_map declared_by mentions

-- each name that is used is known, or a net of those before it
abbrev pub InOrder : (known : List (List ℕ)) → List Mention → Type 0
InOrder known [] = Unit {0}
InOrder known (net name ∷ rest) = InOrder (name ∷ known) rest
InOrder known (instance_name name ∷ rest) = InOrder known rest
InOrder known (use_of name ∷ rest) = Contains known name × InOrder known rest

abbrev IsNew : List Mention → List ℕ → Type 0
IsNew before name = list_any (is_declaration name) before ≡ false

still_new : (first : List ℕ) (names : List (List ℕ)) (before : List Mention) → All (Differ first) names → All (IsNew before) names →
    All (λ name. (bytes_eq first name || list_any (is_declaration name) before) ≡ false) names
still_new first names before differ new k d within =
    let other : bytes_eq first _ ≡ false = bytes_apart first _ (differ k d within) in
    rw other (new k d within)

either : (a b : Bool) → b ≡ true → (a || b) ≡ true
either true b e = refl
either false b e = e

abbrev IsThere : List Mention → List ℕ → Type 0
IsThere before name = list_any (is_net name) before ≡ true

in_order_passes : (known : List (List ℕ)) (before rest : List Mention) → All (IsThere before) known → InOrder known rest → AreApart (declared_in rest) → All (IsNew before) (declared_in rest) →
    refusals before rest ≡ []
in_order_passes known before [] there ordered apart new = refl
in_order_passes known before (net name ∷ rest) there ordered apart new =
    let here : list_any (is_declaration name) before ≡ false = All-head (IsNew before) name (declared_in rest) new in
    let same : bytes_eq name name ≡ true = (bytes_eq-Decides name name).1 refl in
    let later : refusals (net name ∷ before) rest ≡ [] =
    in_order_passes (name ∷ known) (net name ∷ before) rest
    (All-cons (IsThere (net name ∷ before)) name known (rw same refl)
    (All-weaker (IsThere before) (IsThere (net name ∷ before)) (λ other is. either (bytes_eq name other) (list_any (is_net other) before) is) known there))
    ordered (pairs_tail Differ name (declared_in rest) apart)
    (still_new name (declared_in rest) before (pairs_head Differ name (declared_in rest) apart) (All-tail (IsNew before) name (declared_in rest) new)) in
    rw here later
in_order_passes known before (instance_name name ∷ rest) there ordered apart new =
    let here : list_any (is_declaration name) before ≡ false = All-head (IsNew before) name (declared_in rest) new in
    let later : refusals (instance_name name ∷ before) rest ≡ [] =
    in_order_passes known (instance_name name ∷ before) rest there ordered (pairs_tail Differ name (declared_in rest) apart)
    (still_new name (declared_in rest) before (pairs_head Differ name (declared_in rest) apart) (All-tail (IsNew before) name (declared_in rest) new)) in
    rw here later
in_order_passes known before (use_of name ∷ rest) there ordered apart new =
    let here : list_any (is_net name) before ≡ true = All-contains (IsThere before) known name there ordered.0 in
    let later : refusals (use_of name ∷ before) rest ≡ [] = in_order_passes known (use_of name ∷ before) rest there ordered.1 apart new in
    rw here later

-- ---- more is known

abbrev pub Within : (names others : List (List ℕ)) → Type 0
Within names others = All (Contains others) names

within_more : (name : List ℕ) (names others : List (List ℕ)) → Within names others → Within (name ∷ names) (name ∷ others)
within_more name names others within =
    All-cons (Contains (name ∷ others)) name names (contains_first name others)
    (All-weaker (Contains others) (Contains (name ∷ others)) (λ other there. contains_later name others other there) names within)

within_moved : (name : List ℕ) (names others : List (List ℕ)) → Within (name ∷ (names ++ others)) (names ++ name ∷ others)
within_moved name names others =
    let whole = names ++ name ∷ others in
    All-cons (Contains whole) name (names ++ others) (Contains-append_right names (name ∷ others) name (contains_first name others))
    (All-append (Contains whole) names others
    (All-weaker (Contains names) (Contains whole) (λ other there. Contains-append_left names (name ∷ others) other there) names (All-contains_itself names))
    (All-weaker (Contains others) (Contains whole) (λ other there. Contains-append_right names (name ∷ others) other (contains_later name others other there)) others (All-contains_itself others)))

more_known : (names others : List (List ℕ)) (rest : List Mention) → Within names others → InOrder names rest → InOrder others rest
more_known names others [] within ordered = tt
more_known names others (net name ∷ rest) within ordered = more_known (name ∷ names) (name ∷ others) rest (within_more name names others within) ordered
more_known names others (instance_name name ∷ rest) within ordered = more_known names others rest within ordered
more_known names others (use_of name ∷ rest) within ordered =
    (All-contains (Contains others) names name within ordered.0, more_known names others rest within ordered.1)

known_first : (known : List (List ℕ)) (mentions rest : List Mention) → All (IsKnown known) mentions → InOrder known rest → InOrder known (mentions ++ rest)
known_first known [] rest all ordered = ordered
known_first known (net name ∷ mentions) rest all ordered = absurd (All-head (IsKnown known) (net name) mentions all)
known_first known (instance_name name ∷ mentions) rest all ordered = known_first known mentions rest (All-tail (IsKnown known) (instance_name name) mentions all) ordered
known_first known (use_of name ∷ mentions) rest all ordered =
    (All-head (IsKnown known) (use_of name) mentions all, known_first known mentions rest (All-tail (IsKnown known) (use_of name) mentions all) ordered)

known_more : (names others : List (List ℕ)) → Within names others → (mention : Mention) → IsKnown names mention → IsKnown others mention
known_more names others within (net name) known = known
known_more names others within (instance_name name) known = tt
known_more names others within (use_of name) known = All-contains (Contains others) names name within known

-- ---- items

-- an item declares a net, or uses nets of these names alone
abbrev pub UsesKnown : (known : List (List ℕ)) → PlainItem → Type 0
UsesKnown known (wire shape name) = Unit {0}
UsesKnown known (reg shape name) = Unit {0}
UsesKnown known item = UsesNets known item

uses_more : (names others : List (List ℕ)) → Within names others → (item : PlainItem) → UsesKnown names item → UsesKnown others item
uses_more names others within (wire shape name) used = tt
uses_more names others within (reg shape name) used = tt
uses_more names others within (assign target e) used = All-weaker (IsKnown names) (IsKnown others) (known_more names others within) (item_mentions (assign target e)) used
uses_more names others within (latch target gate e) used = All-weaker (IsKnown names) (IsKnown others) (known_more names others within) (item_mentions (latch target gate e)) used
uses_more names others within (clocked clock target e) used = All-weaker (IsKnown names) (IsKnown others) (known_more names others within) (item_mentions (clocked clock target e)) used
uses_more names others within (instance of i joins) used = All-weaker (IsKnown names) (IsKnown others) (known_more names others within) (item_mentions (instance of i joins)) used

all_more : (name : List ℕ) (known : List (List ℕ)) (items : List PlainItem) → All (UsesKnown known) items → All (UsesKnown (name ∷ known)) items
all_more name known items used =
    All-weaker (UsesKnown known) (UsesKnown (name ∷ known))
    (uses_more known (name ∷ known) (All-weaker (Contains known) (Contains (name ∷ known)) (λ other there. contains_later name known other there) known (All-contains_itself known))) items used

-- Items that use what is known stand before others that may use their nets too.
pub segment : (known : List (List ℕ)) (first rest : List PlainItem) → All (UsesKnown known) first → InOrder (net_names first ++ known) (flat_map item_mentions rest) →
    InOrder known (flat_map item_mentions (first ++ rest))
segment known [] rest used ordered = ordered
segment known (wire shape name ∷ items) rest used ordered =
    segment (name ∷ known) items rest (all_more name known items (All-tail (UsesKnown known) (wire shape name) items used))
    (more_known (name ∷ (net_names items ++ known)) (net_names items ++ name ∷ known) (flat_map item_mentions rest) (within_moved name (net_names items) known) ordered)
segment known (reg shape name ∷ items) rest used ordered =
    segment (name ∷ known) items rest (all_more name known items (All-tail (UsesKnown known) (reg shape name) items used))
    (more_known (name ∷ (net_names items ++ known)) (net_names items ++ name ∷ known) (flat_map item_mentions rest) (within_moved name (net_names items) known) ordered)
segment known (assign target e ∷ items) rest used ordered =
    known_first known (item_mentions (assign target e)) (flat_map item_mentions (items ++ rest)) (All-head (UsesKnown known) (assign target e) items used)
    (segment known items rest (All-tail (UsesKnown known) (assign target e) items used) ordered)
segment known (latch target gate e ∷ items) rest used ordered =
    known_first known (item_mentions (latch target gate e)) (flat_map item_mentions (items ++ rest)) (All-head (UsesKnown known) (latch target gate e) items used)
    (segment known items rest (All-tail (UsesKnown known) (latch target gate e) items used) ordered)
segment known (clocked clock target e ∷ items) rest used ordered =
    known_first known (item_mentions (clocked clock target e)) (flat_map item_mentions (items ++ rest)) (All-head (UsesKnown known) (clocked clock target e) items used)
    (segment known items rest (All-tail (UsesKnown known) (clocked clock target e) items used) ordered)
segment known (instance of i joins ∷ items) rest used ordered =
    known_first known (item_mentions (instance of i joins)) (flat_map item_mentions (items ++ rest)) (All-head (UsesKnown known) (instance of i joins) items used)
    (segment known items rest (All-tail (UsesKnown known) (instance of i joins) items used) ordered)

-- the last of them
pub last_segment : (known : List (List ℕ)) (items : List PlainItem) → All (UsesKnown known) items → InOrder known (flat_map item_mentions items)
last_segment known [] used = tt
last_segment known (wire shape name ∷ items) used = last_segment (name ∷ known) items (all_more name known items (All-tail (UsesKnown known) (wire shape name) items used))
last_segment known (reg shape name ∷ items) used = last_segment (name ∷ known) items (all_more name known items (All-tail (UsesKnown known) (reg shape name) items used))
last_segment known (assign target e ∷ items) used =
    known_first known (item_mentions (assign target e)) (flat_map item_mentions items) (All-head (UsesKnown known) (assign target e) items used) (last_segment known items (All-tail (UsesKnown known) (assign target e) items used))
last_segment known (latch target gate e ∷ items) used =
    known_first known (item_mentions (latch target gate e)) (flat_map item_mentions items) (All-head (UsesKnown known) (latch target gate e) items used) (last_segment known items (All-tail (UsesKnown known) (latch target gate e) items used))
last_segment known (clocked clock target e ∷ items) used =
    known_first known (item_mentions (clocked clock target e)) (flat_map item_mentions items) (All-head (UsesKnown known) (clocked clock target e) items used) (last_segment known items (All-tail (UsesKnown known) (clocked clock target e) items used))
last_segment known (instance of i joins ∷ items) used =
    known_first known (item_mentions (instance of i joins)) (flat_map item_mentions items) (All-head (UsesKnown known) (instance of i joins) items used) (last_segment known items (All-tail (UsesKnown known) (instance of i joins) items used))

-- ---- what items declare

none_declared : (names : List (List ℕ)) → declared_in (map use_of names) ≡ []
none_declared [] = refl
none_declared (name ∷ names) = none_declared names

in_expression : (e : PlainExpr) → declared_in (uses e) ≡ []
in_expression e = none_declared (flat_map own_names (subexpressions e))

skipped : (xs ys : List Mention) → declared_in xs ≡ [] → declared_in (xs ++ ys) ≡ declared_in ys
skipped xs ys none = flat_map-append declared_by xs ys ∙ ap (λ front. front ++ declared_in ys) none

in_join : (to : Option PlainExpr) → declared_in (flat_map uses (joined_expressions to)) ≡ []
in_join None = refl
in_join (Some e) = skipped (uses e) [] (in_expression e)

in_joins : (joins : List PlainJoin) → declared_in (flat_map (λ (join : PlainJoin). flat_map uses (joined_expressions join.to)) joins) ≡ []
in_joins [] = refl
in_joins (join ∷ joins) = skipped (flat_map uses (joined_expressions join.to)) (flat_map (λ (join : PlainJoin). flat_map uses (joined_expressions join.to)) joins) (in_join join.to) ∙ in_joins joins

in_item : (item : PlainItem) → declared_in (item_mentions item) ≡ item_names item
in_item (wire shape name) = refl
in_item (reg shape name) = refl
in_item (assign target e) = in_expression e
in_item (latch target gate e) = skipped (uses gate) (use_of target ∷ uses e) (in_expression gate) ∙ in_expression e
in_item (clocked clock target e) = in_expression e
in_item (instance of i joins) = ap (λ rest. i ∷ rest) (in_joins joins)

in_items : (items : List PlainItem) → declared_in (flat_map item_mentions items) ≡ flat_map item_names items
in_items [] = refl
in_items (item ∷ items) = flat_map-append declared_by (item_mentions item) (flat_map item_mentions items) ∙ (λ j. in_item item j ++ in_items items j)

abbrev port_mentions : List Port → List Mention
port_mentions ports = map (λ (port : Port). net port.name) ports

in_ports : (ports : List Port) → declared_in (port_mentions ports) ≡ port_names ports
in_ports [] = refl
in_ports (port ∷ ports) = ap (λ rest. port.name ∷ rest) (in_ports ports)

ports_first : (known : List (List ℕ)) (ports : List Port) (rest : List Mention) → InOrder (port_names ports ++ known) rest → InOrder known (port_mentions ports ++ rest)
ports_first known [] rest ordered = ordered
ports_first known (port ∷ ports) rest ordered =
    ports_first (port.name ∷ known) ports rest
    (more_known (port.name ∷ (port_names ports ++ known)) (port_names ports ++ port.name ∷ known) rest (within_moved port.name (port_names ports) known) ordered)

-- ---- together

pub names_in_order : (m : PlainModule) → AreApart (port_names m.ports ++ flat_map item_names m.items) → InOrder (port_names m.ports) (flat_map item_mentions m.items) →
    refusals [] (mentions_in m) ≡ []
names_in_order m apart ordered =
    let items = flat_map item_mentions m.items in
    let names = port_names m.ports in
    let declared : declared_in (port_mentions m.ports ++ items) ≡ names ++ flat_map item_names m.items =
    flat_map-append declared_by (port_mentions m.ports) items ∙ (λ j. in_ports m.ports j ++ in_items m.items j) in
    let more : Within names (names ++ []) = All-weaker (Contains names) (Contains (names ++ [])) (λ name there. Contains-append_left names [] name there) names (All-contains_itself names) in
    in_order_passes [] [] (port_mentions m.ports ++ items) (All-nil (IsThere []))
    (ports_first [] m.ports items (more_known names (names ++ []) items more ordered))
    (subst AreApart (sym declared) apart) (λ k d within. refl)

-- ---- nets among items

pub net_there : (items : List PlainItem) (shape : Shape) (name : List ℕ) → Contains items (wire shape name) → Contains (net_names items) name
net_there [] shape name there = absurd (none_there (wire shape name) there)
net_there (wire other_shape other ∷ items) shape name there =
    elim (first_or_later (wire other_shape other) items (wire shape name) there) [
      | inl is ↦ (let same : other ≡ name = cc in subst (Contains (other ∷ net_names items)) same (contains_first other (net_names items)))
      | inr behind ↦ contains_later other (net_names items) name (net_there items shape name behind)
    ]
net_there (reg other_shape other ∷ items) shape name there =
    elim (first_or_later (reg other_shape other) items (wire shape name) there) [
      | inl is ↦ absurd cc
      | inr behind ↦ contains_later other (net_names items) name (net_there items shape name behind)
    ]
net_there (assign target e ∷ items) shape name there =
    elim (first_or_later (assign target e) items (wire shape name) there) [ inl is ↦ absurd cc | inr behind ↦ net_there items shape name behind ]
net_there (latch target gate e ∷ items) shape name there =
    elim (first_or_later (latch target gate e) items (wire shape name) there) [ inl is ↦ absurd cc | inr behind ↦ net_there items shape name behind ]
net_there (clocked clock target e ∷ items) shape name there =
    elim (first_or_later (clocked clock target e) items (wire shape name) there) [ inl is ↦ absurd cc | inr behind ↦ net_there items shape name behind ]
net_there (instance of i joins ∷ items) shape name there =
    elim (first_or_later (instance of i joins) items (wire shape name) there) [ inl is ↦ absurd cc | inr behind ↦ net_there items shape name behind ]

-- ---- joins

-- a name that is joined is among these; and no more than names and constants are joined
abbrev pub IsJoinedTo : (names : List (List ℕ)) → Option PlainExpr → Type 0
IsJoinedTo names None = Unit {0}
IsJoinedTo names (Some (variable name)) = Contains names name
IsJoinedTo names (Some (constant bits)) = Unit {0}
IsJoinedTo names (Some _) = ⊥

abbrev pub Joins : (names : List (List ℕ)) → PlainJoin → Type 0
Joins names join = IsJoinedTo names join.to

join_known : (names : List (List ℕ)) (to : Option PlainExpr) → IsJoinedTo names to → All (IsKnown names) (flat_map uses (joined_expressions to))
join_known names None known = All-nil (IsKnown names)
join_known names (Some (variable name)) known = All-cons (IsKnown names) (use_of name) [] known (All-nil (IsKnown names))
join_known names (Some (constant bits)) known = All-nil (IsKnown names)
join_known names (Some _) known = absurd known

pub instance_uses : (names : List (List ℕ)) (of i : List ℕ) (joins : List PlainJoin) → All (Joins names) joins → UsesKnown names (instance of i joins)
instance_uses names of i joins all =
    All-cons (IsKnown names) (instance_name i) (flat_map (λ (join : PlainJoin). flat_map uses (joined_expressions join.to)) joins) tt
    (all_flat_map (IsKnown names) (λ (join : PlainJoin). flat_map uses (joined_expressions join.to)) joins
    (All-weaker (Joins names) (λ (join : PlainJoin). All (IsKnown names) (flat_map uses (joined_expressions join.to))) (λ join known. join_known names join.to known) joins all))
