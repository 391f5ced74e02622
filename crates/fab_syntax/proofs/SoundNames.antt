-- What the rule on names gives: a name that is used is declared as a net, and no name is declared twice.
use Rattle.std.proofs.Common.{◌≡◌, ◌⊎◌, ℕ, ◌+◌, ◌<◌, ◌≤◌, Bool, true, false, ◌||◌, List, [], ◌∷◌, ◌++◌, map, Option, Some, None, if◌then◌else◌, All, refl, sym, ap, ◌∙◌, subst, inl, inr, arith}
use Rattle.std.specs.List.{flat_map, list_any}
use Rattle.std.specs.Str.{bytes_eq}
use Rattle.std.proofs.lemmas.Bool.{cases_Bool, cases_lt}
use Rattle.std.proofs.lemmas.List.Folds.{list_any-append}
use Rattle.std.proofs.lemmas.List.Elements.{All-nil, All-cons, All-head, All-tail}
use Rattle.std.proofs.lemmas.Slice.Eq.{bytes_eq-Decides}
use Rattle.fab_base.specs.declared.words.Reason.{Reason}
use Rattle.fab_base.specs.declared.words.Reason.TheVariants.{NameTwice, UnknownName}
use Rattle.fab_syntax.specs.declared.tree.Shape.{Shape}
use Rattle.fab_syntax.specs.declared.tree.Port.{Port}
use Rattle.fab_syntax.specs.Plain.{PlainExpr, PlainJoin, PlainItem, PlainModule, variable, wire, reg, assign, latch, clocked, instance}
use Rattle.fab_syntax.specs.Declarations.{module_named, is_input_of, one_if_same, one_if_variable, times_joined_out, times_driven_by, times_driven, times_instance, item_shape, declared_shape}
use Rattle.fab_syntax.specs.Sound.{Mention, net, instance_name, use_of, joined_expressions, subexpressions, own_names, uses, item_mentions, mentions_in, is_net, is_declaration, refusal, refusals, text_refusals}

-- an empty list has empty parts
front_empty : {X : Type 0} (xs ys : List X) → xs ++ ys ≡ [] → xs ≡ []
front_empty [] ys e = refl
front_empty (x ∷ xs) ys e = cc

back_empty : {X : Type 0} (xs ys : List X) → xs ++ ys ≡ [] → ys ≡ []
back_empty [] ys e = e
back_empty (x ∷ xs) ys e = cc

or_shift : (a b c : Bool) → (b || (a || c)) ≡ true → ((a || b) || c) ≡ true
or_shift true b c e = refl
or_shift false b c e = e

or_right : (a b : Bool) → b ≡ true → (a || b) ≡ true
or_right true b e = refl
or_right false b e = e

or_left : (a b : Bool) → a ≡ true → (a || b) ≡ true
or_left true b e = refl
or_left false b e = cc

unless_refused : (b : Bool) → (if b then [] else UnknownName ∷ []) ≡ [] → b ≡ true
unless_refused true e = refl
unless_refused false e = cc

if_refused : (b : Bool) → (if b then NameTwice ∷ [] else []) ≡ [] → b ≡ false
if_refused true e = cc
if_refused false e = refl

-- in each module of a text with fitting names, no name is refused
pub each_names_fit : (before rest : List PlainModule) → text_refusals before rest ≡ [] → All (λ m. refusals [] (mentions_in m) ≡ []) rest
each_names_fit before [] none = All-nil (λ m. refusals [] (mentions_in m) ≡ [])
each_names_fit before (m ∷ rest) none =
    let later : refusals [] (mentions_in m) ++ text_refusals (m ∷ before) rest ≡ [] = back_empty _ _ none in
    All-cons (λ n. refusals [] (mentions_in n) ≡ []) m rest (front_empty _ _ later) (each_names_fit (m ∷ before) rest (back_empty _ _ later))

-- whether a name is used as a net
abbrev pub is_use : (name : List ℕ) → Mention → Bool
is_use name (use_of other) = bytes_eq other name
is_use name _ = false

-- how often a name is declared
abbrev pub times_declared : (name : List ℕ) → List Mention → ℕ
times_declared name [] = 0
times_declared name (mention ∷ rest) = (if is_declaration name mention then 1 else 0) + times_declared name rest

-- whether an item declares a net
abbrev pub is_net_item : PlainItem → Bool
is_net_item (wire shape name) = true
is_net_item (reg shape name) = true
is_net_item _ = false

module _ (name : List ℕ) where
  used_declared : (before rest : List Mention) → refusals before rest ≡ [] → list_any (is_use name) rest ≡ true →
      (list_any (is_net name) rest || list_any (is_net name) before) ≡ true
  used_declared before [] none used = cc
  used_declared before (net other ∷ rest) none used =
      or_shift (bytes_eq other name) (list_any (is_net name) rest) (list_any (is_net name) before)
      (used_declared (net other ∷ before) rest (back_empty _ _ none) used)
  used_declared before (instance_name other ∷ rest) none used = used_declared (instance_name other ∷ before) rest (back_empty _ _ none) used
  used_declared before (use_of other ∷ rest) none used =
      elim (cases_Bool (bytes_eq other name)) [
        | inl y ↦ (let same : other ≡ name = (bytes_eq-Decides other name).0 y in
            or_right (list_any (is_net name) rest) (list_any (is_net name) before)
            (subst (λ (n : List ℕ). list_any (is_net n) before ≡ true) same (unless_refused (list_any (is_net other) before) (front_empty _ _ none))))
        | inr n ↦ used_declared (use_of other ∷ before) rest (back_empty _ _ none) (rw n at used)
      ]

  -- a name that is used is declared, where no name is refused
  pub used_is_net : (mentions : List Mention) → refusals [] mentions ≡ [] → list_any (is_use name) mentions ≡ true → list_any (is_net name) mentions ≡ true
  used_is_net mentions none used = or_false (list_any (is_net name) mentions) (used_declared [] mentions none used)
    where
      or_false : (a : Bool) → (a || false) ≡ true → a ≡ true
      or_false true e = refl
      or_false false e = e

  declared_step : (other : List ℕ) (before : List Mention) (rest : ℕ) → (if list_any (is_declaration other) before then NameTwice ∷ [] else []) ≡ [] →
      rest + (if bytes_eq other name || list_any (is_declaration name) before then 1 else 0) ≤ 1 →
      ((if bytes_eq other name then 1 else 0) + rest) + (if list_any (is_declaration name) before then 1 else 0) ≤ 1
  declared_step other before rest none h =
      elim (cases_Bool (bytes_eq other name)) [
        | inl y ↦ (let same : other ≡ name = (bytes_eq-Decides other name).0 y in
            let new : list_any (is_declaration name) before ≡ false =
            subst (λ (n : List ℕ). list_any (is_declaration n) before ≡ false) same (if_refused (list_any (is_declaration other) before) none) in
            let one : rest + 1 ≤ 1 = rw y at h in
            rw (y, new) (omega arith))
        | inr n ↦ (let k : rest + (if list_any (is_declaration name) before then 1 else 0) ≤ 1 = rw n at h in rw n (omega arith))
      ]

  declared_once_from : (before rest : List Mention) → refusals before rest ≡ [] →
      times_declared name rest + (if list_any (is_declaration name) before then 1 else 0) ≤ 1
  declared_once_from before [] none = elim (list_any (is_declaration name) before) as (λ b. 0 + (if b then 1 else 0) ≤ 1) [ true ↦ omega arith | false ↦ omega arith ]
  declared_once_from before (net other ∷ rest) none =
      declared_step other before (times_declared name rest) (front_empty _ _ none) (declared_once_from (net other ∷ before) rest (back_empty _ _ none))
  declared_once_from before (instance_name other ∷ rest) none =
      declared_step other before (times_declared name rest) (front_empty _ _ none) (declared_once_from (instance_name other ∷ before) rest (back_empty _ _ none))
  declared_once_from before (use_of other ∷ rest) none =
      omega (arith, declared_once_from (use_of other ∷ before) rest (back_empty (refusal before (use_of other)) _ none))

  pub declared_once : (mentions : List Mention) → refusals [] mentions ≡ [] → times_declared name mentions ≤ 1
  declared_once mentions none = omega (arith, declared_once_from [] mentions none)

  -- ---- what an item mentions

  times_declared-append : (xs ys : List Mention) → times_declared name (xs ++ ys) ≡ times_declared name xs + times_declared name ys
  times_declared-append [] ys = omega arith
  times_declared-append (x ∷ xs) ys = omega (arith, times_declared-append xs ys)

  instance_declared : (items : List PlainItem) → times_instance items name ≤ times_declared name (flat_map item_mentions items)
  instance_declared [] = omega arith
  instance_declared (wire shape other ∷ items) = omega (arith, instance_declared items)
  instance_declared (reg shape other ∷ items) = omega (arith, instance_declared items)
  instance_declared (assign target e ∷ items) = omega (arith, instance_declared items, times_declared-append (item_mentions (assign target e)) (flat_map item_mentions items))
  instance_declared (latch target gate e ∷ items) = omega (arith, instance_declared items, times_declared-append (item_mentions (latch target gate e)) (flat_map item_mentions items))
  instance_declared (clocked clock target e ∷ items) = omega (arith, instance_declared items, times_declared-append (item_mentions (clocked clock target e)) (flat_map item_mentions items))
  instance_declared (instance module_name i joins ∷ items) =
      omega (arith, instance_declared items, times_declared-append (item_mentions (instance module_name i joins)) (flat_map item_mentions items))

  pub instance_once : (ports : List Port) (items : List PlainItem) →
      times_declared name (map (λ (port : Port). net port.name) ports ++ flat_map item_mentions items) ≤ 1 → times_instance items name ≤ 1
  instance_once ports items h =
      omega (arith, instance_declared items, times_declared-append (map (λ (port : Port). net port.name) ports) (flat_map item_mentions items))

  -- ---- what is driven is used

  any_left : (p : Mention → Bool) (xs ys : List Mention) → list_any p xs ≡ true → list_any p (xs ++ ys) ≡ true
  any_left p xs ys h = list_any-append p xs ys ∙ or_left (list_any p xs) (list_any p ys) h

  any_right : (p : Mention → Bool) (xs ys : List Mention) → list_any p ys ≡ true → list_any p (xs ++ ys) ≡ true
  any_right p xs ys h = list_any-append p xs ys ∙ or_right (list_any p xs) (list_any p ys) h

  pub one_same : (other : List ℕ) → 1 ≤ one_if_same other name → bytes_eq other name ≡ true
  one_same other h = elim (cases_Bool (bytes_eq other name)) [ inl y ↦ y | inr n ↦ (let z : one_if_same other name ≡ 0 = rw n refl in absurd (omega arith)) ]

  join_uses : (input : Bool) (to : Option PlainExpr) → 1 ≤ (if input then 0 else one_if_variable to name) → list_any (is_use name) (flat_map uses (joined_expressions to)) ≡ true
  join_uses true to h = absurd (omega arith)
  join_uses false None h = absurd (omega arith)
  join_uses false (Some (variable other)) h = rw (one_same other h) refl
  join_uses false (Some _) h = absurd (omega arith)

  joins_use : (of : Option PlainModule) (joins : List PlainJoin) → 1 ≤ times_joined_out of joins name →
      list_any (is_use name) (flat_map (λ (join : PlainJoin). flat_map uses (joined_expressions join.to)) joins) ≡ true
  joins_use of [] h = absurd (omega arith)
  joins_use of (join ∷ joins) h =
      elim (cases_lt 0 (if is_input_of of join.port then 0 else one_if_variable join.to name)) [
        | inl y ↦ any_left (is_use name) (flat_map uses (joined_expressions join.to)) _ (join_uses (is_input_of of join.port) join.to (omega arith))
        | inr n ↦ any_right (is_use name) (flat_map uses (joined_expressions join.to)) _ (joins_use of joins (omega arith))
      ]

  item_uses : (text : List PlainModule) (item : PlainItem) → 1 ≤ times_driven_by text item name → list_any (is_use name) (item_mentions item) ≡ true
  item_uses text (wire shape other) h = absurd (omega arith)
  item_uses text (reg shape other) h = absurd (omega arith)
  item_uses text (assign target e) h = or_left (bytes_eq target name) _ (one_same target h)
  item_uses text (latch target gate e) h = any_right (is_use name) (uses gate) (use_of target ∷ uses e) (or_left (bytes_eq target name) _ (one_same target h))
  item_uses text (clocked clock target e) h = or_right (bytes_eq clock name) _ (or_left (bytes_eq target name) _ (one_same target h))
  item_uses text (instance module_name i joins) h = joins_use (module_named text module_name) joins h

  pub items_use : (text : List PlainModule) (items : List PlainItem) → 1 ≤ times_driven text items name → list_any (is_use name) (flat_map item_mentions items) ≡ true
  items_use text [] h = absurd (omega arith)
  items_use text (item ∷ items) h =
      elim (cases_lt 0 (times_driven_by text item name)) [
        | inl y ↦ any_left (is_use name) (item_mentions item) _ (item_uses text item (omega arith))
        | inr n ↦ any_right (is_use name) (item_mentions item) _ (items_use text items (omega arith))
      ]

  -- ---- what is declared as a net is a port, a wire or a register

  no_nets : (names : List (List ℕ)) → list_any (is_net name) (map use_of names) ≡ false
  no_nets [] = refl
  no_nets (other ∷ names) = no_nets names

  no_uses : (e : PlainExpr) → list_any (is_net name) (uses e) ≡ false
  no_uses e = no_nets (flat_map own_names (subexpressions e))

  skipped : (xs ys : List Mention) → list_any (is_net name) xs ≡ false → list_any (is_net name) (xs ++ ys) ≡ list_any (is_net name) ys
  skipped xs ys none = list_any-append (is_net name) xs ys ∙ ap (λ b. b || list_any (is_net name) ys) none

  no_net_joined : (to : Option PlainExpr) → list_any (is_net name) (flat_map uses (joined_expressions to)) ≡ false
  no_net_joined None = refl
  no_net_joined (Some e) = list_any-append (is_net name) (uses e) [] ∙ ap (λ b. b || false) (no_uses e)

  no_net_joins : (joins : List PlainJoin) → list_any (is_net name) (flat_map (λ (join : PlainJoin). flat_map uses (joined_expressions join.to)) joins) ≡ false
  no_net_joins [] = refl
  no_net_joins (join ∷ joins) = skipped (flat_map uses (joined_expressions join.to)) _ (no_net_joined join.to) ∙ no_net_joins joins

  -- the mentions of an item that declares no net
  pub net_skipped : (item : PlainItem) → is_net_item item ≡ false → (rest : List Mention) →
      list_any (is_net name) (item_mentions item ++ rest) ≡ list_any (is_net name) rest
  net_skipped (wire shape other) none rest = cc
  net_skipped (reg shape other) none rest = cc
  net_skipped (assign target e) none rest = skipped (item_mentions (assign target e)) rest (no_uses e)
  net_skipped (latch target gate e) none rest =
      skipped (item_mentions (latch target gate e)) rest (skipped (uses gate) (use_of target ∷ uses e) (no_uses gate) ∙ no_uses e)
  net_skipped (clocked clock target e) none rest = skipped (item_mentions (clocked clock target e)) rest (no_uses e)
  net_skipped (instance module_name i joins) none rest = skipped (item_mentions (instance module_name i joins)) rest (no_net_joins joins)

  -- ---- a net has a shape

  item_has_shape : (items : List PlainItem) → list_any (is_net name) (flat_map item_mentions items) ≡ true → (shape : Shape) × (item_shape items name ≡ Some shape)
  item_has_shape [] there = cc
  item_has_shape (wire shape other ∷ items) there =
      elim (cases_Bool (bytes_eq other name)) [ inl y ↦ (shape, rw y refl) | inr n ↦ (let rest = item_has_shape items (rw n at there) in (rest.0, rw n rest.1)) ]
  item_has_shape (reg shape other ∷ items) there =
      elim (cases_Bool (bytes_eq other name)) [ inl y ↦ (shape, rw y refl) | inr n ↦ (let rest = item_has_shape items (rw n at there) in (rest.0, rw n rest.1)) ]
  item_has_shape (assign target e ∷ items) there = item_has_shape items (sym (net_skipped (assign target e) refl (flat_map item_mentions items)) ∙ there)
  item_has_shape (latch target gate e ∷ items) there = item_has_shape items (sym (net_skipped (latch target gate e) refl (flat_map item_mentions items)) ∙ there)
  item_has_shape (clocked clock target e ∷ items) there = item_has_shape items (sym (net_skipped (clocked clock target e) refl (flat_map item_mentions items)) ∙ there)
  item_has_shape (instance module_name i joins ∷ items) there =
      item_has_shape items (sym (net_skipped (instance module_name i joins) refl (flat_map item_mentions items)) ∙ there)

  pub net_has_shape : (ports : List Port) (items : List PlainItem) →
      list_any (is_net name) (map (λ (port : Port). net port.name) ports ++ flat_map item_mentions items) ≡ true → (shape : Shape) × (declared_shape ports items name ≡ Some shape)
  net_has_shape [] items there = item_has_shape items there
  net_has_shape (port ∷ ports) items there =
      elim (cases_Bool (bytes_eq port.name name)) [
        | inl y ↦ (port.shape, rw y refl)
        | inr n ↦ (let rest = net_has_shape ports items (rw n at there) in (rest.0, rw n rest.1))
      ]

  -- a name that an item drives has a shape
  pub driven_has_shape : (text : List PlainModule) (m : PlainModule) → refusals [] (mentions_in m) ≡ [] → 1 ≤ times_driven text m.items name →
      (shape : Shape) × (declared_shape m.ports m.items name ≡ Some shape)
  driven_has_shape text m none driven =
      net_has_shape m.ports m.items
      (used_is_net (mentions_in m) none (any_right (is_use name) (map (λ (port : Port). net port.name) m.ports) (flat_map item_mentions m.items) (items_use text m.items driven)))
