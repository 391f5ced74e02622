-- The names of a module against a map of those before: what is passed, and what is refused.
use Rattle.std.proofs.Common.{◌≡◌, ℕ, List, [], ◌∷◌, ◌++◌, map, Option, Some, None, Bool, true, false, not, is_some, ◌&&◌, ◌||◌, if◌then◌else◌, append_assoc, append-nil, drop, length, get_or, suc, ◌+◌, ◌<◌, arith, refl, sym, ap, ◌∙◌, subst, inl, inr}
use Rattle.std.specs.Borrow.{Bor}
use Rattle.std.specs.Prelude.{Result, Ok, Err, MatchOption, MatchResult}
use Rattle.std.specs.List.{flat_map, list_all, list_any}
use Rattle.std.specs.Str.{bytes_eq}
use Rattle.std.proofs.lemmas.Bool.{cases_Bool}
use Rattle.std.proofs.lemmas.List.Folds.{list_all-append}
use Rattle.std.proofs.lemmas.Slice.Eq.{bytes_eq-Decides}
use Rattle.std.specs.Map.{lookup}
use Rattle.std.proofs.Math.Seq.{drop-cons}
use Rattle.indexmap.specs.IndexMap.{IndexMap}
use Rattle.fab_syntax.specs.declared.tree.Port.{Port}
use Rattle.fab_syntax.specs.declared.tree.Item.{Item}
use Rattle.fab_syntax.specs.declared.tree.Module.{Module}
use Rattle.fab_base.specs.declared.words.Reason.{Reason}
use Rattle.fab_base.specs.declared.words.Reason.TheVariants.{NameTwice, UnknownName}
use Rattle.fab_syntax.specs.Plain.{PlainExpr, PlainJoin, PlainItem, wire, reg, assign, latch, clocked, instance, PlainModule, plain_item, plain_module}
use Rattle.fab_syntax.specs.Declarations.{module_named}
use Rattle.fab_syntax.specs.Sound.{Mention, net, instance_name, use_of, joined_expressions, uses, item_mentions, item_expressions, is_net, is_declaration, refusals, mentions_in, text_refusals, IsFirstBroken, breaks_names}
use Rattle.fab_sound.specs.declared.tables.Declared.{Declared}
use Rattle.fab_sound.specs.declared.tables.Declared.TheVariants.{Inner, Instance}
use Rattle.fab_sound.specs.inner.Checks.{found, Gives, shape_declared, has_net, expression_names, item_targets, item_declares, IsNew, TakesDeclaration, Notes, Advances, StartsWith, port_declares, Numbers}

abbrev pub Names : Type 0 → Type 0
Names S = IndexMap (Bor (List ℕ)) Declared S

pub bytes_sym : (a b : List ℕ) → bytes_eq a b ≡ bytes_eq b a
bytes_sym a b =
    elim (cases_Bool (bytes_eq a b)) [
      | inl y ↦ y ∙ sym ((bytes_eq-Decides b a).1 (sym ((bytes_eq-Decides a b).0 y)))
      | inr n ↦ elim (cases_Bool (bytes_eq b a)) [
        | inl y ↦ (let t : bytes_eq a b ≡ true = (bytes_eq-Decides a b).1 (sym ((bytes_eq-Decides b a).0 y)) in cc)
        | inr f ↦ n ∙ sym f
      ]
    ]

and_left : (a b : Bool) → (a && b) ≡ true → a ≡ true
and_left true b e = refl
and_left false b e = cc

and_right : (a b : Bool) → (a && b) ≡ true → b ≡ true
and_right true b e = e
and_right false b e = cc

pub not_true : (b : Bool) → not b ≡ true → b ≡ false
not_true true e = cc
not_true false e = refl

pub not_false : (b : Bool) → not b ≡ false → b ≡ true
not_false true e = refl
not_false false e = cc

-- ---- the map after one more

module _ (S : Type 0) (old new : Names S) (before : List Mention) (notes : Notes old before) where
  pub notes_net : (name : List ℕ) (d : Declared) → is_some (shape_declared (Some d)) ≡ true → Gives old new name d → Notes new (net name ∷ before)
  notes_net name d shaped gives n =
      elim (cases_Bool (bytes_eq n name)) [
        | inl y ↦ (let got : found new n ≡ Some d = gives n ∙ rw y refl in
            let back : bytes_eq name n ≡ true = bytes_sym name n ∙ y in
            let one : (bytes_eq name n || list_any (is_declaration n) before) ≡ true = rw back refl in
            let two : (bytes_eq name n || list_any (is_net n) before) ≡ true = rw back refl in
            (ap is_some got ∙ sym one, ap (λ o. is_some (shape_declared o)) got ∙ shaped ∙ sym two))
        | inr f ↦ (let got : found new n ≡ found old n = gives n ∙ rw f refl in
            let back : bytes_eq name n ≡ false = bytes_sym name n ∙ f in
            let one : (bytes_eq name n || list_any (is_declaration n) before) ≡ list_any (is_declaration n) before = rw back refl in
            let two : (bytes_eq name n || list_any (is_net n) before) ≡ list_any (is_net n) before = rw back refl in
            (ap is_some got ∙ (notes n).0 ∙ sym one, ap (λ o. is_some (shape_declared o)) got ∙ (notes n).1 ∙ sym two))
      ]

  no_net : (o : Option Declared) → is_some o ≡ false → is_some (shape_declared o) ≡ false
  no_net None e = refl
  no_net (Some d) e = cc

  pub notes_instance : (name : List ℕ) → is_some (found old name) ≡ false → Gives old new name Instance → Notes new (instance_name name ∷ before)
  notes_instance name absent gives n =
      elim (cases_Bool (bytes_eq n name)) [
        | inl y ↦ (let got : found new n ≡ Some Instance = gives n ∙ rw y refl in
            let back : bytes_eq name n ≡ true = bytes_sym name n ∙ y in
            let same : name ≡ n = (bytes_eq-Decides name n).0 back in
            let one : (bytes_eq name n || list_any (is_declaration n) before) ≡ true = rw back refl in
            let none : list_any (is_net name) before ≡ false = sym (notes name).1 ∙ no_net (found old name) absent in
            let two : list_any (is_net n) before ≡ false = subst (λ (m : List ℕ). list_any (is_net m) before ≡ false) same none in
            (ap is_some got ∙ sym one, ap (λ o. is_some (shape_declared o)) got ∙ sym two))
        | inr f ↦ (let got : found new n ≡ found old n = gives n ∙ rw f refl in
            let back : bytes_eq name n ≡ false = bytes_sym name n ∙ f in
            let one : (bytes_eq name n || list_any (is_declaration n) before) ≡ list_any (is_declaration n) before = rw back refl in
            (ap is_some got ∙ (notes n).0 ∙ sym one, ap (λ o. is_some (shape_declared o)) got ∙ (notes n).1))
      ]

  pub notes_same : ((other : List ℕ) → found new other ≡ found old other) → Notes new before
  notes_same same n = (ap is_some (same n) ∙ (notes n).0, ap (λ o. is_some (shape_declared o)) (same n) ∙ (notes n).1)

  declared_list : (name : List ℕ) (b : Bool) → is_some (found old name) ≡ b →
      (if list_any (is_declaration name) before then NameTwice ∷ [] else []) ≡ (if b then NameTwice ∷ [] else [])
  declared_list name b e = ap (λ c. if c then NameTwice ∷ [] else []) (sym (notes name).0 ∙ e)

  pub net_passes : (name : List ℕ) (rest : List Mention) → is_some (found old name) ≡ false → refusals before (net name ∷ rest) ≡ refusals (net name ∷ before) rest
  net_passes name rest absent = ap (λ xs. xs ++ refusals (net name ∷ before) rest) (declared_list name false absent)

  pub net_twice : (name : List ℕ) (rest : List Mention) → is_some (found old name) ≡ true → refusals before (net name ∷ rest) ≡ NameTwice ∷ refusals (net name ∷ before) rest
  net_twice name rest there = ap (λ xs. xs ++ refusals (net name ∷ before) rest) (declared_list name true there)

  pub instance_passes : (name : List ℕ) (rest : List Mention) → is_some (found old name) ≡ false →
      refusals before (instance_name name ∷ rest) ≡ refusals (instance_name name ∷ before) rest
  instance_passes name rest absent = ap (λ xs. xs ++ refusals (instance_name name ∷ before) rest) (declared_list name false absent)

  pub instance_twice : (name : List ℕ) (rest : List Mention) → is_some (found old name) ≡ true →
      refusals before (instance_name name ∷ rest) ≡ NameTwice ∷ refusals (instance_name name ∷ before) rest
  instance_twice name rest there = ap (λ xs. xs ++ refusals (instance_name name ∷ before) rest) (declared_list name true there)

-- ---- uses

abbrev pub Passed : (S : Type 0) → Names S → (before mentions : List Mention) → Type 0
Passed S names before mentions = (rest : List Mention) → (after : List Mention) × Notes names after × (refusals before (mentions ++ rest) ≡ refusals after rest)

abbrev pub Refused : Reason → (before mentions : List Mention) → Type 0
Refused reason before mentions = (rest : List Mention) → (others : List Reason) × (refusals before (mentions ++ rest) ≡ reason ∷ others)

module _ (S : Type 0) (names : Names S) where
  use_list : (before : List Mention) (name : List ℕ) (b : Bool) → Notes names before → has_net names name ≡ b →
      (if list_any (is_net name) before then [] else UnknownName ∷ []) ≡ (if b then [] else UnknownName ∷ [])
  use_list before name b notes e = ap (λ c. if c then [] else UnknownName ∷ []) (sym (notes name).1 ∙ e)

  use_passes : (before : List Mention) (name : List ℕ) (rest : List Mention) → Notes names before → has_net names name ≡ true →
      refusals before (use_of name ∷ rest) ≡ refusals (use_of name ∷ before) rest
  use_passes before name rest notes e = ap (λ xs. xs ++ refusals (use_of name ∷ before) rest) (use_list before name true notes e)

  pub uses_pass : (used : List (List ℕ)) (before : List Mention) → Notes names before → list_all (has_net names) used ≡ true → Passed S names before (map use_of used)
  uses_pass [] before notes all rest = (before, notes, refl)
  uses_pass (name ∷ used) before notes all rest =
      let further = uses_pass used (use_of name ∷ before) (λ n. notes n) (and_right (has_net names name) _ all) rest in
      (further.0, further.1, use_passes before name (map use_of used ++ rest) notes (and_left (has_net names name) _ all) ∙ further.2)

  pub uses_fail : (used : List (List ℕ)) (before : List Mention) → Notes names before → list_all (has_net names) used ≡ false → Refused UnknownName before (map use_of used)
  uses_fail [] before notes all rest = cc
  uses_fail (name ∷ used) before notes all rest =
      elim (cases_Bool (has_net names name)) [
        | inl y ↦ (let further = uses_fail used (use_of name ∷ before) (λ n. notes n) (rw y at all) rest in
            (further.0, use_passes before name (map use_of used ++ rest) notes y ∙ further.1))
        | inr f ↦ (
          refusals (use_of name ∷ before) (map use_of used ++ rest),
          ap (λ xs. xs ++ refusals (use_of name ∷ before) (map use_of used ++ rest)) (use_list before name false notes f),
        )
      ]

-- ---- the names that an item uses, in the order of its text

abbrev pub item_uses : PlainItem → List (List ℕ)
item_uses (wire shape name) = []
item_uses (reg shape name) = []
item_uses (assign target e) = target ∷ expression_names e
item_uses (latch target gate e) = expression_names gate ++ (target ∷ expression_names e)
item_uses (clocked clock target e) = clock ∷ target ∷ expression_names e
item_uses (instance module_name i joins) = flat_map (λ join. flat_map expression_names (joined_expressions join.to)) joins

map_append : (xs ys : List (List ℕ)) → map use_of (xs ++ ys) ≡ map use_of xs ++ map use_of ys
map_append [] ys = refl
map_append (x ∷ xs) ys = ap (λ rest. use_of x ∷ rest) (map_append xs ys)

joined_uses : (to : Option PlainExpr) → flat_map uses (joined_expressions to) ≡ map use_of (flat_map expression_names (joined_expressions to))
joined_uses None = refl
joined_uses (Some e) = sym (map_append (expression_names e) [])

joins_uses : (joins : List PlainJoin) →
    flat_map (λ (join : PlainJoin). flat_map uses (joined_expressions join.to)) joins ≡ map use_of (flat_map (λ (join : PlainJoin). flat_map expression_names (joined_expressions join.to)) joins)
joins_uses [] = refl
joins_uses (join ∷ joins) =
    ap (λ xs. xs ++ flat_map (λ (j : PlainJoin). flat_map uses (joined_expressions j.to)) joins) (joined_uses join.to)
    ∙ ap (λ xs. map use_of (flat_map expression_names (joined_expressions join.to)) ++ xs) (joins_uses joins)
    ∙ sym (map_append (flat_map expression_names (joined_expressions join.to)) (flat_map (λ (j : PlainJoin). flat_map expression_names (joined_expressions j.to)) joins))

joined_apart : (joins : List PlainJoin) →
    flat_map (λ (join : PlainJoin). flat_map expression_names (joined_expressions join.to)) joins ≡ flat_map expression_names (flat_map (λ (join : PlainJoin). joined_expressions join.to) joins)
joined_apart [] = refl
joined_apart (join ∷ joins) =
    ap (λ xs. flat_map expression_names (joined_expressions join.to) ++ xs) (joined_apart joins) ∙ first (joined_expressions join.to) (flat_map (λ (j : PlainJoin). joined_expressions j.to) joins)
  where
    first : (es fs : List PlainExpr) → flat_map expression_names es ++ flat_map expression_names fs ≡ flat_map expression_names (es ++ fs)
    first [] fs = refl
    first (e ∷ es) fs = append_assoc (expression_names e) (flat_map expression_names es) (flat_map expression_names fs) ∙ ap (λ xs. expression_names e ++ xs) (first es fs)

module _ (p : List ℕ → Bool) where
  and_nil : (a b : Bool) → (a && b) ≡ ((a && true) && b)
  and_nil true b = refl
  and_nil false b = refl

  and_two : (a b c : Bool) → (a && (b && c)) ≡ ((a && (b && true)) && c)
  and_two true true c = refl
  and_two true false c = refl
  and_two false b c = refl

  and_across : (a b c : Bool) → (a && (b && c)) ≡ ((b && true) && (a && c))
  and_across true true c = refl
  and_across true false c = refl
  and_across false true c = refl
  and_across false false c = refl

  one_more : (e : PlainExpr) → list_all p (expression_names e) ≡ list_all p (flat_map expression_names (e ∷ []))
  one_more e = ap (list_all p) (sym (append-nil (expression_names e)))

  pub all_uses : (item : PlainItem) →
      list_all p (item_uses item) ≡ (list_all p (item_targets item) && list_all p (flat_map expression_names (item_expressions item)))
  all_uses (wire shape name) = refl
  all_uses (reg shape name) = refl
  all_uses (assign target e) = ap (λ b. p target && b) (one_more e) ∙ and_nil (p target) _
  all_uses (latch target gate e) =
      list_all-append p (expression_names gate) (target ∷ expression_names e)
      ∙ and_across (list_all p (expression_names gate)) (p target) (list_all p (expression_names e))
      ∙ ap (λ b. (p target && true) && b)
      (ap (λ b. list_all p (expression_names gate) && b) (one_more e) ∙ sym (list_all-append p (expression_names gate) (flat_map expression_names (e ∷ []))))
  all_uses (clocked clock target e) = ap (λ b. p clock && (p target && b)) (one_more e) ∙ and_two (p clock) (p target) _
  all_uses (instance module_name i joins) = ap (list_all p) (joined_apart joins)

-- ---- an item

module _ (S : Type 0) (old new : Names S) (before : List Mention) (notes : Notes old before) where
  along : (mentions others : List Mention) → mentions ≡ others → Passed S new before others → Passed S new before mentions
  along mentions others e h = subst (λ (ms : List Mention). Passed S new before ms) (sym e) h

  refused_along : (mentions others : List Mention) → mentions ≡ others → Refused UnknownName before others → Refused UnknownName before mentions
  refused_along mentions others e h = subst (λ (ms : List Mention). Refused UnknownName before ms) (sym e) h

  pub item_passes : (item : PlainItem) → IsNew old (item_declares item) ≡ true → TakesDeclaration old new (item_declares item) → list_all (has_net new) (item_uses item) ≡ true →
      Passed S new before (item_mentions item)
  item_passes (wire shape name) fresh takes all rest =
      (net name ∷ before, notes_net S old new before notes name (Inner shape) refl takes, net_passes S old new before notes name rest (not_true _ fresh))
  item_passes (reg shape name) fresh takes all rest =
      (net name ∷ before, notes_net S old new before notes name (Inner shape) refl takes, net_passes S old new before notes name rest (not_true _ fresh))
  item_passes (assign target e) fresh takes all rest =
      uses_pass S new (item_uses (assign target e)) before (notes_same S old new before notes takes) all rest
  item_passes (latch target gate e) fresh takes all rest =
      along (item_mentions (latch target gate e)) (map use_of (item_uses (latch target gate e))) (sym (map_append (expression_names gate) (target ∷ expression_names e)))
      (uses_pass S new (item_uses (latch target gate e)) before (notes_same S old new before notes takes) all) rest
  item_passes (clocked clock target e) fresh takes all rest =
      uses_pass S new (item_uses (clocked clock target e)) before (notes_same S old new before notes takes) all rest
  item_passes (instance module_name i joins) fresh takes all rest =
      let used = item_uses (instance module_name i joins) in
      let later = uses_pass S new used (instance_name i ∷ before) (notes_instance S old new before notes i (not_true _ fresh) takes) all rest in (
        later.0,
        later.1,
        ap (λ ms. refusals before (instance_name i ∷ (ms ++ rest))) (joins_uses joins)
            ∙ instance_passes S old new before notes i (map use_of used ++ rest) (not_true _ fresh) ∙ later.2,
      )

  pub item_unknown : (item : PlainItem) → IsNew old (item_declares item) ≡ true → TakesDeclaration old new (item_declares item) → list_all (has_net new) (item_uses item) ≡ false →
      Refused UnknownName before (item_mentions item)
  item_unknown (wire shape name) fresh takes all rest = cc
  item_unknown (reg shape name) fresh takes all rest = cc
  item_unknown (assign target e) fresh takes all rest =
      uses_fail S new (item_uses (assign target e)) before (notes_same S old new before notes takes) all rest
  item_unknown (latch target gate e) fresh takes all rest =
      refused_along (item_mentions (latch target gate e)) (map use_of (item_uses (latch target gate e))) (sym (map_append (expression_names gate) (target ∷ expression_names e)))
      (uses_fail S new (item_uses (latch target gate e)) before (notes_same S old new before notes takes) all) rest
  item_unknown (clocked clock target e) fresh takes all rest =
      uses_fail S new (item_uses (clocked clock target e)) before (notes_same S old new before notes takes) all rest
  item_unknown (instance module_name i joins) fresh takes all rest =
      let used = item_uses (instance module_name i joins) in
      let later = uses_fail S new used (instance_name i ∷ before) (notes_instance S old new before notes i (not_true _ fresh) takes) all rest in (
        later.0,
        ap (λ ms. refusals before (instance_name i ∷ (ms ++ rest))) (joins_uses joins)
            ∙ instance_passes S old new before notes i (map use_of used ++ rest) (not_true _ fresh) ∙ later.1,
      )

  pub item_twice : (item : PlainItem) → IsNew old (item_declares item) ≡ false → Refused NameTwice before (item_mentions item)
  item_twice (wire shape name) fresh rest = (_, net_twice S old new before notes name rest (not_false _ fresh))
  item_twice (reg shape name) fresh rest = (_, net_twice S old new before notes name rest (not_false _ fresh))
  item_twice (assign target e) fresh rest = cc
  item_twice (latch target gate e) fresh rest = cc
  item_twice (clocked clock target e) fresh rest = cc
  item_twice (instance module_name i joins) fresh rest =
      (_, instance_twice S old new before notes i (flat_map (λ (join : PlainJoin). flat_map uses (joined_expressions join.to)) joins ++ rest) (not_false _ fresh))

-- ---- what holds of one variant

pub of_some : {X : Type 0} (o : Option X) (A : Type 0) (B : X → Type 0) (x : X) → o ≡ Some x → MatchOption o A B → B x
of_some {X} o A B x e h = subst (λ (q : Option X). MatchOption q A B) e h

pub of_none : {X : Type 0} (o : Option X) (A : Type 0) (B : X → Type 0) → o ≡ None → MatchOption o A B → A
of_none {X} o A B e h = subst (λ (q : Option X). MatchOption q A B) e h

pub of_ok : {X E : Type 0} (r : Result X E) (A : X → Type 0) (B : E → Type 0) (x : X) → r ≡ Ok x → MatchResult r A B → A x
of_ok {X} {E} r A B x e h = subst (λ (q : Result X E). MatchResult q A B) e h

pub of_err : {X E : Type 0} (r : Result X E) (A : X → Type 0) (B : E → Type 0) (x : E) → r ≡ Err x → MatchResult r A B → B x
of_err {X} {E} r A B x e h = subst (λ (q : Result X E). MatchResult q A B) e h

-- ---- steps of the loops

pub drop_item : {X : Type 0} (xs : List X) (k : ℕ) (x : X) → k < length xs → x ≡ get_or xs k x → drop k xs ≡ x ∷ drop (k + 1) xs
drop_item xs k x h e =
    let next : suc k ≡ k + 1 = omega arith in
    drop-cons xs k x h ∙ ap (λ y. y ∷ drop (suc k) xs) (sym e) ∙ ap (λ n. x ∷ drop n xs) next

pub notes_empty : (S : Type 0) (names : Names S) → names.entries ≡ [] → Notes names []
notes_empty S names e n =
    (ap (λ es. is_some (lookup (λ (key : Bor (List ℕ)). bytes_eq n key.now) es)) e, ap (λ es. is_some (shape_declared (lookup (λ (key : Bor (List ℕ)). bytes_eq n key.now) es))) e)

pub advances_true : (S : Type 0) (names : Names S) (before mentions : List Mention) (b : Bool) → b ≡ true → Advances NameTwice before mentions b names → Passed S names before mentions
advances_true S names before mentions b e h = subst (λ (c : Bool). Advances NameTwice before mentions c names) e h

pub advances_false : (S : Type 0) (names : Names S) (before mentions : List Mention) (b : Bool) → b ≡ false → Advances NameTwice before mentions b names → Refused NameTwice before mentions
advances_false S names before mentions b e h = subst (λ (c : Bool). Advances NameTwice before mentions c names) e h

abbrev pub port_nets : List Port → List Mention
port_nets ports = map (λ (port : Port). net port.name) ports

port_shaped : (input : Bool) (port : Port) → port.input ≡ input → is_some (shape_declared (Some (port_declares port))) ≡ true
port_shaped true port e = rw e refl
port_shaped false port e = rw e refl

module _ (S : Type 0) (old new : Names S) (ports : List Port) (k : ℕ) (port : Port) (inside : k < length ports) (is : port ≡ get_or ports k port)
    (before : List Mention) (notes : Notes old before) where
  pub ports_twice : is_some (found old port.name) ≡ true → Refused NameTwice before (port_nets (drop k ports))
  ports_twice there rest = (
    refusals (net port.name ∷ before) (port_nets (drop (k + 1) ports) ++ rest),
    ap (λ ps. refusals before (port_nets ps ++ rest)) (drop_item ports k port inside is)
        ∙ net_twice S old new before notes port.name (port_nets (drop (k + 1) ports) ++ rest) there,
  )

  pub ports_pass : is_some (found old port.name) ≡ false → Gives old new port.name (port_declares port) → (rest : List Mention) →
      (after : List Mention) × Notes new after × (refusals before (port_nets (drop k ports) ++ rest) ≡ refusals after (port_nets (drop (k + 1) ports) ++ rest))
  ports_pass absent gives rest = (
    net port.name ∷ before,
    notes_net S old new before notes port.name (port_declares port) (port_shaped port.input port refl) gives,
    ap (λ ps. refusals before (port_nets ps ++ rest)) (drop_item ports k port inside is)
        ∙ net_passes S old new before notes port.name (port_nets (drop (k + 1) ports) ++ rest) absent,
  )

abbrev pub items_mentions : List Item → List Mention
items_mentions items = flat_map item_mentions (map plain_item items)

module _ (S : Type 0) (old new : Names S) (items : List Item) (k : ℕ) (item : Item) (inside : k < length items) (is : item ≡ get_or items k item)
    (before : List Mention) (notes : Notes old before) where
  onward : refusals before (items_mentions (drop k items)) ≡ refusals before (item_mentions (plain_item item) ++ items_mentions (drop (k + 1) items))
  onward = ap (λ xs. refusals before (items_mentions xs)) (drop_item items k item inside is)

  pub items_twice : IsNew old (item_declares (plain_item item)) ≡ false → StartsWith (refusals before (items_mentions (drop k items))) NameTwice
  items_twice fresh = let h = item_twice S old new before notes (plain_item item) fresh (items_mentions (drop (k + 1) items)) in (h.0, onward ∙ h.1)

  pub items_unknown : IsNew old (item_declares (plain_item item)) ≡ true → TakesDeclaration old new (item_declares (plain_item item)) →
      (list_all (has_net new) (item_targets (plain_item item)) && list_all (has_net new) (flat_map expression_names (item_expressions (plain_item item)))) ≡ false →
      StartsWith (refusals before (items_mentions (drop k items))) UnknownName
  items_unknown fresh takes all =
      let h = item_unknown S old new before notes (plain_item item) fresh takes (all_uses (has_net new) (plain_item item) ∙ all) (items_mentions (drop (k + 1) items)) in (h.0, onward ∙ h.1)

  pub items_pass : IsNew old (item_declares (plain_item item)) ≡ true → TakesDeclaration old new (item_declares (plain_item item)) →
      (list_all (has_net new) (item_targets (plain_item item)) && list_all (has_net new) (flat_map expression_names (item_expressions (plain_item item)))) ≡ true →
      (after : List Mention) × Notes new after × (refusals before (items_mentions (drop k items)) ≡ refusals after (items_mentions (drop (k + 1) items)))
  items_pass fresh takes all =
      let h = item_passes S old new before notes (plain_item item) fresh takes (all_uses (has_net new) (plain_item item) ∙ all) (items_mentions (drop (k + 1) items)) in (h.0, h.1, onward ∙ h.2)

-- ---- modules

module _ (S : Type 0) (old new : IndexMap (Bor (List ℕ)) ℕ S) (modules : List Module) (k : ℕ) (m : Module) (inside : k < length modules) (is : m ≡ get_or modules k m)
    (before : List PlainModule) (numbers : Numbers old before) where
  onward_text : text_refusals before (map plain_module (drop k modules)) ≡ text_refusals before (plain_module m ∷ map plain_module (drop (k + 1) modules))
  onward_text = ap (λ xs. text_refusals before (map plain_module xs)) (drop_item modules k m inside is)

  own_refusal : (b : Bool) → is_some (found old m.name) ≡ b →
      (if is_some (module_named before m.name) then NameTwice ∷ [] else []) ≡ (if b then NameTwice ∷ [] else [])
  own_refusal b e = ap (λ c. if c then NameTwice ∷ [] else []) (sym (numbers m.name) ∙ e)

  pub modules_twice : is_some (found old m.name) ≡ true → StartsWith (text_refusals before (map plain_module (drop k modules))) NameTwice
  modules_twice there = (
    refusals [] (mentions_in (plain_module m)) ++ text_refusals (plain_module m ∷ before) (map plain_module (drop (k + 1) modules)),
    onward_text ∙ ap (λ xs. xs ++ (refusals [] (mentions_in (plain_module m)) ++ text_refusals (plain_module m ∷ before) (map plain_module (drop (k + 1) modules)))) (own_refusal true there),
  )

  named_alone : is_some (found old m.name) ≡ false → text_refusals before (map plain_module (drop k modules))
      ≡ refusals [] (mentions_in (plain_module m)) ++ text_refusals (plain_module m ∷ before) (map plain_module (drop (k + 1) modules))
  named_alone absent =
      onward_text ∙ ap (λ xs. xs ++ (refusals [] (mentions_in (plain_module m)) ++ text_refusals (plain_module m ∷ before) (map plain_module (drop (k + 1) modules)))) (own_refusal false absent)

  pub modules_refused : (reason : Reason) → is_some (found old m.name) ≡ false → StartsWith (refusals [] (mentions_in (plain_module m))) reason →
      StartsWith (text_refusals before (map plain_module (drop k modules))) reason
  modules_refused reason absent h = (
    h.0 ++ text_refusals (plain_module m ∷ before) (map plain_module (drop (k + 1) modules)),
    named_alone absent ∙ ap (λ xs. xs ++ text_refusals (plain_module m ∷ before) (map plain_module (drop (k + 1) modules))) h.1,
  )

  pub modules_pass : (v : ℕ) → is_some (found old m.name) ≡ false → Gives old new m.name v → refusals [] (mentions_in (plain_module m)) ≡ [] →
      (after : List PlainModule) × Numbers new after
      × (text_refusals before (map plain_module (drop k modules)) ≡ text_refusals after (map plain_module (drop (k + 1) modules)))
  modules_pass v absent gives fit =
      (plain_module m ∷ before, more, named_alone absent ∙ ap (λ xs. xs ++ text_refusals (plain_module m ∷ before) (map plain_module (drop (k + 1) modules))) fit)
    where
      more : Numbers new (plain_module m ∷ before)
      more n =
          elim (cases_Bool (bytes_eq n m.name)) [
            | inl y ↦ (let got : found new n ≡ Some v = gives n ∙ rw y refl in
                let back : bytes_eq m.name n ≡ true = bytes_sym m.name n ∙ y in
                let one : is_some (module_named (plain_module m ∷ before) n) ≡ true = rw back refl in
                ap is_some got ∙ sym one)
            | inr f ↦ (let got : found new n ≡ found old n = gives n ∙ rw f refl in
                let back : bytes_eq m.name n ≡ false = bytes_sym m.name n ∙ f in
                let one : is_some (module_named (plain_module m ∷ before) n) ≡ is_some (module_named before n) = rw back refl in
                ap is_some got ∙ numbers n ∙ sym one)
          ]

pub numbers_empty : (S : Type 0) (names : IndexMap (Bor (List ℕ)) ℕ S) → names.entries ≡ [] → Numbers names []
numbers_empty S names e n = ap (λ es. is_some (lookup (λ (key : Bor (List ℕ)). bytes_eq n key.now) es)) e

-- the first refusal of a name is the first rule that a text breaks
pub first_refused : (ms ns : List Module) (r reason : Reason) → ms ≡ ns → StartsWith (text_refusals [] (map plain_module ms)) r → Some r ≡ Some reason →
    IsFirstBroken (map plain_module ns) reason
first_refused ms ns r reason same h e =
    let is : r ≡ reason = cc in
    subst (λ (xs : List Module). IsFirstBroken (map plain_module xs) reason) same (breaks_names h.0 (h.1 ∙ ap (λ q. q ∷ h.0) is))
