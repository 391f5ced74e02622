-- The expressions of a sound text whose widths are counted in 64 bits have values over the names of their modules.
use Rattle.std.proofs.Common.{◌≡◌, ◌⊎◌, ℕ, zero, suc, ◌+◌, ◌^◌, ◌<◌, ◌≤◌, Bool, true, List, [], ◌∷◌, ◌++◌, map, All, Contains, Option, Some, None, refl, sym, ap, subst, ◌∙◌, inl, inr, arith}
use Rattle.std.specs.Prelude.{option_map}
use Rattle.std.specs.List.{flat_map, list_any}
use Rattle.std.specs.Str.{bytes_eq}
use Rattle.std.proofs.lemmas.Bool.{cases_Bool}
use Rattle.std.proofs.lemmas.List.Elements.{Contains-append_left, Contains-append_right, Contains-append_cases}
use Rattle.fab_syntax.specs.declared.tree.Port.{Port}
use Rattle.fab_syntax.specs.declared.tree.Shape.{Shape}
use Rattle.fab_syntax.specs.declared.tree.Shape.TheVariants.{Scalar, Vector}
use Rattle.fab_syntax.specs.Declarations.{declared_shape, item_shape, width, width_if_any}
use Rattle.fab_syntax.specs.Plain.{PlainExpr, PlainExprs, constant, variable, pick, part, concatenation, complement, operation, conditional, none, more, PlainJoin, PlainItem, wire, reg, assign, latch, clocked, instance, PlainModule}
use Rattle.fab_syntax.specs.Sound.{Mention, net, use_of, instance_name, own_names, uses, item_mentions, mentions_in, refusals, subexpressions, parts_subexpressions, joined_expressions, item_expressions, expression_width, width_of_name, width_of, IsVectorAnd, SelectFits, OperandsFit, SidesFit, Every, EachItem, IsSound}
use Rattle.fab_syntax.proofs.SoundNames.{is_use, each_names_fit, used_is_net, net_has_shape}
use Rattle.fab_sound.specs.Narrow.{IsNarrow, AreNarrow}
use Rattle.fab_values.specs.fab_meaning.specs.Points.{Path, module_at}
use Rattle.fab_values.specs.fab_meaning.proofs.Dependence.{same_name}
use Rattle.fab_values.specs.fab_meaning.proofs.Modules.{all_holds, module_at_holds}
use Rattle.fab_values.specs.fab_meaning.proofs.SoundTexts.{contains_first, contains_later}
use Rattle.fab_values.specs.Declarations.{port_declaration, item_declarations, declarations, found_from, found_in}
use Rattle.fab_values.specs.Evaluation.{local_width, expr_width, IsVectorOf, IsFit, AreFit}
use Rattle.fab_values.specs.declared.names.Local.{Local}
use Rattle.fab_equations.proofs.NamedOnce.{bytes_swap}

-- ---- elements

pub in_flat : {X Y : Type 0} (f : X → List Y) (xs : List X) (x : X) (y : Y) → Contains xs x → Contains (f x) y → Contains (flat_map f xs) y
in_flat f [] x y (k, l, is) among = absurd (omega arith)
in_flat {X} {Y} f (z ∷ xs) x y (zero, l, is) among = Contains-append_left (f z) (flat_map f xs) y (subst (λ (w : X). Contains (f w) y) (sym is) among)
in_flat f (z ∷ xs) x y (suc k, l, is) among = Contains-append_right (f z) (flat_map f xs) y (in_flat f xs x y (k, omega arith, is) among)

in_map : {X Y : Type 0} (f : X → Y) (xs : List X) (x : X) → Contains xs x → Contains (map f xs) (f x)
in_map f [] x (k, l, is) = absurd (omega arith)
in_map f (z ∷ xs) x (zero, l, is) = (zero, omega arith, ap f is)
in_map f (z ∷ xs) x (suc k, l, is) = contains_later (f z) (f x) (map f xs) (in_map f xs x (k, omega arith, is))

any_of : {X : Type 0} (test : X → Bool) (xs : List X) (x : X) → Contains xs x → test x ≡ true → list_any test xs ≡ true
any_of test [] x (k, l, is) t = absurd (omega arith)
any_of test (z ∷ xs) x (zero, l, is) t = let here : test z ≡ true = ap test is ∙ t in rw here refl
any_of test (z ∷ xs) x (suc k, l, is) t =
    let later : list_any test xs ≡ true = any_of test xs x (k, omega arith, is) t in
    elim (cases_Bool (test z)) [ inl y ↦ rw y refl | inr n ↦ rw n later ]

first_or_later : {X : Type 0} (x y : X) (xs : List X) → Contains (x ∷ xs) y → (x ≡ y) ⊎ Contains xs y
first_or_later x y xs (zero, l, is) = inl is
first_or_later x y xs (suc k, l, is) = inr (k, omega arith, is)

only : {X : Type 0} (x y : X) → Contains (x ∷ []) y → x ≡ y
only x y (zero, l, is) = is
only x y (suc k, l, is) = absurd (omega arith)

-- ---- a name is found as it is declared

abbrev shape_of : Local → Shape
shape_of local = local.shape

items_shape : (first : ℕ) (items : List PlainItem) (name : List ℕ) → option_map shape_of (found_from first (item_declarations items) name) ≡ item_shape items name
items_shape first [] name = refl
items_shape first (wire shape other ∷ items) name =
    elim (cases_Bool (bytes_eq other name)) [ inl t ↦ rw (bytes_swap name other, t) refl | inr f ↦ rw (bytes_swap name other, f) (items_shape (first + width shape) items name) ]
items_shape first (reg shape other ∷ items) name =
    elim (cases_Bool (bytes_eq other name)) [ inl t ↦ rw (bytes_swap name other, t) refl | inr f ↦ rw (bytes_swap name other, f) (items_shape (first + width shape) items name) ]
items_shape first (assign target e ∷ items) name = items_shape first items name
items_shape first (latch target gate e ∷ items) name = items_shape first items name
items_shape first (clocked clock target e ∷ items) name = items_shape first items name
items_shape first (instance of i joins ∷ items) name = items_shape first items name

ports_shape : (first : ℕ) (ports : List Port) (items : List PlainItem) (name : List ℕ) →
    option_map shape_of (found_from first (map port_declaration ports ++ item_declarations items) name) ≡ declared_shape ports items name
ports_shape first [] items name = items_shape first items name
ports_shape first (port ∷ ports) items name =
    elim (cases_Bool (bytes_eq port.name name)) [
      | inl t ↦ rw (bytes_swap name port.name, t) refl
      | inr f ↦ rw (bytes_swap name port.name, f) (ports_shape (first + width port.shape) ports items name)
    ]

found_shape : (m : PlainModule) (name : List ℕ) → option_map shape_of (found_in (declarations m) name) ≡ declared_shape m.ports m.items name
found_shape m name = ports_shape 0 m.ports m.items name

width_of_shape : (o : Option Local) → local_width o ≡ width_if_any (option_map shape_of o)
width_of_shape None = refl
width_of_shape (Some local) = refl

found_as_wide : (m : PlainModule) (name : List ℕ) → local_width (found_in (declarations m) name) ≡ width_of_name m name
found_as_wide m name = width_of_shape (found_in (declarations m) name) ∙ ap width_if_any (found_shape m name)

-- an expression is as wide by the declarations as by the module
pub same_width : (m : PlainModule) (e : PlainExpr) → expr_width (declarations m) e ≡ width_of m e
same_width m e = λ k. expression_width (λ name. found_as_wide m name k) e

found_there : (o : Option Local) (shape : Shape) → option_map shape_of o ≡ Some shape → (local : Local) × (o ≡ Some local)
found_there None shape e = cc
found_there (Some local) shape e = (local, refl)

vector_with : (P : ℕ → Type 0) (local : Local) (shape : Shape) → local.shape ≡ shape → IsVectorAnd (Some shape) P → (n : ℕ) × IsVectorOf (Some local) n × P n
vector_with P local Scalar e h = absurd h
vector_with P local (Vector n) e h = (n, e, h)

vector_of : (P : ℕ → Type 0) (o : Option Local) → IsVectorAnd (option_map shape_of o) P → (n : ℕ) × IsVectorOf o n × P n
vector_of P None h = absurd h
vector_of P (Some local) h = vector_with P local local.shape refl h

-- ---- an expression that keeps the rules in all its parts is fit

-- what the rules say of one part of an expression
record Keeps (m : PlainModule) (e : PlainExpr) : Type 0 where
  select : SelectFits m e
  operands : OperandsFit m e
  narrow : IsNarrow m e
  names : (name : List ℕ) → Contains (own_names e) name → (shape : Shape) × (declared_shape m.ports m.items name ≡ Some shape)

module _ (m : PlainModule) where
  vector_named : (P : ℕ → Type 0) (name : List ℕ) → IsVectorAnd (declared_shape m.ports m.items name) P → (n : ℕ) × IsVectorOf (found_in (declarations m) name) n × P n
  vector_named P name h = vector_of P (found_in (declarations m) name) (subst (λ (o : Option Shape). IsVectorAnd o P) (sym (found_shape m name)) h)

  itself : (e : PlainExpr) → Contains (subexpressions e) e
  itself (constant bits) = contains_first (constant bits) (constant bits) [] refl
  itself (variable name) = contains_first (variable name) (variable name) [] refl
  itself (pick name index) = contains_first (pick name index) (pick name index) (subexpressions index) refl
  itself (part name high low) = contains_first (part name high low) (part name high low) [] refl
  itself (concatenation es) = contains_first (concatenation es) (concatenation es) (parts_subexpressions es) refl
  itself (complement e) = contains_first (complement e) (complement e) (subexpressions e) refl
  itself (operation op a b) = contains_first (operation op a b) (operation op a b) (subexpressions a ++ subexpressions b) refl
  itself (conditional c a b) = contains_first (conditional c a b) (conditional c a b) (subexpressions c ++ (subexpressions a ++ subexpressions b)) refl

  equal_widths : (a b : PlainExpr) → width_of m a ≡ width_of m b → expr_width (declarations m) a ≡ expr_width (declarations m) b
  equal_widths a b e = same_width m a ∙ e ∙ sym (same_width m b)

  mutual
    fits : (e : PlainExpr) → ((q : PlainExpr) → Contains (subexpressions e) q → Keeps m q) → IsFit (declarations m) e
    fits (constant bits) all = tt
    fits (variable name) all =
        let declared = (all (variable name) (itself (variable name))).names name (contains_first name name [] refl) in
        found_there (found_in (declarations m) name) declared.0 (found_shape m name ∙ declared.1)
    fits (pick name index) all =
        let vector = vector_named (λ n. 2 ^ width_of m index ≡ n) name (all (pick name index) (itself (pick name index))).select in
        let wide : vector.0 ≡ 2 ^ expr_width (declarations m) index = sym vector.2 ∙ ap (λ w. 2 ^ w) (sym (same_width m index)) in (
          subst (λ n. IsVectorOf (found_in (declarations m) name) n) wide vector.1,
          fits index (λ q c. all q (contains_later (pick name index) q (subexpressions index) c)),
        )
    fits (part name high low) all =
        let vector = vector_named (λ n. (low ≤ high) × (high < n)) name (all (part name high low) (itself (part name high low))).select in
        (vector.0, vector.1, vector.2.0, vector.2.1)
    fits (concatenation es) all = parts_fit es (λ q c. all q (contains_later (concatenation es) q (parts_subexpressions es) c))
    fits (complement e) all = fits e (λ q c. all q (contains_later (complement e) q (subexpressions e) c))
    fits (operation op a b) all =
        let inner : (q : PlainExpr) → Contains (subexpressions a ++ subexpressions b) q → Keeps m q =
        λ q c. all q (contains_later (operation op a b) q (subexpressions a ++ subexpressions b) c) in
        let left : (q : PlainExpr) → Contains (subexpressions a) q → Keeps m q = λ q c. inner q (Contains-append_left (subexpressions a) (subexpressions b) q c) in (
          equal_widths a b (all (operation op a b) (itself (operation op a b))).operands,
          subst (λ (w : ℕ). w < 2 ^ 64) (sym (same_width m a)) (left a (itself a)).narrow,
          fits a left,
          fits b (λ q c. inner q (Contains-append_right (subexpressions a) (subexpressions b) q c)),
        )
    fits (conditional c a b) all =
        let both : List PlainExpr = subexpressions a ++ subexpressions b in
        let inner : (q : PlainExpr) → Contains (subexpressions c ++ both) q → Keeps m q =
        λ q among. all q (contains_later (conditional c a b) q (subexpressions c ++ both) among) in
        let branches : (q : PlainExpr) → Contains both q → Keeps m q = λ q among. inner q (Contains-append_right (subexpressions c) both q among) in
        let own : (width_of m c ≡ 1) × (width_of m a ≡ width_of m b) = (all (conditional c a b) (itself (conditional c a b))).operands in (
          same_width m c ∙ own.0,
          equal_widths a b own.1,
          fits c (λ q among. inner q (Contains-append_left (subexpressions c) both q among)),
          fits a (λ q among. branches q (Contains-append_left (subexpressions a) (subexpressions b) q among)),
          fits b (λ q among. branches q (Contains-append_right (subexpressions a) (subexpressions b) q among)),
        )

    parts_fit : (es : PlainExprs) → ((q : PlainExpr) → Contains (parts_subexpressions es) q → Keeps m q) → AreFit (declarations m) es
    parts_fit none all = tt
    parts_fit (more e es) all = (
      fits e (λ q c. all q (Contains-append_left (subexpressions e) (parts_subexpressions es) q c)),
      parts_fit es (λ q c. all q (Contains-append_right (subexpressions e) (parts_subexpressions es) q c)),
    )

-- ---- what an expression of an item mentions, the item mentions

in_joins : (joins : List PlainJoin) (e : PlainExpr) (mention : Mention) → Contains (flat_map (λ (join : PlainJoin). joined_expressions join.to) joins) e → Contains (uses e) mention →
    Contains (flat_map (λ (join : PlainJoin). flat_map uses (joined_expressions join.to)) joins) mention
in_joins [] e mention (k, l, is) used = absurd (omega arith)
in_joins (join ∷ joins) e mention there used =
    let rest : List Mention = flat_map (λ (join : PlainJoin). flat_map uses (joined_expressions join.to)) joins in
    elim (Contains-append_cases (joined_expressions join.to) (flat_map (λ (join : PlainJoin). joined_expressions join.to) joins) e there) [
      | inl here ↦ Contains-append_left (flat_map uses (joined_expressions join.to)) rest mention (in_flat uses (joined_expressions join.to) e mention here used)
      | inr later ↦ Contains-append_right (flat_map uses (joined_expressions join.to)) rest mention (in_joins joins e mention later used)
    ]

mentioned : (item : PlainItem) (e : PlainExpr) (mention : Mention) → Contains (item_expressions item) e → Contains (uses e) mention → Contains (item_mentions item) mention
mentioned (wire shape name) e mention (k, l, is) used = absurd (omega arith)
mentioned (reg shape name) e mention (k, l, is) used = absurd (omega arith)
mentioned (assign target x) e mention there used =
    contains_later (use_of target) mention (uses x) (subst (λ (y : PlainExpr). Contains (uses y) mention) (sym (only x e there)) used)
mentioned (latch target gate x) e mention there used =
    elim (first_or_later gate e (x ∷ []) there) [
      | inl same ↦ Contains-append_left (uses gate) (use_of target ∷ uses x) mention (subst (λ (y : PlainExpr). Contains (uses y) mention) (sym same) used)
      | inr later ↦ Contains-append_right (uses gate) (use_of target ∷ uses x) mention
          (contains_later (use_of target) mention (uses x) (subst (λ (y : PlainExpr). Contains (uses y) mention) (sym (only x e later)) used))
    ]
mentioned (clocked clock target x) e mention there used =
    contains_later (use_of clock) mention (use_of target ∷ uses x)
    (contains_later (use_of target) mention (uses x) (subst (λ (y : PlainExpr). Contains (uses y) mention) (sym (only x e there)) used))
mentioned (instance of i joins) e mention there used = contains_later (instance_name i) mention _ (in_joins joins e mention there used)

-- ---- an expression of an item of a sound text is fit

module _ (text : List PlainModule) (sound : IsSound text) (path : Path) (m : PlainModule) (stands : module_at text path ≡ Some m) (item : PlainItem) (holds : Contains m.items item) where
  of_item : (P : PlainModule → PlainItem → Type 0) → EachItem P text → P m item
  of_item P each = all_holds (P m) m.items item (module_at_holds (λ (n : PlainModule). All (P n) n.items) text path m each stands) holds

  pub sides_fit : SidesFit m item
  sides_fit = (of_item (λ (n : PlainModule) (i : PlainItem). All (Every (OperandsFit n)) (item_expressions i) × SidesFit n i) sound.widths).1

  module _ (narrow : AreNarrow text) (e : PlainExpr) (there : Contains (item_expressions item) e) where
    of_part : (P : PlainExpr → Type 0) → All (Every P) (item_expressions item) → (q : PlainExpr) → Contains (subexpressions e) q → P q
    of_part P every q among = all_holds P (subexpressions e) q (all_holds (Every P) (item_expressions item) e every there) among

    names_fit : refusals [] (mentions_in m) ≡ []
    names_fit = module_at_holds (λ (n : PlainModule). refusals [] (mentions_in n) ≡ []) text path m (each_names_fit [] text sound.names) stands

    name_declared : (q : PlainExpr) → Contains (subexpressions e) q → (name : List ℕ) → Contains (own_names q) name → (shape : Shape) × (declared_shape m.ports m.items name ≡ Some shape)
    name_declared q among name own =
        let used : Contains (uses e) (use_of name) = in_map use_of (flat_map own_names (subexpressions e)) name (in_flat own_names (subexpressions e) q name among own) in
        let within : Contains (mentions_in m) (use_of name) =
        Contains-append_right (map (λ (port : Port). net port.name) m.ports) (flat_map item_mentions m.items) (use_of name)
        (in_flat item_mentions m.items item (use_of name) holds (mentioned item e (use_of name) there used)) in
        net_has_shape name m.ports m.items (used_is_net name (mentions_in m) names_fit (any_of (is_use name) (mentions_in m) (use_of name) within (same_name name)))

    part_keeps : (q : PlainExpr) → Contains (subexpressions e) q → Keeps m q
    part_keeps q among = record {
      select = of_part (SelectFits m) (of_item (λ (n : PlainModule) (i : PlainItem). All (Every (SelectFits n)) (item_expressions i)) sound.selects) q among;
      operands = of_part (OperandsFit m) (of_item (λ (n : PlainModule) (i : PlainItem). All (Every (OperandsFit n)) (item_expressions i) × SidesFit n i) sound.widths).0 q among;
      narrow = of_part (IsNarrow m) (of_item (λ (n : PlainModule) (i : PlainItem). All (Every (IsNarrow n)) (item_expressions i)) narrow) q among;
      names = name_declared q among;
    }

    pub item_expression_fits : IsFit (declarations m) e
    item_expression_fits = fits m e part_keeps
