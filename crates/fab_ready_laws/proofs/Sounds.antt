-- A text is sound, or a rule is the first that it breaks.
use Rattle.std.proofs.Common.{◌≡◌, ◌<◌, ◌≤◌, ◌⊎◌, ◌^◌, ℕ, Bool, true, false, ◌&&◌, if◌then◌else◌, List, [], ◌∷◌, ◌++◌, All, Option, Some, None, refl, sym, ap, ◌∙◌, subst, arith, inl, inr, append_assoc}
use Rattle.std.specs.Prelude.{is_some}
use Rattle.std.specs.Bool.{Decides}
use Rattle.std.specs.List.{list_any, list_all}
use Rattle.std.specs.Str.{bytes_eq}
use Rattle.std.proofs.lemmas.Bool.{cases_eq, cases_lt}
use Rattle.std.proofs.lemmas.List.Elements.{All-cons, All-head, All-nil, All-tail}
use Rattle.fab_base.specs.declared.words.Reason.{Reason}
use Rattle.fab_base.specs.declared.words.Reason.TheVariants as reasons
use Rattle.fab_syntax.specs.declared.tree.Shape.{Shape}
use Rattle.fab_syntax.specs.declared.tree.Shape.TheVariants.{Scalar, Vector}
use Rattle.fab_syntax.specs.Plain.{PlainExpr, PlainItem, PlainModule, constant, variable, pick, part, concatenation, complement, operation, conditional, wire, reg, assign, latch, clocked, instance}
use Rattle.fab_syntax.specs.Declarations.{module_named, declared_shape, is_input}
use Rattle.fab_syntax.specs.Sound.{subexpressions, item_expressions, text_refusals, NamesFit, width_of, IsVectorAnd, SelectFits, Every, EachItem, SelectsFit, OperandsFit, SidesFit, WidthsFit, InstanceFits, InstancesFitBehind, InstancesFit, DriversFit, ServesAsClock, IsScalarInput, ClockFits, ClocksFit, IsSound, IsFirstBroken, breaks_names, breaks_selects, breaks_widths, breaks_instances, breaks_drivers, breaks_clocks, width_of_name}
use Rattle.fab_sound.specs.inner.Rules.{item_serves, item_clocks, instances_pass, module_is_driven}
use Rattle.fab_sound.proofs.Clocking.{DecidesBelow, module_serves, module_clocks}
use Rattle.fab_sound.proofs.Driven.{drivers_decide}
use Rattle.fab_sound.proofs.Joining.{instances_decide}
use Rattle.fab_ready_laws.proofs.Decisions.{IsDecided, all_decided, both, by_test}

each_item_decided : (P : PlainModule → PlainItem → Type 0) → ((m : PlainModule) (item : PlainItem) → IsDecided (P m item)) → (text : List PlainModule) → IsDecided (EachItem P text)
each_item_decided P each text = all_decided (λ m. All (P m) m.items) (λ m. all_decided (P m) (each m) m.items) text

-- ---- selects and widths

vector_decided : (shape : Option Shape) (P : ℕ → Type 0) → ((n : ℕ) → IsDecided (P n)) → IsDecided (IsVectorAnd shape P)
vector_decided None P each = inr (λ is. is)
vector_decided (Some Scalar) P each = inr (λ is. is)
vector_decided (Some (Vector n)) P each = each n

within_decided : (low high n : ℕ) → IsDecided ((low ≤ high) × (high < n))
within_decided low high n = both (elim (cases_lt high low) [ inl less ↦ inr (λ is. absurd (omega (arith, less, is))) | inr is ↦ inl is ])
    (elim (cases_lt high n) [ inl is ↦ inl is | inr past ↦ inr (λ is. absurd (omega (arith, past, is))) ])

select_decided : (m : PlainModule) (e : PlainExpr) → IsDecided (SelectFits m e)
select_decided m (pick name index) = vector_decided (declared_shape m.ports m.items name) (λ n. 2 ^ width_of m index ≡ n) (λ n. cases_eq (2 ^ width_of m index) n)
select_decided m (part name high low) = vector_decided (declared_shape m.ports m.items name) (λ n. (low ≤ high) × (high < n)) (λ n. within_decided low high n)
select_decided m (constant bits) = inl tt
select_decided m (variable name) = inl tt
select_decided m (concatenation es) = inl tt
select_decided m (complement e) = inl tt
select_decided m (operation op a b) = inl tt
select_decided m (conditional c a b) = inl tt

operands_decided : (m : PlainModule) (e : PlainExpr) → IsDecided (OperandsFit m e)
operands_decided m (operation op a b) = cases_eq (width_of m a) (width_of m b)
operands_decided m (conditional c a b) = both (cases_eq (width_of m c) 1) (cases_eq (width_of m a) (width_of m b))
operands_decided m (constant bits) = inl tt
operands_decided m (variable name) = inl tt
operands_decided m (pick name index) = inl tt
operands_decided m (part name high low) = inl tt
operands_decided m (concatenation es) = inl tt
operands_decided m (complement e) = inl tt

sides_decided : (m : PlainModule) (item : PlainItem) → IsDecided (SidesFit m item)
sides_decided m (assign target e) = cases_eq (width_of_name m target) (width_of m e)
sides_decided m (latch target gate e) = both (cases_eq (width_of m gate) 1) (cases_eq (width_of_name m target) (width_of m e))
sides_decided m (clocked clock target e) = cases_eq (width_of_name m target) (width_of m e)
sides_decided m (wire shape name) = inl tt
sides_decided m (reg shape name) = inl tt
sides_decided m (instance module_name i joins) = inl tt

every_decided : (P : PlainExpr → Type 0) → ((e : PlainExpr) → IsDecided (P e)) → (item : PlainItem) → IsDecided (All (Every P) (item_expressions item))
every_decided P each item = all_decided (Every P) (λ e. all_decided P each (subexpressions e)) (item_expressions item)

selects_decided : (text : List PlainModule) → IsDecided (SelectsFit text)
selects_decided text = each_item_decided (λ m item. All (Every (SelectFits m)) (item_expressions item)) (λ m item. every_decided (SelectFits m) (select_decided m) item) text

widths_decided : (text : List PlainModule) → IsDecided (WidthsFit text)
widths_decided text = each_item_decided (λ m item. All (Every (OperandsFit m)) (item_expressions item) × SidesFit m item)
    (λ m item. both (every_decided (OperandsFit m) (operands_decided m) item) (sides_decided m item)) text

-- ---- clocks

is_scalar : Option Shape → Bool
is_scalar (Some Scalar) = true
is_scalar (Some (Vector n)) = false
is_scalar None = false

scalar_is : (shape : Option Shape) → Decides (is_scalar shape) (shape ≡ Some Scalar)
unfolding is_scalar
scalar_is (Some Scalar) = (λ e. refl, λ e. refl)
scalar_is (Some (Vector n)) = (λ e. cc, λ e. cc)
scalar_is None = (λ e. cc, λ e. cc)

and_decides : {P Q : Type 0} (a b : Bool) → Decides a P → Decides b Q → Decides (a && b) (P × Q)
and_decides true true p q = (λ e. (p.0 refl, q.0 refl), λ h. refl)
and_decides true false p q = (λ e. cc, λ h. q.1 h.1)
and_decides false b p q = (λ e. cc, λ h. p.1 h.0)

abbrev scalar_in : PlainModule → List ℕ → Bool
scalar_in m name = is_input m.ports name && is_scalar (declared_shape m.ports m.items name)

scalar_decides : (m : PlainModule) (name : List ℕ) → Decides (scalar_in m name) (IsScalarInput m name)
scalar_decides m name = and_decides (is_input m.ports name) (is_scalar (declared_shape m.ports m.items name)) (λ e. e, λ e. e) (scalar_is (declared_shape m.ports m.items name))

-- which ports serve as clocks, with one module more
abbrev Serving : Type 0
Serving = (module_name port : List ℕ) → Bool

abbrev served_with : (before : List PlainModule) → PlainModule → Serving → Serving
served_with before m serves module_name port =
    if is_some (module_named before module_name) then serves module_name port else list_any (item_serves serves port) m.items

named_in_front : (before rest : List PlainModule) (name : List ℕ) (below : PlainModule) → module_named before name ≡ Some below → module_named (before ++ rest) name ≡ Some below
named_in_front [] rest name below is = absurd cc
named_in_front (m ∷ before) rest name below is = by_name (named_in_front before rest name below) (bytes_eq m.name name) refl is
  where
    by_name : (module_named before name ≡ Some below → module_named (before ++ rest) name ≡ Some below) → (b : Bool) → bytes_eq m.name name ≡ b → (if b then Some m else module_named before name) ≡ Some below → module_named ((m ∷ before) ++ rest) name ≡ Some below
    by_name later true same found = ap (λ c. if c then Some m else module_named (before ++ rest) name) same ∙ found
    by_name later false other found = ap (λ c. if c then Some m else module_named (before ++ rest) name) other ∙ later found

named_behind : (before : List PlainModule) (m : PlainModule) (rest : List PlainModule) (name : List ℕ) → module_named before name ≡ None → module_named (before ++ m ∷ rest) name ≡ module_named (m ∷ rest) name
named_behind [] m rest name none = refl
named_behind (other ∷ before) m rest name none = by_name (named_behind before m rest name) (bytes_eq other.name name) refl none
  where
    by_name : (module_named before name ≡ None → module_named (before ++ m ∷ rest) name ≡ module_named (m ∷ rest) name) → (b : Bool) → bytes_eq other.name name ≡ b → (if b then Some other else module_named before name) ≡ None → module_named ((other ∷ before) ++ m ∷ rest) name ≡ module_named (m ∷ rest) name
    by_name later true same found = absurd cc
    by_name later false apart found = ap (λ c. if c then Some other else module_named (before ++ m ∷ rest) name) apart ∙ later found

module _ (text before : List PlainModule) (m : PlainModule) (rest : List PlainModule) (whole : text ≡ before ++ m ∷ rest) (serves : Serving)
    (decides : DecidesBelow text before serves) (fit : All (InstanceFits before m) m.items) where
  some_is : {X : Type 0} {a b : X} → Some a ≡ Some b → a ≡ b
  some_is same = cc

  -- the module itself, which none before it is named like
  own : (name : List ℕ) (below : PlainModule) → module_named before name ≡ None → (if bytes_eq m.name name then Some m else None) ≡ Some below
      → (module_named text name ≡ Some below) × ((port : List ℕ) → Decides (list_any (item_serves serves port) m.items) (ServesAsClock text below port))
  own name below none is = by_name (bytes_eq m.name name) refl is
    where
      by_name : (b : Bool) → bytes_eq m.name name ≡ b → (if b then Some m else None) ≡ Some below
          → (module_named text name ≡ Some below) × ((port : List ℕ) → Decides (list_any (item_serves serves port) m.items) (ServesAsClock text below port))
      by_name false other found = absurd cc
      by_name true same found =
          let same_module : m ≡ below = some_is found in
          let there : module_named text name ≡ Some below =
          ap (λ ms. module_named ms name) whole ∙ named_behind before m rest name none ∙ ap (λ c. if c then Some m else module_named rest name) same ∙ found in (
            there,
            λ port. subst (λ (b : PlainModule). Decides (list_any (item_serves serves port) m.items) (ServesAsClock text b port)) same_module
                (module_serves text before m serves decides fit port),
          )

  more_below : DecidesBelow text (before ++ m ∷ []) (served_with before m serves)
  more_below name below is = by_before (module_named before name) refl
    where
      by_before : (found : Option PlainModule) → module_named before name ≡ found
          → (module_named text name ≡ Some below) × ((port : List ℕ) → Decides (if is_some (module_named before name) then serves name port else list_any (item_serves serves port) m.items) (ServesAsClock text below port))
      by_before (Some other) there =
          let same : other ≡ below = some_is (sym (named_in_front before (m ∷ []) name other there) ∙ is) in
          let known = decides name below (there ∙ ap Some same) in
          (known.0, λ port. subst (λ (o : Option PlainModule). Decides (if is_some o then serves name port else list_any (item_serves serves port) m.items) (ServesAsClock text below port)) (sym there) (known.1 port))
      by_before None none =
          let known = own name below none (sym (named_behind before m [] name none) ∙ is) in
          (known.0, λ port. subst (λ (o : Option PlainModule). Decides (if is_some o then serves name port else list_any (item_serves serves port) m.items) (ServesAsClock text below port)) (sym none) (known.1 port))

  module_clocks_decided : IsDecided (All (ClockFits text m) m.items)
  module_clocks_decided = by_test (list_all (item_clocks (scalar_in m) serves) m.items) (module_clocks text before m serves decides fit (scalar_in m) (scalar_decides m))

clocks_behind : (text before rest : List PlainModule) → text ≡ before ++ rest → (serves : Serving) → DecidesBelow text before serves → InstancesFitBehind before rest
    → IsDecided (All (λ m. All (ClockFits text m) m.items) rest)
clocks_behind text before [] whole serves decides fit = inl (All-nil (λ m. All (ClockFits text m) m.items))
clocks_behind text before (m ∷ rest) whole serves decides fit = elim (module_clocks_decided text before m rest whole serves decides fit.0) [
  | inr never ↦ inr (λ all. never (All-head (λ m. All (ClockFits text m) m.items) m rest all))
  | inl here ↦
      elim (clocks_behind text (before ++ m ∷ []) rest (whole ∙ sym (append_assoc before (m ∷ []) rest)) (served_with before m serves)
      (more_below text before m rest whole serves decides fit.0) fit.1) [
        | inl later ↦ inl (All-cons (λ m. All (ClockFits text m) m.items) m rest here later)
        | inr never ↦ inr (λ all. never (All-tail (λ m. All (ClockFits text m) m.items) m rest all))
      ]
]

clocks_decided : (text : List PlainModule) → InstancesFit text → IsDecided (ClocksFit text)
clocks_decided text fit = clocks_behind text [] text refl (λ module_name port. false) (λ name below is. absurd cc) fit

-- ---- all rules

module _ (text : List PlainModule) where
  abbrev IsJudged : Type 0
  IsJudged = IsSound text ⊎ ((reason : Reason) × IsFirstBroken text reason)

  by_clocks : NamesFit text → SelectsFit text → WidthsFit text → InstancesFit text → DriversFit text → IsJudged
  by_clocks names selects widths instances drivers = elim (clocks_decided text instances) [
    | inl clocks ↦ inl (record { names = names; selects = selects; widths = widths; instances = instances; drivers = drivers; clocks = clocks })
    | inr broken ↦ inr (reasons.Clock, breaks_clocks names selects widths instances drivers broken)
  ]

  by_drivers : NamesFit text → SelectsFit text → WidthsFit text → InstancesFit text → IsJudged
  by_drivers names selects widths instances = elim (by_test (list_all (module_is_driven text) text) (drivers_decide text)) [
    | inl drivers ↦ by_clocks names selects widths instances drivers
    | inr broken ↦ inr (reasons.Drivers, breaks_drivers names selects widths instances broken)
  ]

  by_instances : NamesFit text → SelectsFit text → WidthsFit text → IsJudged
  by_instances names selects widths = elim (by_test (instances_pass [] text) (instances_decide [] text)) [
    | inl instances ↦ by_drivers names selects widths instances
    | inr broken ↦ inr (reasons.Instance, breaks_instances names selects widths broken)
  ]

  by_widths : NamesFit text → SelectsFit text → IsJudged
  by_widths names selects = elim (widths_decided text) [
    | inl widths ↦ by_instances names selects widths
    | inr broken ↦ inr (reasons.Width, breaks_widths names selects broken)
  ]

  by_selects : NamesFit text → IsJudged
  by_selects names = elim (selects_decided text) [
    | inl selects ↦ by_widths names selects
    | inr broken ↦ inr (reasons.Select, breaks_selects names broken)
  ]

  by_names : (refused : List Reason) → text_refusals [] text ≡ refused → IsJudged
  by_names [] is = by_selects is
  by_names (reason ∷ others) is = inr (reason, breaks_names others is)

  pub sound_judged : IsJudged
  sound_judged = by_names (text_refusals [] text) refl
