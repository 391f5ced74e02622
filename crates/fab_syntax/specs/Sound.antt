-- When a text is sound: six rules, each of all modules, also of those that nothing instantiates. A text that breaks some is
-- refused for the first rule that it breaks, in the order of this file, wherever in the text that is. Section numbers are
-- those of IEEE 1364-2005; the rules that go beyond it are this profile's own.
use Rattle.std.specs.Prelude.{◌≡◌, ℕ, ◌+◌, ◌-◌, ◌^◌, ◌<◌, ◌≤◌, Bool, true, false, List, [], ◌∷◌, ◌++◌, map, length, All, Contains, Option, Some, None, IsSomeAnd, if◌then◌else◌, find, is_some}
use Rattle.std.specs.List.{flat_map, list_any}
use Rattle.std.specs.Str.{bytes_eq}
use Rattle.fab_base.specs.declared.words.Reason.{Reason}
use Rattle.fab_base.specs.declared.words.Reason.TheVariants.{NameTwice, UnknownName, Select, Width, Instance, Drivers, Clock}
use Rattle.fab_syntax.specs.declared.tree.Op.TheVariants.{Equal}
use Rattle.fab_syntax.specs.declared.tree.Shape.{Shape}
use Rattle.fab_syntax.specs.declared.tree.Shape.TheVariants.{Scalar, Vector}
use Rattle.fab_syntax.specs.declared.tree.Port.{Port}
use Rattle.fab_syntax.specs.Plain.{PlainExpr, PlainExprs, PlainJoin, PlainItem, PlainModule, constant, variable, pick, part, concatenation, complement, operation, conditional, none, more, wire, reg, assign, latch, clocked, instance}
use Rattle.fab_syntax.specs.Declarations.{module_named, width, declared_shape, declared_width, is_input, times_driven, times_held, times_joined}

-- ---- expressions and their parts

abbrev mutual
  -- an expression and all expressions in it, in the order of the text
  pub subexpressions : PlainExpr → List PlainExpr
  subexpressions (constant bits) = constant bits ∷ []
  subexpressions (variable name) = variable name ∷ []
  subexpressions (pick name index) = pick name index ∷ subexpressions index
  subexpressions (part name high low) = part name high low ∷ []
  subexpressions (concatenation es) = concatenation es ∷ parts_subexpressions es
  subexpressions (complement e) = complement e ∷ subexpressions e
  subexpressions (operation op a b) = operation op a b ∷ (subexpressions a ++ subexpressions b)
  subexpressions (conditional c a b) = conditional c a b ∷ (subexpressions c ++ (subexpressions a ++ subexpressions b))

  pub parts_subexpressions : PlainExprs → List PlainExpr
  parts_subexpressions none = []
  parts_subexpressions (more e es) = subexpressions e ++ parts_subexpressions es

-- what is joined, if anything is
abbrev pub joined_expressions : Option PlainExpr → List PlainExpr
joined_expressions None = []
joined_expressions (Some e) = e ∷ []

-- the expressions of an item, in the order of the text
abbrev pub item_expressions : PlainItem → List PlainExpr
item_expressions (wire shape name) = []
item_expressions (reg shape name) = []
item_expressions (assign target e) = e ∷ []
item_expressions (latch target gate e) = gate ∷ e ∷ []
item_expressions (clocked clock target e) = e ∷ []
item_expressions (instance module_name i joins) = flat_map (λ join. joined_expressions join.to) joins

-- ---- names: each is declared once, and before its use (3.12, 4.2)

-- a name in a module, as a net, as an instance, or used as a net
pub data Mention : Type 0 where
  net : List ℕ → Mention
  instance_name : List ℕ → Mention
  use_of : List ℕ → Mention

abbrev pub own_names : PlainExpr → List (List ℕ)
own_names (variable name) = name ∷ []
own_names (pick name index) = name ∷ []
own_names (part name high low) = name ∷ []
own_names _ = []

abbrev pub uses : PlainExpr → List Mention
uses e = map use_of (flat_map own_names (subexpressions e))

-- The name of the module of an instance and of its ports are judged with the instance.
abbrev pub item_mentions : PlainItem → List Mention
item_mentions (wire shape name) = net name ∷ []
item_mentions (reg shape name) = net name ∷ []
item_mentions (assign target e) = use_of target ∷ uses e
item_mentions (latch target gate e) = uses gate ++ (use_of target ∷ uses e)
item_mentions (clocked clock target e) = use_of clock ∷ use_of target ∷ uses e
item_mentions (instance module_name i joins) = instance_name i ∷ flat_map (λ join. flat_map uses (joined_expressions join.to)) joins

-- all names in a module, in the order of its text
abbrev pub mentions_in : PlainModule → List Mention
mentions_in m = map (λ (port : Port). net port.name) m.ports ++ flat_map item_mentions m.items

abbrev pub is_net : (name : List ℕ) → Mention → Bool
is_net name (net other) = bytes_eq other name
is_net name _ = false

abbrev pub is_declaration : (name : List ℕ) → Mention → Bool
is_declaration name (net other) = bytes_eq other name
is_declaration name (instance_name other) = bytes_eq other name
is_declaration name _ = false

-- why a name is refused behind those that stand before it, if it is
abbrev pub refusal : (before : List Mention) → Mention → List Reason
refusal before (net name) = if list_any (is_declaration name) before then NameTwice ∷ [] else []
refusal before (instance_name name) = if list_any (is_declaration name) before then NameTwice ∷ [] else []
refusal before (use_of name) = if list_any (is_net name) before then [] else UnknownName ∷ []

-- the refusals of names, in their order
abbrev pub refusals : (before rest : List Mention) → List Reason
refusals before [] = []
refusals before (mention ∷ rest) = refusal before mention ++ refusals (mention ∷ before) rest

-- those of modules behind others: each module's own name, and then the names in it
abbrev pub text_refusals : (before rest : List PlainModule) → List Reason
text_refusals before [] = []
text_refusals before (m ∷ rest) =
    (if is_some (module_named before m.name) then NameTwice ∷ [] else [])
    ++ (refusals [] (mentions_in m) ++ text_refusals (m ∷ before) rest)

abbrev pub NamesFit : List PlainModule → Type 0
NamesFit text = text_refusals [] text ≡ []

-- ---- selects lie in vectors (5.2.1)

abbrev mutual
  -- how wide an expression is, given the widths of names (5.4.1)
  pub expression_width : (names : List ℕ → ℕ) → PlainExpr → ℕ
  expression_width names (constant bits) = length bits
  expression_width names (variable name) = names name
  expression_width names (pick name index) = 1
  expression_width names (part name high low) = (high + 1) - low
  expression_width names (concatenation es) = parts_width names es
  expression_width names (complement e) = expression_width names e
  expression_width names (operation Equal a b) = 1
  expression_width names (operation op a b) = expression_width names a
  expression_width names (conditional c a b) = expression_width names a

  pub parts_width : (names : List ℕ → ℕ) → PlainExprs → ℕ
  parts_width names none = 0
  parts_width names (more e es) = expression_width names e + parts_width names es

abbrev pub width_of_name : PlainModule → List ℕ → ℕ
width_of_name m name = declared_width m.ports m.items name

-- how wide an expression over the names of a module is
abbrev pub width_of : PlainModule → PlainExpr → ℕ
width_of m e = expression_width (width_of_name m) e

-- a vector, and a fact of its width
abbrev pub IsVectorAnd : Option Shape → (ℕ → Type 0) → Type 0
IsVectorAnd (Some (Vector n)) P = P n
IsVectorAnd _ P = ⊥

-- A bit is picked by an index that has as many values as there are bits.
abbrev pub SelectFits : PlainModule → PlainExpr → Type 0
SelectFits m (pick name index) = IsVectorAnd (declared_shape m.ports m.items name) (λ n. 2 ^ width_of m index ≡ n)
SelectFits m (part name high low) = IsVectorAnd (declared_shape m.ports m.items name) (λ n. (low ≤ high) × (high < n))
SelectFits m _ = Unit {0}

-- what holds of an expression and of all expressions in it
abbrev pub Every : (PlainExpr → Type 0) → PlainExpr → Type 0
Every P e = All P (subexpressions e)

-- what holds of each item of each module
abbrev pub EachItem : (PlainModule → PlainItem → Type 0) → List PlainModule → Type 0
EachItem P text = All (λ m. All (P m) m.items) text

abbrev pub SelectsFit : List PlainModule → Type 0
SelectsFit text = EachItem (λ m item. All (Every (SelectFits m)) (item_expressions item)) text

-- ---- widths agree

abbrev pub OperandsFit : PlainModule → PlainExpr → Type 0
OperandsFit m (operation op a b) = width_of m a ≡ width_of m b
OperandsFit m (conditional c a b) = (width_of m c ≡ 1) × (width_of m a ≡ width_of m b)
OperandsFit m _ = Unit {0}

-- the target of an item is as wide as its data, and a gate is one bit wide
abbrev pub SidesFit : PlainModule → PlainItem → Type 0
SidesFit m (assign target e) = width_of_name m target ≡ width_of m e
SidesFit m (latch target gate e) = (width_of m gate ≡ 1) × (width_of_name m target ≡ width_of m e)
SidesFit m (clocked clock target e) = width_of_name m target ≡ width_of m e
SidesFit m _ = Unit {0}

abbrev pub WidthsFit : List PlainModule → Type 0
WidthsFit text = EachItem (λ m item. All (Every (OperandsFit m)) (item_expressions item) × SidesFit m item) text

-- ---- instances fit their modules (12.1.2, 12.3)

abbrev pub port_named : List Port → List ℕ → Option Port
port_named ports name = find (λ port. bytes_eq port.name name) ports

-- An input takes an expression of its width; an output gives a name of its width a value, or none.
abbrev pub FitsPort : PlainModule → (input : Bool) → (wide : ℕ) → Option PlainExpr → Type 0
FitsPort m true wide (Some e) = width_of m e ≡ wide
FitsPort m true wide None = ⊥
FitsPort m false wide None = Unit {0}
FitsPort m false wide (Some (variable name)) = width_of_name m name ≡ wide
FitsPort m false wide (Some _) = ⊥

-- a join names a port of the module below, and fits it
abbrev pub JoinFits : PlainModule → (below : PlainModule) → PlainJoin → Type 0
JoinFits m below join = IsSomeAnd (port_named below.ports join.port) (λ port. FitsPort m port.input (width port.shape) join.to)

-- an input is joined once, an output at most once
abbrev pub IsJoinedOnce : List PlainJoin → Port → Type 0
IsJoinedOnce joins port = (times_joined joins port.name ≤ 1) × (port.input ≡ true → times_joined joins port.name ≡ 1)

-- an instance is of a module that stands before its own
abbrev pub InstanceFits : (before : List PlainModule) → PlainModule → PlainItem → Type 0
InstanceFits before m (instance module_name i joins) =
    IsSomeAnd (module_named before module_name) (λ below. All (JoinFits m below) joins × All (IsJoinedOnce joins) below.ports)
InstanceFits before m _ = Unit {0}

abbrev pub InstancesFitBehind : (before rest : List PlainModule) → Type 0
InstancesFitBehind before [] = Unit {0}
InstancesFitBehind before (m ∷ rest) = All (InstanceFits before m) m.items × InstancesFitBehind (before ++ m ∷ []) rest

abbrev pub InstancesFit : List PlainModule → Type 0
InstancesFit text = InstancesFitBehind [] text

-- ---- each net has one driver (6.1, 9.2)

-- a wire or an output is driven by one assignment or one instance, a register by one process
abbrev pub IsAssignedOnce : List PlainModule → PlainModule → List ℕ → Type 0
IsAssignedOnce text m name = (times_driven text m.items name ≡ 1) × (times_held m.items name ≡ 0)

abbrev pub IsHeldOnce : List PlainModule → PlainModule → List ℕ → Type 0
IsHeldOnce text m name = (times_driven text m.items name ≡ 1) × (times_held m.items name ≡ 1)

-- an input is driven from outside its module alone
abbrev pub DirectionFits : List PlainModule → PlainModule → (input : Bool) → List ℕ → Type 0
DirectionFits text m true name = times_driven text m.items name ≡ 0
DirectionFits text m false name = IsAssignedOnce text m name

abbrev pub PortIsDriven : List PlainModule → PlainModule → Port → Type 0
PortIsDriven text m port = DirectionFits text m port.input port.name

abbrev pub ItemIsDriven : List PlainModule → PlainModule → PlainItem → Type 0
ItemIsDriven text m (wire shape name) = IsAssignedOnce text m name
ItemIsDriven text m (reg shape name) = IsHeldOnce text m name
ItemIsDriven text m _ = Unit {0}

abbrev pub DriversFit : List PlainModule → Type 0
DriversFit text = All (λ m. All (PortIsDriven text m) m.ports × All (ItemIsDriven text m) m.items) text

-- ---- clocks are inputs, and lead to the top

-- A name serves as a clock in a module where a flip-flop has it as its clock, or it is joined to a port that serves as one.
pub data ServesAsClock (text : List PlainModule) : PlainModule → List ℕ → Type 0 where
  ticks : {m : PlainModule} {clock : List ℕ} → (target : List ℕ) (value : PlainExpr) →
      Contains m.items (clocked clock target value) → ServesAsClock text m clock
  leads : {m : PlainModule} {name : List ℕ} → (module_name i : List ℕ) (joins : List PlainJoin) (join : PlainJoin) (below : PlainModule) →
      Contains m.items (instance module_name i joins) → Contains joins join → join.to ≡ Some (variable name) →
      module_named text module_name ≡ Some below → ServesAsClock text below join.port → ServesAsClock text m name

abbrev pub IsScalarInput : PlainModule → List ℕ → Type 0
IsScalarInput m name = (is_input m.ports name ≡ true) × (declared_shape m.ports m.items name ≡ Some Scalar)

abbrev pub IsJoinedToClock : PlainModule → Option PlainExpr → Type 0
IsJoinedToClock m (Some (variable name)) = IsScalarInput m name
IsJoinedToClock m _ = ⊥

abbrev pub ClockFits : List PlainModule → PlainModule → PlainItem → Type 0
ClockFits text m (clocked clock target e) = IsScalarInput m clock
ClockFits text m (instance module_name i joins) =
    (below : PlainModule) → module_named text module_name ≡ Some below →
    All (λ join. ServesAsClock text below join.port → IsJoinedToClock m join.to) joins
ClockFits text m _ = Unit {0}

abbrev pub ClocksFit : List PlainModule → Type 0
ClocksFit text = EachItem (ClockFits text) text

-- ---- together

pub record IsSound (text : List PlainModule) : Type 0 where
  pub names : NamesFit text
  pub selects : SelectsFit text
  pub widths : WidthsFit text
  pub instances : InstancesFit text
  pub drivers : DriversFit text
  pub clocks : ClocksFit text

-- the first rule that a text breaks, by its reason; of names it is the reason of the first that is refused
pub data IsFirstBroken (text : List PlainModule) : Reason → Type 0 where
  breaks_names : {reason : Reason} → (others : List Reason) → text_refusals [] text ≡ reason ∷ others → IsFirstBroken text reason
  breaks_selects : NamesFit text → ¬ SelectsFit text → IsFirstBroken text Select
  breaks_widths : NamesFit text → SelectsFit text → ¬ WidthsFit text → IsFirstBroken text Width
  breaks_instances : NamesFit text → SelectsFit text → WidthsFit text → ¬ InstancesFit text → IsFirstBroken text Instance
  breaks_drivers : NamesFit text → SelectsFit text → WidthsFit text → InstancesFit text → ¬ DriversFit text → IsFirstBroken text Drivers
  breaks_clocks : NamesFit text → SelectsFit text → WidthsFit text → InstancesFit text → DriversFit text → ¬ ClocksFit text →
      IsFirstBroken text Clock
