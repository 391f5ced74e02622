-- The words of the contracts inside `check_widths`: what a map from names says, the lists of expressions that are still to come, and
-- the modules of a text with the nets that they declare.
use Rattle.std.specs.Prelude.{◌≡◌, ℕ, ◌+◌, ◌-◌, ◌^◌, length, take, drop, get_or, nat_eq, nat_lt, nat_le, ◌&&◌, List, [], ◌∷◌, ◌++◌, map, All, Option, Some, None, Bool, true, false, not, is_some, unwrap_or, if◌then◌else◌}
use Rattle.std.specs.Borrow.{Bor}
use Rattle.std.specs.List.{flat_map, list_any, list_all, position, sum}
use Rattle.std.specs.Option.{option_or}
use Rattle.std.specs.Str.{bytes_eq}
use Rattle.indexmap.specs.IndexMap.{IndexMap, get_by}
use Rattle.fab_syntax.specs.declared.tree.Expr.{Expr}
use Rattle.fab_syntax.specs.declared.tree.Shape.{Shape}
use Rattle.fab_syntax.specs.declared.tree.Shape.TheVariants.{Scalar, Vector}
use Rattle.fab_syntax.specs.declared.tree.Op.{Op}
use Rattle.fab_syntax.specs.declared.tree.Op.TheVariants.{And, Or, Xor, Equal, Minus}
use Rattle.fab_sound.specs.declared.sizes.Rule.{Rule}
use Rattle.fab_sound.specs.declared.sizes.Rule.TheVariants.{Selects, Widths}
use Rattle.fab_base.specs.declared.words.Reason.{Reason}
use Rattle.fab_sound.specs.declared.tables.Declared.{Declared}
use Rattle.fab_sound.specs.declared.tables.Known.{Known}
use Rattle.fab_sound.specs.declared.tables.Library.{Library}
use Rattle.fab_sound.specs.declared.tables.Declared.TheVariants.{Input, Output, Inner, Instance}
use Rattle.fab_syntax.specs.declared.tree.Port.{Port}
use Rattle.fab_syntax.specs.Plain.{PlainExpr, PlainExprs, PlainItem, PlainModule, plain_expr, plain_module, constant, variable, pick, part, concatenation, complement, operation, conditional, none, more, wire, reg, assign, latch, clocked, instance}
use Rattle.fab_syntax.specs.Declarations.{item_shape, module_named, width_if_any}
use Rattle.fab_syntax.specs.Sound.{Mention, subexpressions, item_expressions, expression_width, own_names, is_net, is_declaration, refusals}

-- ---- maps from names

-- what a map says of a name
abbrev pub found : {V S : Type 0} → IndexMap (Bor (List ℕ)) V S → (name : List ℕ) → Option V
found names name = get_by (λ key. bytes_eq name key.now) names

-- a map gives one name a value, and leaves the others
abbrev pub Gives : {V S : Type 0} → (old new : IndexMap (Bor (List ℕ)) V S) → (name : List ℕ) → V → Type 0
Gives old new name v = (other : List ℕ) → found new other ≡ (if bytes_eq other name then Some v else found old other)

-- how many of a name there are
abbrev pub count_at : {S : Type 0} → IndexMap (Bor (List ℕ)) ℕ S → (name : List ℕ) → ℕ
count_at counts name = unwrap_or (found counts name) 0

-- the shape of what is declared, if that is a net
abbrev pub shape_declared : Option Declared → Option Shape
shape_declared (Some (Input shape)) = Some shape
shape_declared (Some (Output shape)) = Some shape
shape_declared (Some (Inner shape)) = Some shape
shape_declared (Some Instance) = None
shape_declared None = None

abbrev pub is_scalar_entry : Option Declared → Bool
is_scalar_entry (Some (Input Scalar)) = true
is_scalar_entry _ = false

-- ---- lists of expressions

abbrev pub plain_all : List (Bor Expr) → List PlainExpr
plain_all es = map (λ e. plain_expr e.now) es

-- all that is in expressions that wait on a stack, whose top is the last and comes first
abbrev pub waiting_parts : List (Bor Expr) → List PlainExpr
waiting_parts [] = []
waiting_parts (e ∷ es) = waiting_parts es ++ subexpressions (plain_expr e.now)

abbrev pub all_but_first : {X : Type 0} → List X → List X
all_but_first [] = []
all_but_first (x ∷ xs) = xs

-- all that is in an expression but itself
abbrev pub inner_parts : PlainExpr → List PlainExpr
inner_parts e = all_but_first (subexpressions e)

abbrev pub expression_names : PlainExpr → List (List ℕ)
expression_names e = flat_map own_names (subexpressions e)

-- ---- the names of a module

-- whether a map has a net of the name
abbrev pub has_net : {S : Type 0} → IndexMap (Bor (List ℕ)) Declared S → (name : List ℕ) → Bool
has_net names name = is_some (shape_declared (found names name))

-- the names that stand alone in an item, where it uses nets
abbrev pub item_targets : PlainItem → List (List ℕ)
item_targets (assign target e) = target ∷ []
item_targets (latch target gate e) = target ∷ []
item_targets (clocked clock target e) = clock ∷ target ∷ []
item_targets _ = []

-- what an item declares
abbrev pub item_declares : PlainItem → Option (List ℕ × Declared)
item_declares (wire shape name) = Some (name, Inner shape)
item_declares (reg shape name) = Some (name, Inner shape)
item_declares (instance module_name i joins) = Some (i, Instance)
item_declares _ = None

abbrev pub port_declares : Port → Declared
port_declares port = if port.input then Input port.shape else Output port.shape

-- a name is new, if there is one
abbrev pub IsNew : {S : Type 0} → IndexMap (Bor (List ℕ)) Declared S → Option (List ℕ × Declared) → Bool
IsNew names None = true
IsNew names (Some d) = not (is_some (found names d.0))

-- a map takes a declaration in, if there is one
abbrev pub TakesDeclaration : {S : Type 0} → (old new : IndexMap (Bor (List ℕ)) Declared S) → Option (List ℕ × Declared) → Type 0
TakesDeclaration old new None = (other : List ℕ) → found new other ≡ found old other
TakesDeclaration old new (Some d) = Gives old new d.0 d.1

-- a map has the names that stand before, as nets and others
abbrev pub Notes : {S : Type 0} → IndexMap (Bor (List ℕ)) Declared S → (before : List Mention) → Type 0
Notes names before =
    (name : List ℕ) → (is_some (found names name) ≡ list_any (is_declaration name) before) × (has_net names name ≡ list_any (is_net name) before)

-- Mentions are passed, and the map has them; or the first of them that is refused is refused for this reason. Others follow.
abbrev pub Advances : {S : Type 0} → (reason : Reason) → (before mentions : List Mention) → (passed : Bool) → IndexMap (Bor (List ℕ)) Declared S → Type 0
Advances reason before mentions true names =
    (rest : List Mention) → (after : List Mention) × Notes names after × (refusals before (mentions ++ rest) ≡ refusals after rest)
Advances reason before mentions false names = (rest : List Mention) → (others : List Reason) × (refusals before (mentions ++ rest) ≡ reason ∷ others)

-- the first of some refusals
abbrev pub StartsWith : List Reason → Reason → Type 0
StartsWith reasons reason = (others : List Reason) × (reasons ≡ reason ∷ others)

-- a map has the names of the modules that stand before
abbrev pub Numbers : {S : Type 0} → IndexMap (Bor (List ℕ)) ℕ S → (before : List PlainModule) → Type 0
Numbers numbers before = (name : List ℕ) → is_some (found numbers name) ≡ is_some (module_named before name)

-- ---- the nets of a module

-- what is declared, if that is a net
abbrev pub net_declared : Option Declared → Option Declared
net_declared (Some (Input shape)) = Some (Input shape)
net_declared (Some (Output shape)) = Some (Output shape)
net_declared (Some (Inner shape)) = Some (Inner shape)
net_declared (Some Instance) = None
net_declared None = None

-- a net inside a module, if there is one
abbrev pub inner_net : Option Shape → Option Declared
inner_net None = None
inner_net (Some shape) = Some (Inner shape)

-- how ports and items declare a net
abbrev pub net_of : List Port → List PlainItem → (name : List ℕ) → Option Declared
net_of [] items name = inner_net (item_shape items name)
net_of (port ∷ ports) items name = if bytes_eq port.name name then Some (port_declares port) else net_of ports items name

-- a map takes in the nets of ports and items; those that it has stay
abbrev pub TakesNets : {S : Type 0} → (old new : IndexMap (Bor (List ℕ)) Declared S) → List Port → List PlainItem → Type 0
TakesNets old new ports items =
    (name : List ℕ) → net_declared (found new name) ≡ option_or (net_declared (found old name)) (net_of ports items name)

-- a map has the nets of a module as the module declares them
abbrev pub HasNets : {S : Type 0} → IndexMap (Bor (List ℕ)) Declared S → PlainModule → Type 0
HasNets names m = (name : List ℕ) → net_declared (found names name) ≡ net_of m.ports m.items name

-- ---- the modules of a text

abbrev pub known_module : Known → PlainModule
known_module known = plain_module known.«module».now

abbrev pub library_text : Library → List PlainModule
library_text library = map known_module library.modules.items

-- at which place the first module of a name stands
abbrev pub place_named : List PlainModule → (name : List ℕ) → Option ℕ
place_named text name = position (λ m. bytes_eq m.name name) text

-- the nets of each module, and the place of each name of a module
pub record IsLibrary (library : Library) : Type 0 where
  pub nets : All (λ known. HasNets known.names (known_module known)) library.modules.items
  pub numbers : (name : List ℕ) → found library.numbers name ≡ place_named (library_text library) name

-- ---- widths

-- how wide a net is in a map; 0 where it has none of the name
abbrev pub found_width : {S : Type 0} → IndexMap (Bor (List ℕ)) Declared S → (name : List ℕ) → ℕ
found_width names name = width_if_any (shape_declared (found names name))

abbrev pub parts_list : PlainExprs → List PlainExpr
parts_list none = []
parts_list (more e es) = e ∷ parts_list es

-- the expressions of which an expression is made
abbrev pub operands : PlainExpr → List PlainExpr
operands (constant bits) = []
operands (variable name) = []
operands (pick name index) = index ∷ []
operands (part name high low) = []
operands (concatenation es) = parts_list es
operands (complement e) = e ∷ []
operands (operation op a b) = a ∷ b ∷ []
operands (conditional c a b) = c ∷ a ∷ b ∷ []

abbrev pub result_width : Op → (left : ℕ) → ℕ
result_width And left = left
result_width Or left = left
result_width Xor left = left
result_width Equal left = 1
result_width Minus left = left

-- how wide an expression is over operands of these widths, the first first; others may follow them
abbrev pub width_over : (names : List ℕ → ℕ) → PlainExpr → (widths : List ℕ) → ℕ
width_over names (constant bits) widths = length bits
width_over names (variable name) widths = names name
width_over names (pick name index) widths = 1
width_over names (part name high low) widths = (high + 1) - low
width_over names (concatenation es) widths = sum (take (length (parts_list es)) widths)
width_over names (complement e) widths = get_or widths 0 0
width_over names (operation op a b) widths = result_width op (get_or widths 0 0)
width_over names (conditional c a b) widths = get_or widths 1 0

-- the widths of those of some expressions that are operands of none of them, where each stands before its operands
abbrev pub widths_from : (names : List ℕ → ℕ) → List PlainExpr → List ℕ
widths_from names [] = []
widths_from names (e ∷ es) = width_over names e (widths_from names es) ∷ drop (length (operands e)) (widths_from names es)

abbrev pub vector_width : Option Shape → Option ℕ
vector_width (Some (Vector n)) = Some n
vector_width (Some Scalar) = None
vector_width None = None

-- whether an index of a width has as many values as a vector has bits
abbrev pub picks_each : Option ℕ → (index : ℕ) → Bool
picks_each None index = false
picks_each (Some n) index = nat_eq (2 ^ index) n

abbrev pub holds_part : Option ℕ → (high low : ℕ) → Bool
holds_part None high low = false
holds_part (Some n) high low = nat_le low high && nat_lt high n

-- whether a select fits, and whether operands do, by the widths of the operands
abbrev pub select_passes : {S : Type 0} → IndexMap (Bor (List ℕ)) Declared S → PlainExpr → (widths : List ℕ) → Bool
select_passes names (constant bits) widths = true
select_passes names (variable name) widths = true
select_passes names (pick name index) widths = picks_each (vector_width (shape_declared (found names name))) (get_or widths 0 0)
select_passes names (part name high low) widths = holds_part (vector_width (shape_declared (found names name))) high low
select_passes names (concatenation es) widths = true
select_passes names (complement e) widths = true
select_passes names (operation op a b) widths = true
select_passes names (conditional c a b) widths = true

abbrev pub operands_pass : PlainExpr → (widths : List ℕ) → Bool
operands_pass (constant bits) widths = true
operands_pass (variable name) widths = true
operands_pass (pick name index) widths = true
operands_pass (part name high low) widths = true
operands_pass (concatenation es) widths = true
operands_pass (complement e) widths = true
operands_pass (operation op a b) widths = nat_eq (get_or widths 0 0) (get_or widths 1 0)
operands_pass (conditional c a b) widths = nat_eq (get_or widths 0 0) 1 && nat_eq (get_or widths 1 0) (get_or widths 2 0)

abbrev pub operand_widths : (names : List ℕ → ℕ) → PlainExpr → List ℕ
operand_widths names e = map (expression_width names) (operands e)

abbrev pub all_selects_pass : {S : Type 0} → IndexMap (Bor (List ℕ)) Declared S → PlainExpr → Bool
all_selects_pass names e = list_all (λ part. select_passes names part (operand_widths (found_width names) part)) (subexpressions e)

abbrev pub all_operands_pass : (names : List ℕ → ℕ) → PlainExpr → Bool
all_operands_pass names e = list_all (λ part. operands_pass part (operand_widths names part)) (subexpressions e)

-- the target of an item is as wide as its data, and a gate is one bit wide
abbrev pub sides_pass : (names : List ℕ → ℕ) → PlainItem → Bool
sides_pass names (wire shape name) = true
sides_pass names (reg shape name) = true
sides_pass names (assign target e) = nat_eq (expression_width names e) (names target)
sides_pass names (latch target gate e) = nat_eq (expression_width names gate) 1 && nat_eq (expression_width names e) (names target)
sides_pass names (clocked clock target e) = nat_eq (expression_width names e) (names target)
sides_pass names (instance module_name i joins) = true

abbrev pub expression_passes : Rule → {S : Type 0} → IndexMap (Bor (List ℕ)) Declared S → PlainExpr → Bool
expression_passes Selects names e = all_selects_pass names e
expression_passes Widths names e = all_operands_pass (found_width names) e

abbrev pub own_sides_pass : Rule → {S : Type 0} → IndexMap (Bor (List ℕ)) Declared S → PlainItem → Bool
own_sides_pass Selects names item = true
own_sides_pass Widths names item = sides_pass (found_width names) item

-- whether an item keeps a rule, over the names of a map
abbrev pub item_passes : Rule → {S : Type 0} → IndexMap (Bor (List ℕ)) Declared S → PlainItem → Bool
item_passes rule names item = list_all (expression_passes rule names) (item_expressions item) && own_sides_pass rule names item

abbrev pub module_passes : Rule → Known → Bool
module_passes rule known = list_all (item_passes rule known.names) (known_module known).items

-- whether an expression is narrower than 2^64, over operands of these widths
abbrev pub narrow_over : (names : List ℕ → ℕ) → PlainExpr → (widths : List ℕ) → Bool
narrow_over names e widths = nat_lt (width_over names e widths) (2 ^ 64)

-- whether an expression and all that is in it are
abbrev pub all_narrow : (names : List ℕ → ℕ) → PlainExpr → Bool
all_narrow names e = list_all (λ part. nat_lt (expression_width names part) (2 ^ 64)) (subexpressions e)

abbrev pub item_narrow : {S : Type 0} → IndexMap (Bor (List ℕ)) Declared S → PlainItem → Bool
item_narrow names item = list_all (all_narrow (found_width names)) (item_expressions item)

abbrev pub module_narrow : Known → Bool
module_narrow known = list_all (item_narrow known.names) (known_module known).items
