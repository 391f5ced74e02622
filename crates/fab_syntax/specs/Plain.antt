-- The tree of a text as plain data: no pointers, each vector a list, each name its bytes. Contracts compare these trees.
use Rattle.std.specs.Prelude.{ℕ, Bool, List, [], ◌∷◌, map, Option, Some, None}
use Rattle.fab_syntax.specs.declared.tree.Shape.{Shape}
use Rattle.fab_syntax.specs.declared.tree.Op.{Op}
use Rattle.fab_syntax.specs.declared.tree.Port.{Port}
use Rattle.fab_syntax.specs.declared.tree.Join.{Join}
use Rattle.fab_syntax.specs.declared.tree.Module.{Module}
use Rattle.fab_syntax.specs.declared.tree.Text.{Text}
use Rattle.fab_syntax.specs.declared.tree.Item.{Item}
use Rattle.fab_syntax.specs.declared.tree.Item.TheVariants.{Wire, Reg, Assign, Latch, Clocked, Instance}
use Rattle.fab_syntax.specs.declared.tree.Expr.{Expr, Const, Var, Pick', Part, Cat', Not', Two', Cond', Row_of-Expr, end_of-Expr, more_of-Expr}

mutual
  -- an expression
  pub data PlainExpr : Type 0 where
    constant : List Bool → PlainExpr
    variable : List ℕ → PlainExpr
    pick : List ℕ → (index : PlainExpr) → PlainExpr
    part : List ℕ → (high low : ℕ) → PlainExpr
    concatenation : PlainExprs → PlainExpr
    complement : PlainExpr → PlainExpr
    operation : Op → PlainExpr → PlainExpr → PlainExpr
    conditional : (test yes no : PlainExpr) → PlainExpr

  -- the parts of a concatenation
  pub data PlainExprs : Type 0 where
    none : PlainExprs
    more : PlainExpr → PlainExprs → PlainExprs

-- a port of an instance and what is joined to it
pub record PlainJoin : Type 0 where
  pub port : List ℕ
  pub to : Option PlainExpr

pub data PlainItem : Type 0 where
  wire : Shape → List ℕ → PlainItem
  reg : Shape → List ℕ → PlainItem
  assign : (target : List ℕ) (value : PlainExpr) → PlainItem
  latch : (target : List ℕ) (gate value : PlainExpr) → PlainItem
  clocked : (clock target : List ℕ) (value : PlainExpr) → PlainItem
  instance : (module_name name : List ℕ) → List PlainJoin → PlainItem

pub record PlainModule : Type 0 where
  pub name : List ℕ
  pub ports : List Port
  pub items : List PlainItem

abbrev mutual
  pub plain_expr : Expr → PlainExpr
  plain_expr (Const word) = constant word
  plain_expr (Var name) = variable name
  plain_expr (Pick' name p index) = pick name (plain_expr index)
  plain_expr (Part name high low) = part name high low
  plain_expr (Cat' shape row) = concatenation (plain_row row)
  plain_expr (Not' p e) = complement (plain_expr e)
  plain_expr (Two' op p a q b) = operation op (plain_expr a) (plain_expr b)
  plain_expr (Cond' p c q a r b) = conditional (plain_expr c) (plain_expr a) (plain_expr b)

  -- the elements of a vector of expressions, as the declared type has them
  pub plain_row : {n : _} → Row_of-Expr n → PlainExprs
  plain_row end_of-Expr = none
  plain_row (more_of-Expr e rest) = more (plain_expr e) (plain_row rest)

-- the parts of a concatenation from their list
abbrev pub plain_exprs : List PlainExpr → PlainExprs
plain_exprs [] = none
plain_exprs (e ∷ es) = more e (plain_exprs es)

abbrev pub plain_option : Option Expr → Option PlainExpr
plain_option None = None
plain_option (Some e) = Some (plain_expr e)

abbrev pub plain_join : Join → PlainJoin
plain_join join = record { port = join.port; to = plain_option join.to }

abbrev pub plain_item : Item → PlainItem
plain_item (Wire shape name) = wire shape name
plain_item (Reg shape name) = reg shape name
plain_item (Assign target e) = assign target (plain_expr e)
plain_item (Latch target gate e) = latch target (plain_expr gate) (plain_expr e)
plain_item (Clocked clock target e) = clocked clock target (plain_expr e)
plain_item (Instance of name joins) = instance of name (map plain_join joins.items)

abbrev pub plain_module : Module → PlainModule
plain_module m = record { name = m.name; ports = m.ports.items; items = map plain_item m.items.items }

abbrev pub plain_text : Text → List PlainModule
plain_text text = map plain_module text.modules.items
