-- The trees whose printed spelling can be read again.
use Rattle.std.specs.Prelude.{◌≡◌, ℕ, ◌+◌, ◌<◌, ◌≤◌, max, Bool, true, false, List, [], ◌∷◌, length, Option, Some, None, if◌then◌else◌}
use Rattle.fab_tokens.specs.fab_syntax.specs.declared.tree.Shape.{Shape}
use Rattle.fab_tokens.specs.fab_syntax.specs.declared.tree.Shape.TheVariants.{Scalar, Vector}
use Rattle.fab_tokens.specs.fab_syntax.specs.declared.tree.Port.{Port}
use Rattle.fab_tokens.specs.fab_syntax.specs.Plain.{PlainExpr, PlainExprs, PlainJoin, PlainItem, PlainModule, constant, variable, pick, part, concatenation, complement, operation, conditional, none, more, wire, reg, assign, latch, clocked, instance}
use Rattle.fab_tokens.specs.Literals.{max_number}
use Rattle.fab_tokens.specs.Tokens.{IsIdentifier}
use Rattle.fab_grammar_defs.specs.Words.{is_foreign}

-- the parentheses round an operator expression that is an operand
abbrev pub around : Bool → ℕ
around operand = if operand then 1 else 0

abbrev mutual
  -- how many brackets are open in one another in the printed spelling of an expression, which may be an operand
  pub nested : (operand : Bool) → PlainExpr → ℕ
  nested operand (constant bits) = 0
  nested operand (variable name) = 0
  nested operand (pick name index) = 1 + nested false index
  nested operand (part name high low) = 1
  nested operand (concatenation es) = 1 + nested_parts es
  nested operand (complement e) = around operand + nested true e
  nested operand (operation op a b) = around operand + max (nested true a) (nested true b)
  nested operand (conditional c a b) = around operand + max (nested true c) (max (nested true a) (nested true b))

  pub nested_parts : PlainExprs → ℕ
  nested_parts none = 0
  nested_parts (more e es) = max (nested false e) (nested_parts es)

abbrev pub HasPart : PlainExprs → Type 0
HasPart none = ⊥
HasPart (more e es) = Unit {0}

abbrev mutual
  -- names are identifiers, constants have a bit and at most 128, numbers are in range, and concatenations have a part
  pub IsWritten : PlainExpr → Type 0
  IsWritten (constant bits) = (0 < length bits) × (length bits ≤ 128)
  IsWritten (variable name) = IsIdentifier name
  IsWritten (pick name index) = IsIdentifier name × IsWritten index
  IsWritten (part name high low) = IsIdentifier name × (high ≤ max_number) × (low ≤ max_number)
  IsWritten (concatenation es) = HasPart es × AreWritten es
  IsWritten (complement e) = IsWritten e
  IsWritten (operation op a b) = IsWritten a × IsWritten b
  IsWritten (conditional c a b) = IsWritten c × IsWritten a × IsWritten b

  pub AreWritten : PlainExprs → Type 0
  AreWritten none = Unit {0}
  AreWritten (more e es) = IsWritten e × AreWritten es

-- a whole expression, with at most 300 brackets in one another
abbrev pub IsPrintable : PlainExpr → Type 0
IsPrintable e = IsWritten e × (nested false e ≤ 300)

-- a vector has a bit
abbrev pub IsShape : Shape → Type 0
IsShape Scalar = Unit {0}
IsShape (Vector width) = (0 < width) × (width ≤ 4294967295)

abbrev pub ArePorts : List Port → Type 0
ArePorts [] = Unit {0}
ArePorts (port ∷ ports) = (IsShape port.shape × IsIdentifier port.name) × ArePorts ports

abbrev pub IsJoined : Option PlainExpr → Type 0
IsJoined None = Unit {0}
IsJoined (Some e) = IsPrintable e

abbrev pub AreJoins : List PlainJoin → Type 0
AreJoins [] = Unit {0}
AreJoins (join ∷ joins) = (IsIdentifier join.port × IsJoined join.to) × AreJoins joins

-- the module of an instance has no name that is a word of Verilog which the profile lacks
abbrev pub IsItem : PlainItem → Type 0
IsItem (wire shape name) = IsShape shape × IsIdentifier name
IsItem (reg shape name) = IsShape shape × IsIdentifier name
IsItem (assign target value) = IsIdentifier target × IsPrintable value
IsItem (latch target gate value) = IsIdentifier target × IsPrintable gate × IsPrintable value
IsItem (clocked clock target value) = IsIdentifier clock × IsIdentifier target × IsPrintable value
IsItem (instance module_name name joins) =
    IsIdentifier module_name × (is_foreign module_name ≡ false) × IsIdentifier name × AreJoins joins

abbrev pub AreItems : List PlainItem → Type 0
AreItems [] = Unit {0}
AreItems (item ∷ items) = IsItem item × AreItems items

abbrev pub IsModule : PlainModule → Type 0
IsModule m = IsIdentifier m.name × ArePorts m.ports × AreItems m.items

abbrev pub AreModules : List PlainModule → Type 0
AreModules [] = Unit {0}
AreModules (m ∷ ms) = IsModule m × AreModules ms

abbrev pub IsPrintableText : List PlainModule → Type 0
IsPrintableText ms = (0 < length ms) × AreModules ms
