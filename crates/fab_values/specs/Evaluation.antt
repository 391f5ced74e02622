-- The value of an expression where the bits of all names of a module are given.
use Rattle.std.specs.Prelude.{◌≡◌, ℕ, ◌+◌, ◌-◌, ◌^◌, ◌<◌, ◌≤◌, Bool, false, List, [], ◌∷◌, length, map, slice_index_or, Option, Some, None}
use Rattle.fab_syntax.specs.declared.tree.Shape.{Shape}
use Rattle.fab_syntax.specs.declared.tree.Shape.TheVariants.{Scalar, Vector}
use Rattle.fab_syntax.specs.declared.tree.Op.{Op}
use Rattle.fab_syntax.specs.declared.tree.Op.TheVariants.{And, Or, Xor, Equal, Minus}
use Rattle.fab_syntax.specs.Plain.{PlainExpr, PlainExprs, constant, variable, pick, part, concatenation, complement, operation, conditional, none, more, plain_expr, plain_exprs}
use Rattle.fab_syntax.specs.Sound.{expression_width, parts_width}
use Rattle.fab_bits.specs.Bits.{same_bits}
use Rattle.fab_meaning.specs.Value.{value, concatenated, operated, bit_at}
use Rattle.fab_syntax.specs.declared.tree.Expr.{Expr}
use Rattle.fab_values.specs.Declarations.{Declaration, found_in, bits_named, bits_of, width}
use Rattle.fab_values.specs.declared.names.Local.{Local}

-- the bits of all names of an instance, in the order of the declarations
pub record Held : Type 0 where
  pub declarations : List Declaration
  pub bits : List Bool

-- there is a bit for each bit of each declaration
abbrev pub IsWhole : Held → Type 0
IsWhole held = length held.bits ≡ bits_of held.declarations

-- the value of an expression over them
abbrev pub value_in : Held → PlainExpr → List Bool
value_in held e = value (bits_named held.declarations held.bits) e

abbrev pub values_in : Held → PlainExprs → List Bool
values_in held es = concatenated (bits_named held.declarations held.bits) es

-- how many bits a declared name has
abbrev pub local_width : Option Local → ℕ
local_width None = 0
local_width (Some local) = width local.shape

-- how many bits an expression has
abbrev pub expr_width : List Declaration → PlainExpr → ℕ
expr_width ds e = expression_width (λ name. local_width (found_in ds name)) e

abbrev pub exprs_width : List Declaration → PlainExprs → ℕ
exprs_width ds es = parts_width (λ name. local_width (found_in ds name)) es

-- a vector of so many bits
abbrev pub IsVectorOf : Option Local → ℕ → Type 0
IsVectorOf None n = ⊥
IsVectorOf (Some local) n = local.shape ≡ Vector n

-- An expression that has a value: its names are declared, selects lie within vectors, and operands and branches have the
-- same widths. The bits of operands are counted in 64 bits.
abbrev mutual
  pub IsFit : List Declaration → PlainExpr → Type 0
  IsFit ds (constant bits) = Unit {0}
  IsFit ds (variable name) = (local : Local) × (found_in ds name ≡ Some local)
  IsFit ds (pick name index) = IsVectorOf (found_in ds name) (2 ^ expr_width ds index) × IsFit ds index
  IsFit ds (part name high low) = (n : ℕ) × IsVectorOf (found_in ds name) n × (low ≤ high) × (high < n)
  IsFit ds (concatenation parts) = AreFit ds parts
  IsFit ds (complement e) = IsFit ds e
  IsFit ds (operation op a b) = (expr_width ds a ≡ expr_width ds b) × (expr_width ds a < 2 ^ 64) × IsFit ds a × IsFit ds b
  IsFit ds (conditional c a b) = (expr_width ds c ≡ 1) × (expr_width ds a ≡ expr_width ds b) × IsFit ds c × IsFit ds a × IsFit ds b

  pub AreFit : List Declaration → PlainExprs → Type 0
  AreFit ds none = Unit {0}
  AreFit ds (more e rest) = IsFit ds e × AreFit ds rest

-- whether the operands of an operation agree in all bits
abbrev pub operands_agree : Held → PlainExpr → Bool
operands_agree held (operation op a b) = same_bits (value_in held a) (value_in held b)
operands_agree held _ = false

-- the difference of the operands of an operation
abbrev pub operands_difference : Held → PlainExpr → List Bool
operands_difference held (operation op a b) = operated Minus (value_in held a) (value_in held b)
operands_difference held _ = []

-- how wide the operands of an operation are
abbrev pub operands_width : Held → PlainExpr → ℕ
operands_width held (operation op a b) = expr_width held.declarations a
operands_width held _ = 0

-- where a bit of a concatenation stands: at a place of one of its parts
pub record IsPartBit (held : Held) (parts : List Expr) (bit index place : ℕ) : Type 0 where
  pub within : index < length parts
  pub fit : (d : Expr) → IsFit held.declarations (plain_expr (slice_index_or parts index d))
  pub place_within : (d : Expr) → place < expr_width held.declarations (plain_expr (slice_index_or parts index d))
  pub same : (d : Expr) → bit_at (values_in held (plain_exprs (map plain_expr parts))) bit ≡ bit_at (value_in held (plain_expr (slice_index_or parts index d))) place
