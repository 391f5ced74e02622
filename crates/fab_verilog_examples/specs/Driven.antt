-- The bits of instances, and the bits of expressions over them.
use Rattle.std.specs.Prelude.{◌≡◌, ℕ, ◌<◌, Bool, List, length, slice_get, Some}
use Rattle.fab_syntax.specs.Plain.{PlainExpr, PlainModule}
use Rattle.fab_meaning.specs.Value.{bit_at}
use Rattle.fab_values.specs.Declarations.{declarations}
use Rattle.fab_values.specs.Evaluation.{Held, IsFit, expr_width, value_in}
use Rattle.fab_equations.specs.Instances.{Instance, instances}
use Rattle.fab_equations.specs.Numbering.{IsInstanceOfNumber}
use Rattle.fab_equations.specs.Tables.{IsExpression}
use Rattle.fab_equations.specs.declared.driver.Source.{Source}

-- there are bits for each instance, over the names that its module declares
pub record AreValues (text : List PlainModule) (values : List Held) : Type 0 where
  pub all : length values ≡ length (instances text)
  pub declared : (number : ℕ) (i : Instance) (held : Held) → IsInstanceOfNumber text number i → slice_get values number ≡ Some held → held.declarations ≡ declarations i.here

-- a source is an expression that has a value over the names of its instance, and a bit of it
pub record HasValue (text : List PlainModule) (source : Source) : Type 0 where
  pub i : Instance
  pub is : IsInstanceOfNumber text source.instance i
  pub e : PlainExpr
  pub expression : IsExpression text source.expr e
  pub fit : IsFit (declarations i.here) e
  pub within : source.bit < expr_width (declarations i.here) e

-- the bit that a source has over the bits of the instances
abbrev pub IsBitOf : List PlainModule → (values : List Held) → Source → Bool → Type 0
IsBitOf text values source bit =
    (e : PlainExpr) (held : Held) → IsExpression text source.expr e → slice_get values source.instance ≡ Some held → bit ≡ bit_at (value_in held e) source.bit
