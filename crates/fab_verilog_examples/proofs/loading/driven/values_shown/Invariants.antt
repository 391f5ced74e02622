use Rattle.std.proofs.Common.{◌≡◌, ℕ, length, slice_get, Some}
use Rattle.fab_syntax.specs.Plain.{plain_text}
use Rattle.fab_values.specs.Declarations.{declarations}
use Rattle.fab_values.specs.Evaluation.{Held}
use Rattle.fab_equations.specs.Instances.{Instance}
use Rattle.fab_equations.specs.Numbering.{IsInstanceOfNumber}
use Rattle.fab_verilog_examples.proofs.loading.driven.values_shown.Given as goal

-- the bits of the instances so far
abbrev pub invariant-loop-instance : goal.invariant-loop-instance
invariant-loop-instance l = record {
  all : length l.values.items ≡ l.instance;
  declared : (number : ℕ) (i : Instance) (held : Held) → IsInstanceOfNumber (plain_text l.equations) number i → slice_get l.values.items number ≡ Some held →
      held.declarations ≡ declarations i.here;
}
