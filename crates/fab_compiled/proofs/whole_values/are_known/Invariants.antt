use Rattle.std.proofs.Common.{◌≡◌, ◌<◌, ℕ, true}
use Rattle.fab_solutions_laws.specs.fab_ternary_laws_Operators.{tern_at}
use Rattle.fab_ternary.specs.Terns.{is_known}
use Rattle.fab_compiled.proofs.Written.{plain}
use Rattle.fab_compiled.proofs.whole_values.are_known.Given as goal

-- all bits so far are known
abbrev pub invariant-loop-bit : goal.invariant-loop-bit
invariant-loop-bit l = (k : ℕ) → k < l.bit-index → is_known (tern_at (plain l.bits) k) ≡ true
