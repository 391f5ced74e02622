use Rattle.std.proofs.Common.{◌≡◌, ◌≤◌, drop, length}
use Rattle.fab_solutions_laws.specs.fab_ternary_laws_Operators.{same_terns}
use Rattle.fab_ternary.specs.Terns.{plain_tern}
use Rattle.fab_compiled.proofs.Written.{plain}
use Rattle.fab_compiled.proofs.whole_values.same_bits.Given as goal

-- the bits from the place on
abbrev pub invariant-loop-place : goal.invariant-loop-place
invariant-loop-place l = record {
  low : l.place ≤ length l.left;
  so_far : plain_tern l.all ≡ same_terns (drop l.place (plain l.left)) (drop l.place (plain l.right));
}

abbrev pub decreases-loop-place : goal.decreases-loop-place
decreases-loop-place l = l.place
