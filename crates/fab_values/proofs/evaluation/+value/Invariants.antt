use Rattle.std.proofs.Common.{◌≡◌, ◌+◌, ◌-◌, ◌<◌, ◌≤◌, ℕ, false, drop}
use Rattle.fab_bits.specs.Bits.{number}
use Rattle.fab_syntax.specs.Plain.{plain_expr}
use Rattle.fab_meaning.specs.Value.{bit_at}
use Rattle.fab_values.specs.Evaluation.{value_in}
use Rattle.fab_values.proofs.Evaluated.{borrow_at}
use Rattle.fab_values.proofs.evaluation.+value.Given as goal

-- all bits so far agree
abbrev pub invariant-agree-loop-bit : goal.invariant-agree-loop-bit
invariant-agree-loop-bit l = (k : ℕ) → k < l.bit → bit_at (value_in l.values (plain_expr l.first)) k ≡ bit_at (value_in l.values (plain_expr l.second)) k

abbrev pub invariant-difference_bit-loop-place : goal.invariant-difference_bit-loop-place
invariant-difference_bit-loop-place l = l.borrow ≡ borrow_at false (value_in l.values (plain_expr l.first)) (value_in l.values (plain_expr l.second)) l.place

-- the number of the bits from the place on
abbrev pub invariant-index_value-loop-place : goal.invariant-index_value-loop-place
invariant-index_value-loop-place l = record {
  low : l.place ≤ 32;
  so_far : l.number ≡ number (drop l.place (value_in l.values (plain_expr l.index)));
}

abbrev pub decreases-index_value-loop-place : goal.decreases-index_value-loop-place
decreases-index_value-loop-place l = l.place
