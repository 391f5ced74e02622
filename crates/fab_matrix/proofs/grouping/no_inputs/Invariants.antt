use Rattle.std.proofs.Common.{◌≡◌, ℕ, [], length}
use Rattle.fab_bits.specs.Keys.{group_at}
use Rattle.fab_matrix.proofs.grouping.no_inputs.Given as goal

abbrev pub invariant-loop-output : goal.invariant-loop-output
invariant-loop-output l = record {
  len : length l.groups.items ≡ l._output;
  empty : (output : ℕ) → group_at l.groups.items output ≡ [];
}
