use Rattle.std.proofs.Common.{◌≡◌, ℕ, [], length}
use Rattle.fab_model.specs.fab_bits.specs.Keys.{group_at}
use Rattle.fab_fabric.proofs.index.no_inputs.Given as goal

abbrev pub invariant-loop-output : goal.invariant-loop-output
invariant-loop-output l = record {
  as_many : length l.groups.items ≡ l._output;
  groups : (output : ℕ) → group_at l.groups.items output ≡ [];
}
