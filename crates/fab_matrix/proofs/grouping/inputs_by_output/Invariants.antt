use Rattle.std.proofs.Common.{◌≡◌, ℕ, length, take}
use Rattle.fab_bits.specs.Keys.{group_at}
use Rattle.fab_matrix.specs.inner.Grouped.{numbers_of}
use Rattle.fab_matrix.proofs.grouping.inputs_by_output.Given as goal

-- the groups are those of the pairs so far
abbrev pub invariant-loop-pair : goal.invariant-loop-pair
invariant-loop-pair l = record {
  len : length l.groups.items ≡ l.outputs;
  groups : (output : ℕ) → group_at l.groups.items output ≡ numbers_of (take l.pair-index l.pairs) output;
}
