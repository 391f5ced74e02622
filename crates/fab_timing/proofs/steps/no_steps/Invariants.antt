use Rattle.std.proofs.Common.{◌≡◌, ℕ, [], length}
use Rattle.fab_timing.specs.inner.Tables.{before_in}
use Rattle.fab_timing.proofs.steps.no_steps.Given as goal

abbrev pub invariant-loop-node : goal.invariant-loop-node
invariant-loop-node l = record {
  as_many : length l.before.items ≡ l._node;
  none : (node : ℕ) → before_in l.before.items node ≡ [];
}
