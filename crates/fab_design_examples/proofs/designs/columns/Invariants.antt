use Rattle.std.proofs.Common.{◌≡◌, length}
use Rattle.fab_design_examples.proofs.designs.columns.Given as goal

abbrev pub invariant-loop-net : goal.invariant-loop-net
invariant-loop-net l = length l.columns.items ≡ l.net-index
