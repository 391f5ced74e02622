use Rattle.std.proofs.Common.{◌≡◌}
use Rattle.fab_blocks.proofs.block.rows_of.Given as goal

abbrev pub invariant-loop-wire : goal.invariant-loop-wire
invariant-loop-wire l = l.rows.items ≡ l.yielded
