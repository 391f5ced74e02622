use Rattle.std.proofs.Common.{◌≤◌, ◌+◌, length}
use Rattle.fab_design_examples.proofs.table.read_table.Given as goal

abbrev pub invariant-loop-rest : goal.invariant-loop-rest
invariant-loop-rest l = l.line + length l.rest ≤ length l.bytes

abbrev pub decreases-loop-rest : goal.decreases-loop-rest
decreases-loop-rest l = length l.rest
