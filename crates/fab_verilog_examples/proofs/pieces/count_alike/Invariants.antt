use Rattle.std.proofs.Common.{◌≤◌}
use Rattle.fab_verilog_examples.proofs.pieces.count_alike.Given as goal

abbrev pub invariant-loop-cut : goal.invariant-loop-cut
invariant-loop-cut l = l.alike ≤ l.cut
