use Rattle.std.proofs.Common.{◌≡◌}
use Rattle.fab_verilog_examples.proofs.loading.driven.instance_values.Given as goal

-- the bits stay those of the same names
abbrev pub invariant-loop-point : goal.invariant-loop-point
invariant-loop-point l = l.values.declarations ≡ l.initial.values.declarations
