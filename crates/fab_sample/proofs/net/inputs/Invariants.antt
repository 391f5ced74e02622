use Rattle.std.proofs.Common.{◌≡◌}
use Rattle.fab_sample.specs.Netlists.{inputs}
use Rattle.fab_sample.proofs.net.inputs.Given as goal

abbrev pub invariant-loop-number : goal.invariant-loop-number
invariant-loop-number l = l.nets.items ≡ inputs l.number
