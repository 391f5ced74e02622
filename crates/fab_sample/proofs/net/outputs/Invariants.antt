use Rattle.std.proofs.Common.{◌≡◌}
use Rattle.fab_sample.specs.Netlists.{outputs}
use Rattle.fab_sample.proofs.net.outputs.Given as goal

abbrev pub invariant-loop-number : goal.invariant-loop-number
invariant-loop-number l = l.nets.items ≡ outputs l.number
