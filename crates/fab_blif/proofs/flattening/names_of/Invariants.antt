use Rattle.std.proofs.Common.{◌≡◌, take, map}
use Rattle.fab_blif.specs.inner.Walk.{plain_nets}
use Rattle.fab_blif.proofs.flattening.names_of.Given as goal

abbrev pub invariant-loop-net : goal.invariant-loop-net
invariant-loop-net l = l.names.items ≡ map (λ net. net.name) (plain_nets (take l.net-index l.net-items))
