use Rattle.std.proofs.Common.{◌≡◌, ◌++◌, take}
use Rattle.fab_blif.specs.inner.Walk.{used_at}
use Rattle.fab_blif.proofs.design.push_uses.Given as goal

abbrev pub invariant-loop-net : goal.invariant-loop-net
invariant-loop-net l = l.uses.items ≡ l.fn.uses.items ++ used_at l.line (take l.net-index l.numbers)
