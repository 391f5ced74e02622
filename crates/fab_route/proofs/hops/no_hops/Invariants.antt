use Rattle.std.proofs.Common.{◌≡◌, length}
use Rattle.fab_route.proofs.hops.no_hops.Given as goal

abbrev pub invariant-loop-class : goal.invariant-loop-class
invariant-loop-class l = length l.hops.items ≡ l._class
