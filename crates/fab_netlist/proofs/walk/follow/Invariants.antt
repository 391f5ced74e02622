use Rattle.std.proofs.Common.{◌+◌, ◌*◌, length}
use Rattle.fab_netlist.specs.inner.Search.{IsGoing, IsListed, is_new}
use Rattle.fab_netlist.proofs.Levels.{passing}
use Rattle.fab_netlist.proofs.walk.follow.Given as goal

abbrev pub invariant-loop-reader : goal.invariant-loop-reader
invariant-loop-reader l = record {
  going : IsGoing l.netlist l.fn.marks l.fn.path.items l.marks l.path.items;
  listed : IsListed l.netlist l.marks l.order.items;
}

abbrev pub decreases-loop-reader : goal.decreases-loop-reader
decreases-loop-reader l = 2 * passing is_new l.marks + length l.path.items
