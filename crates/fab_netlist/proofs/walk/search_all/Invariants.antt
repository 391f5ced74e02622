use Rattle.std.proofs.Common.{◌≡◌, ◌<◌, ℕ, []}
use Rattle.fab_netlist.specs.declared.walk.Mark.TheVariants as marks
use Rattle.fab_netlist.specs.inner.Search.{IsListed, IsSearch, mark_at}
use Rattle.fab_netlist.proofs.walk.search_all.Given as goal

abbrev pub invariant-loop-start : goal.invariant-loop-start
invariant-loop-start l = record {
  empty : l.path.items ≡ [];
  state : IsSearch l.netlist l.marks [];
  listed : IsListed l.netlist l.marks l.order.items;
  done : (place : ℕ) → place < l.start → mark_at l.marks place ≡ marks.Done;
}
