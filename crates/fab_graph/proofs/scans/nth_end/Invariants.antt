use Rattle.std.proofs.Common.{◌≡◌, ◌≤◌, length, take}
use Rattle.fab_ways_laws.specs.Edges.{outputs_of, turned_pairs}
use Rattle.fab_graph.proofs.scans.nth_end.Given as goal

abbrev pub invariant-loop-place : goal.invariant-loop-place
invariant-loop-place l = record {
  count_is : l.count ≡ length (outputs_of (turned_pairs l.turned (take l.place l.pairs)) l.number);
  low : l.count ≤ l.index;
}
