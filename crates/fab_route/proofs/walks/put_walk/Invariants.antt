use Rattle.std.proofs.Common.{◌≡◌, ◌≤◌, ◌++◌, ◌-◌, length, drop}
use Rattle.fab_route.specs.Plain.{numbering_of}
use Rattle.fab_route.proofs.Along.{edges}
use Rattle.fab_route.proofs.walks.put_walk.Given as goal

abbrev pub invariant-loop-step : goal.invariant-loop-step
invariant-loop-step l = record {
  some : 1 ≤ l.step;
  edges : l.edges.items ≡ l.fn.edges.items ++ edges (numbering_of l.nodes) (drop (length l.path - l.step) l.path);
}
