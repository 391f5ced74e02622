use Rattle.std.proofs.Common.{◌≡◌, ◌+◌, ◌*◌, ◌≤◌, drop, length, map}
use Rattle.fab_netlist.specs.Wide.{tabled_cover}
use Rattle.fab_wide.specs.Split.{all_taken}
use Rattle.fab_wide.proofs.netlists.count_nets.Given as goal

abbrev pub invariant-loop-cover : goal.invariant-loop-cover
invariant-loop-cover l = record {
  nets : l.count + all_taken (map tabled_cover (drop l.cover-index l.netlist.covers)) ≡ length l.netlist.nets + all_taken (map tabled_cover l.netlist.covers);
  few : l.count ≤ 16384 + 8192 * l.cover-index;
}
