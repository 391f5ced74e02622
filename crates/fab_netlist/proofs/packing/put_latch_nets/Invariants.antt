use Rattle.std.proofs.Common.{◌≡◌, ◌++◌, drop, map, not}
use Rattle.std.specs.List.{filter}
use Rattle.fab_netlist.specs.inner.Survey.{paired_by}
use Rattle.fab_netlist.proofs.packing.put_latch_nets.Given as goal

abbrev pub invariant-loop-latch : goal.invariant-loop-latch
invariant-loop-latch l = l.out.items ++ map (λ latch. latch.output) (filter (λ latch. not (paired_by l.survey latch)) (drop l.latch-index l.netlist.latches)) ≡ l.fn.out.items ++ map (λ latch. latch.output) (filter (λ latch. not (paired_by l.survey latch)) l.netlist.latches)
