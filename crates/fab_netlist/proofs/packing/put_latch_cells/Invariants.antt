use Rattle.std.proofs.Common.{◌≡◌, ◌++◌, drop, map, not}
use Rattle.std.specs.List.{filter}
use Rattle.fab_netlist.specs.inner.Survey.{paired_by}
use Rattle.fab_netlist.specs.inner.Places.{latch_cell_by}
use Rattle.fab_netlist.proofs.packing.put_latch_cells.Given as goal

abbrev pub invariant-loop-latch : goal.invariant-loop-latch
invariant-loop-latch l = l.out.items ++ map (latch_cell_by l.table) (filter (λ latch. not (paired_by l.survey latch)) (drop l.latch-index l.netlist.latches)) ≡ l.fn.out.items ++ map (latch_cell_by l.table) (filter (λ latch. not (paired_by l.survey latch)) l.netlist.latches)
