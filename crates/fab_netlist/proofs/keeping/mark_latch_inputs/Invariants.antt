use Rattle.std.proofs.Common.{◌≡◌, drop, map}
use Rattle.fab_netlist.specs.Kept.{marked}
use Rattle.fab_netlist.proofs.keeping.mark_latch_inputs.Given as goal

abbrev pub invariant-loop-latch : goal.invariant-loop-latch
invariant-loop-latch l = marked (map (λ latch. latch.input) (drop l.latch-index l.latches)) l.marks ≡ marked (map (λ latch. latch.input) l.latches) l.fn.marks
