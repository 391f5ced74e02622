use Rattle.std.proofs.Common.{◌≡◌, drop, map}
use Rattle.fab_netlist.specs.inner.Passes.{placed}
use Rattle.fab_netlist.proofs.cycle.place_held.Given as goal

abbrev pub invariant-loop-place : goal.invariant-loop-place
invariant-loop-place l = placed (drop l.place (map (λ latch. latch.output) l.latches)) (drop l.place l.held) l.values ≡ placed (map (λ latch. latch.output) l.latches) l.held l.fn.values
