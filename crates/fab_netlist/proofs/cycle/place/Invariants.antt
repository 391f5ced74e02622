use Rattle.std.proofs.Common.{◌≡◌, drop}
use Rattle.fab_netlist.specs.inner.Passes.{placed}
use Rattle.fab_netlist.proofs.cycle.place.Given as goal

abbrev pub invariant-loop-place : goal.invariant-loop-place
invariant-loop-place l = placed (drop l.place l.nets) (drop l.place l.bits) l.values ≡ placed l.nets l.bits l.fn.values
