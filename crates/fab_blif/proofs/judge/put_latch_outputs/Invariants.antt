use Rattle.std.proofs.Common.{◌≡◌, ◌++◌, drop}
use Rattle.fab_netlist.specs.declared.netlist.Latch.{Latch}
use Rattle.fab_blif.specs.Judged.{latch_uses}
use Rattle.fab_blif.proofs.judge.put_latch_outputs.Given as goal

abbrev pub invariant-loop-place : goal.invariant-loop-place
invariant-loop-place l = l.uses.items ++ latch_uses (λ (latch : Latch). latch.output) (drop l.place l.lines) (drop l.place l.latches)
    ≡ l.fn.uses.items ++ latch_uses (λ (latch : Latch). latch.output) l.lines l.latches
