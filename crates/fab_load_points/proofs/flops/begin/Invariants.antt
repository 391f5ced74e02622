use Rattle.std.proofs.Common.{◌≡◌, length}
use Rattle.std.proofs.Common.{take}
use Rattle.fab_load_points.specs.inner.Flops.{AreBegun}
use Rattle.fab_load_points.proofs.flops.begin.Given as goal

abbrev pub invariant-loop-flop : goal.invariant-loop-flop
invariant-loop-flop l = record {
  long : length l.statuses.items ≡ length l.initial.statuses.items;
  begun : AreBegun (take l.flop-index l.flops) l.statuses.items;
}
