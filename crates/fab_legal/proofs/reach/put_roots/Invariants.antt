use Rattle.std.proofs.Common.{take}
use Rattle.fab_legal.specs.inner.Tables.{IsRootSet}
use Rattle.fab_legal.proofs.reach.put_roots.Given as goal

abbrev pub invariant-loop-wire : goal.invariant-loop-wire
invariant-loop-wire l = IsRootSet (take l.wire-index l.wire-items) l.entered.keys l.set.keys
