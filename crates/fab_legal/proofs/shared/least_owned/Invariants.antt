use Rattle.std.proofs.Common.{◌≡◌, take, fold}
use Rattle.fab_legal.specs.inner.Tables.{keep_least}
use Rattle.fab_legal.proofs.shared.least_owned.Given as goal

abbrev pub invariant-loop-wire : goal.invariant-loop-wire
invariant-loop-wire l = l.least ≡ fold (keep_least l.owned.keys) l.fn.other (take l.wire-index l.wires)
