use Rattle.std.proofs.Common.{◌≡◌, ◌++◌, [], replicate}
use Rattle.fab_wide.proofs.netlists.push_empty.Given as goal

abbrev pub invariant-loop-name : goal.invariant-loop-name
invariant-loop-name l = l.names.items ≡ l.fn.names.items ++ replicate l._name []
