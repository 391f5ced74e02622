use Rattle.std.proofs.Common.{◌≡◌, ◌++◌, map, take}
use Rattle.fab_sample.specs.Lists.{end_name}
use Rattle.fab_sample.proofs.lists.push_ends.Given as goal

abbrev pub invariant-loop-from : goal.invariant-loop-from
invariant-loop-from l = l.names.items ≡ l.fn.names.items ++ map (end_name l.fn.bit) (take l.from-index l.directions)
