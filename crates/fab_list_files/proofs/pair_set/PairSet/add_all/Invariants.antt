use Rattle.std.proofs.Common.{◌≡◌}
use Rattle.fab_list_files.specs.Lists.{with_pairs}
use Rattle.fab_list_files.proofs.pair_set.PairSet.add_all.Given as goal

abbrev pub invariant-loop-output : goal.invariant-loop-output
invariant-loop-output l = l.self ≡ with_pairs l.fn.self l.yielded
