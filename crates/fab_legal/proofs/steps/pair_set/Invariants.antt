use Rattle.std.proofs.Common.{◌≡◌, [], map, take}
use Rattle.indexmap.specs.IndexSet.{insert_all}
use Rattle.fab_implementation.specs.fab_model.specs.Tiles.{pair_numbers}
use Rattle.fab_legal.specs.inner.Tables.{same_pair}
use Rattle.fab_legal.proofs.steps.pair_set.Given as goal

abbrev pub invariant-loop-pair : goal.invariant-loop-pair
invariant-loop-pair l = l.set.keys ≡ insert_all same_pair [] (map pair_numbers (take l.pair-index l.pairs))
