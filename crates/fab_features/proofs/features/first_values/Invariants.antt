use Rattle.std.proofs.Common.{take}
use Rattle.fab_features.specs.inner.Listing.{HoldsFirsts}
use Rattle.fab_features.proofs.features.first_values.Given as goal

abbrev pub invariant-loop-pair : goal.invariant-loop-pair
invariant-loop-pair l = HoldsFirsts l.size (take l.pair-index l.pairs) l.table.items
