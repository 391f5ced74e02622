use Rattle.std.proofs.Common.{take}
use Rattle.fab_legal.specs.inner.Tables.{HavePairs}
use Rattle.fab_legal.proofs.steps.pair_sets.Given as goal

abbrev pub invariant-loop-tile : goal.invariant-loop-tile
invariant-loop-tile l = HavePairs (take l.tile-index l.tile-items) l.sets.items
