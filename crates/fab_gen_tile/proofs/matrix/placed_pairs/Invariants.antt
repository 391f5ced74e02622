use Rattle.std.proofs.Common.{◌≡◌, map, take}
use Rattle.fab_gen_tile.specs.inner.Places.{placed_pair}
use Rattle.fab_gen_tile.proofs.matrix.placed_pairs.Given as goal

-- those so far
abbrev pub invariant-loop-pair : goal.invariant-loop-pair
invariant-loop-pair l = l.placed.items ≡ map (placed_pair l.places) (take l.pair-index l.pairs)
