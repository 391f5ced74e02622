use Rattle.std.proofs.Common.{◌≡◌, length}
use Rattle.fab_features.proofs.Kept.{HaveSome}
use Rattle.fab_features.proofs.matrices.matrices_of.Given as goal

-- those of the types so far
abbrev pub invariant-loop-tile : goal.invariant-loop-tile
invariant-loop-tile l = record {
  as_many : length l.matrices.items ≡ l.tile-index;
  have : HaveSome l.types l.matrices.items l.tile-index;
}
