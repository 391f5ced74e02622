use Rattle.std.proofs.Common.{◌≡◌, length}
use Rattle.fab_fabric.proofs.Kept.{HaveSome}
use Rattle.fab_fabric.proofs.fabric.indexes_of.Given as goal

-- what is kept of the types so far
abbrev pub invariant-loop-tile : goal.invariant-loop-tile
invariant-loop-tile l = record {
  as_many : length l.indexes.items ≡ l.tile-index;
  have : HaveSome l.types l.indexes.items l.tile-index;
}
