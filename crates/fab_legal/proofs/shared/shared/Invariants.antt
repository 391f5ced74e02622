use Rattle.fab_legal.specs.inner.Tables.{key_lists, IsLeast}
use Rattle.fab_legal.proofs.SharedWires.{SharedBelow, Owns}
use Rattle.fab_legal.proofs.shared.shared.Given as goal

abbrev pub invariant-loop-set : goal.invariant-loop-set
invariant-loop-set l = record {
  owns : Owns (key_lists l.sets) l.set-index l.owned.keys;
  least : IsLeast (SharedBelow (key_lists l.sets) l.set-index) l.least;
}
