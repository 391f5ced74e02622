use Rattle.std.proofs.Common.{◌≡◌, true}
use Rattle.fab_stepping.specs.inner.Known.{AreAllKnown}
use Rattle.fab_stepping.proofs.Activated.{ActivatedSoFar}
use Rattle.fab_stepping.proofs.board.Board.activate_all.Given as goal

abbrev pub invariant-loop-point : goal.invariant-loop-point
invariant-loop-point l = record {
  so_far : ActivatedSoFar l.network l.order l.solution l.initial.self l.self l.point-index l.changed;
  known : l.known ≡ true → AreAllKnown l.self.terns.items;
}
