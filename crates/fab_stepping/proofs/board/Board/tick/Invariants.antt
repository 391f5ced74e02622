use Rattle.std.proofs.Common.{length}
use Rattle.fab_network.specs.Sharing.{IsShared}
use Rattle.fab_stepping.specs.Boards.{shown_on}
use Rattle.fab_stepping.proofs.Ticking.{TickedSoFar}
use Rattle.fab_stepping.proofs.board.Board.tick.Given as goal

abbrev pub invariant-loop-point : goal.invariant-loop-point
invariant-loop-point l = record {
  ticked : TickedSoFar l.network l.initial.self l.self l.point;
  shared : IsShared l.network.trees.items (length l.initial.self.leads.items) (shown_on l.initial.self) l.shared;
}
