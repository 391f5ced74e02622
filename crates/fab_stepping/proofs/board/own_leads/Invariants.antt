use Rattle.std.proofs.Common.{◌≡◌, ℕ, ◌<◌, length, get_or}
use Rattle.fab_stepping.proofs.board.own_leads.Given as goal

abbrev pub invariant-loop-point : goal.invariant-loop-point
invariant-loop-point l = record {
  long : length l.leads.items ≡ l.point;
  own : (point : ℕ) → point < l.point → get_or l.leads.items point 0 ≡ point;
}
