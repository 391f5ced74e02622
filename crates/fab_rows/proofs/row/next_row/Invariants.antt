use Rattle.std.proofs.Common.{◌≡◌, ◌+◌, ◌≤◌, length}
use Rattle.fab_rows.specs.Rows.{rows_at}
use Rattle.fab_rows.proofs.row.next_row.Given as goal

abbrev pub invariant-loop-rest : goal.invariant-loop-rest
invariant-loop-rest l = record {
  left : rows_at l.number l.rest ≡ rows_at l.fn.line l.bytes;
  small : length l.rest ≤ length l.bytes;
  room : l.number + length l.rest ≤ l.fn.line + length l.bytes;
}

abbrev pub decreases-loop-rest : goal.decreases-loop-rest
decreases-loop-rest l = length l.rest
