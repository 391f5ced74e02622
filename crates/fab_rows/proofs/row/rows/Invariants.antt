use Rattle.std.proofs.Common.{◌≡◌, ◌+◌, ◌++◌, ◌≤◌, length}
use Rattle.fab_rows.specs.Rows.{rows_at, rows_of}
use Rattle.fab_rows.proofs.row.rows.Given as goal

abbrev pub invariant-loop-rows : goal.invariant-loop-rows
invariant-loop-rows l = record {
  so_far : l.rows.items ++ rows_at l.line l.rest ≡ rows_of l.bytes;
  room : l.line + length l.rest ≤ length l.bytes + 1;
}

abbrev pub decreases-loop-rows : goal.decreases-loop-rows
decreases-loop-rows l = length l.rest
