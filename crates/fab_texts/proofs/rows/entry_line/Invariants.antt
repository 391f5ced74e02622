use Rattle.std.proofs.Common.{◌≡◌, ◌+◌, ◌≤◌, length}
use Rattle.fab_texts.specs.Rows.{entry_line, rows_of}
use Rattle.fab_texts.proofs.Entries.{text_rows}
use Rattle.fab_texts.proofs.rows.entry_line.Given as goal

abbrev pub invariant-loop-rest : goal.invariant-loop-rest
invariant-loop-rest l = record {
  so_far : entry_line (text_rows l.number l.rest) l.left ≡ entry_line (rows_of l.bytes) l.entry;
  room : l.number + length l.rest ≤ length l.bytes + 1;
}

abbrev pub decreases-loop-rest : goal.decreases-loop-rest
decreases-loop-rest l = length l.rest
