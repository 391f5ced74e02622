use Rattle.std.proofs.Common.{◌≡◌, ◌+◌, ◌≤◌, length}
use Rattle.std.specs.Str.Lines.{lines}
use Rattle.fab_lines.specs.Order.{read_from}
use Rattle.fab_lines.proofs.order.read_lines.Given as goal

abbrev pub invariant-loop-rest : goal.invariant-loop-rest
invariant-loop-rest g l = record {
  so_far : read_from g.R.LineReader.after l.reader l.number (lines l.rest) ≡ read_from g.R.LineReader.after l.fn.start 1 (lines l.bytes);
  room : l.number + length l.rest ≤ length l.bytes + 1;
}

abbrev pub decreases-loop-rest : goal.decreases-loop-rest
decreases-loop-rest g l = length l.rest
