use Rattle.std.proofs.Common.{◌≡◌, ◌+◌, ◌≤◌, length}
use Rattle.fab_lines.specs.Joined.{joined_lines, lines_left}
use Rattle.fab_lines.specs.Order.{read_from}
use Rattle.fab_lines.proofs.joined.read_joined_lines.Given as goal

abbrev pub invariant-loop-line : goal.invariant-loop-line
invariant-loop-line g l = record {
  so_far : read_from g.R.LineReader.after l.reader l.number (lines_left l.blanks l.rest) ≡ read_from g.R.LineReader.after l.fn.start 1 (joined_lines l.bytes);
  room : l.number + length l.rest + l.blanks ≤ length l.bytes + 1;
  small : length l.rest ≤ length l.bytes;
}

abbrev pub decreases-loop-line : goal.decreases-loop-line
decreases-loop-line g l = length l.rest + l.blanks
