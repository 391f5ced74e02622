use Rattle.std.proofs.Common.{◌≡◌, ◌+◌, ◌≤◌, length}
use Rattle.std.specs.Str.Lines.{lines}
use Rattle.fab_lines.specs.Order.{read_from}
use Rattle.fab_texts.proofs.ByRows.{numbered_line}
use Rattle.fab_texts.proofs.order.read_words.Given as goal

abbrev pub invariant-loop-rest : goal.invariant-loop-rest
invariant-loop-rest g l = record {
  so_far : read_from (numbered_line g.R.WordReader.after) l.reader l.number (lines l.rest) ≡ read_from (numbered_line g.R.WordReader.after) l.fn.start 1 (lines l.bytes);
  room : l.number + length l.rest ≤ length l.bytes + 1;
}

abbrev pub decreases-loop-rest : goal.decreases-loop-rest
decreases-loop-rest g l = length l.rest
