use Rattle.std.proofs.Common.{◌≡◌, ◌++◌, map, take}
use Rattle.fab_texts.specs.Printed.{rows_text}
use Rattle.fab_stimulus.specs.Traces.{values_line}
use Rattle.fab_stimulus.proofs.trace.put_lines.Given as goal

abbrev pub invariant-loop-line : goal.invariant-loop-line
invariant-loop-line l = l.out.items ≡ l.fn.out.items ++ rows_text (map (λ line. values_line line.items) (take l.line-index l.lines))
