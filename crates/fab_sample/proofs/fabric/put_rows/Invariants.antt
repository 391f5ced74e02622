use Rattle.std.proofs.Common.{◌≡◌, ◌++◌, replicate}
use Rattle.fab_sample.specs.Lines.{text}
use Rattle.fab_sample.proofs.fabric.put_rows.Given as goal

abbrev pub invariant-loop-place : goal.invariant-loop-place
invariant-loop-place l = l.out.items ≡ l.fn.out.items ++ text (replicate l._place l.fn.row)
