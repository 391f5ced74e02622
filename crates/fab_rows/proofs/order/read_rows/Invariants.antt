use Rattle.std.proofs.Common.{◌≡◌, drop}
use Rattle.fab_lines.specs.Order.{read_all}
use Rattle.fab_rows.proofs.order.read_rows.Given as goal

abbrev pub invariant-loop-row : goal.invariant-loop-row
invariant-loop-row g l = read_all g.R.RowReader.after (λ row. row.line) l.reader (drop l.row-index l.rows) ≡ read_all g.R.RowReader.after (λ row. row.line) l.fn.start l.rows
