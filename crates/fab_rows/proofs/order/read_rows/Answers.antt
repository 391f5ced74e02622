use Rattle.std.proofs.Common.{◌≡◌, ℕ, ◌∙◌, ◌+◌, ap, sym, subst, drop, arith}
use Rattle.std.proofs.lemmas.List.{drop_all}
use Rattle.fab_base.specs.Reading.{IsFaultOr, fault_at}
use Rattle.fab_lines.specs.Order.{read_all, placed}
use Rattle.fab_lines.proofs.LineByLine.{all_more, all_end, all_fails_at}
use Rattle.fab_rows.specs.Rows.{PlainRow}
use Rattle.fab_rows.proofs.Turns.{drop_next}
use Rattle.fab_rows.proofs.order.read_rows.Goals as goal

pub returns-in-Err : goal.returns-in-Err
returns-in-Err g c =
    let after = g.R.RowReader.after in
    let rows = c.args.rows.now in
    let row = c.row-item.result in
    let line : c.row.inside.line ≡ row.line = ap (λ (r : PlainRow). r.line) c.row.view_is in
    let which : IsFaultOr c.at.result (fault_at c.args.file.now row.line c.in-Err.problem) = subst (λ (n : ℕ). IsFaultOr c.at.result (fault_at c.args.file.now n c.in-Err.problem)) line c.at.ensures in
    all_fails_at after (λ (r : PlainRow). r.line) c.loop-row.reader (drop c.loop-row.row-index rows) row (drop (c.loop-row.row-index + 1) rows) (read_all after (λ r. r.line) c.args.start rows) c.args.file.now c.in-Err.problem c.at.result
    (drop_next rows c.loop-row.row-index row c.loop-row-test.true c.row-item.is) c.in-Err.ensures which c.loop-row.invariant

pub loop-row-preserved : goal.loop-row-preserved
loop-row-preserved g c =
    let after = g.R.RowReader.after in
    let rows = c.args.rows.now in
    all_more after (λ (r : PlainRow). r.line) c.loop-row.reader c.take_row.new.self (drop c.loop-row.row-index rows) c.row-item.result (drop (c.loop-row.row-index + 1) rows) (read_all after (λ r. r.line) c.args.start rows)
    (drop_next rows c.loop-row.row-index c.row-item.result c.loop-row-test.true c.row-item.is) c.in_default.ensures c.loop-row.invariant

pub returns : goal.returns
returns g c =
    let after = g.R.RowReader.after in
    let rows = c.args.rows.now in
    let whole = read_all after (λ (r : PlainRow). r.line) c.args.start rows in
    let none = ap (read_all after (λ (r : PlainRow). r.line) c.loop-row.reader) (sym (drop_all c.loop-row.row-index rows (omega arith))) in
    ap (placed c.args.file.now) (all_end after (λ (r : PlainRow). r.line) c.loop-row.reader whole (none ∙ c.loop-row.invariant))
