use Rattle.std.proofs.Common.{◌∙◌, ℕ, ap, sym, subst, length, []}
use Rattle.std.specs.Prelude.{max}
use Rattle.std.specs.Str.Lines.{lines}
use Rattle.fab_base.specs.Reading.{IsFaultOr, fault_at}
use Rattle.fab_lines.specs.Order.{judged, placed, read_all}
use Rattle.fab_texts.specs.Rows.{rows_of, after_row}
use Rattle.fab_texts.proofs.Endings.{made_of, refused_of}
use Rattle.fab_state.specs.Lines.{Known, known, take}
use Rattle.fab_texts.specs.Sections.{cut_short}
use Rattle.fab_state.specs.Spelled.{state_of}
use Rattle.fab_state.proofs.reader.read.Goals as goal

pub returns-in-Ok : goal.returns-in-Ok
returns-in-Ok c =
    let answer = read_all (after_row take) (λ row. row.line) (known []) (rows_of c.args.bytes.now) in
    let read = ap (λ (start : Known). placed c.args.file.now (read_all (after_row take) (λ row. row.line) start (rows_of c.args.bytes.now))) (sym c.nothing.ensures) ∙ c.in_ok-known.ensures in
    made_of (λ (k : Known). judged (cut_short k.last) (state_of k)) c.args.file.now (max 1 (length (lines c.args.bytes.now))) answer c.in_ok-known.known c.in-Ok.state read c.in-Ok.ensures

pub returns-in-Err : goal.returns-in-Err
returns-in-Err c =
    let answer = read_all (after_row take) (λ row. row.line) (known []) (rows_of c.args.bytes.now) in
    let read = ap (λ (start : Known). placed c.args.file.now (read_all (after_row take) (λ row. row.line) start (rows_of c.args.bytes.now))) (sym c.nothing.ensures) ∙ c.in_ok-known.ensures in
    refused_of (λ (k : Known). judged (cut_short k.last) (state_of k)) c.args.file.now (max 1 (length (lines c.args.bytes.now))) answer c.in_ok-known.known c.in-Err.problem c.at.result read c.in-Err.ensures
    (subst (λ (n : ℕ). IsFaultOr c.at.result (fault_at c.args.file.now n c.in-Err.problem)) c.last_line.ensures c.at.ensures)
