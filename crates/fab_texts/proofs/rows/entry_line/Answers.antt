use Rattle.std.proofs.Common.{ap, ◌∙◌, sym, arith, ◌+◌}
use Rattle.fab_lines.proofs.FirstLine.{lines_of_none}
use Rattle.fab_texts.specs.Rows.{entry_line, rows_of}
use Rattle.fab_texts.proofs.Entries.{text_rows, entry_here, entry_later, entry_other, entry_none}
use Rattle.fab_texts.proofs.rows.entry_line.Goals as goal
use Rattle.fab_texts.proofs.rows.entry_line.Goals.{then-holds_word+else-left-eq1, else-holds_word}

pub returns : goal.returns
returns c = entry_none c.loop-rest.number c.loop-rest.left (entry_line (rows_of c.args.bytes.now) c.args.entry) c.loop-rest.rest.now (lines_of_none c.loop-rest.rest.now (omega arith)) c.loop-rest.invariant.so_far

pub loop-rest-preserved : goal.loop-rest-preserved
loop-rest-preserved c =
    let whole = entry_line (rows_of c.args.bytes.now) c.args.entry in
    let text = c.loop-rest.rest.now in
    let line = c.first_line.result.0.now in
    let after = c.first_line.result.1.now in
    record {
      so_far = elim c.if-holds_word.branch [
        | then-holds_word+else-left-eq1 w ↦
            ap (entry_line (text_rows (c.loop-rest.number + 1) after)) (w.left-is ∙ w.saturating_sub-left.ensures)
            ∙ entry_later c.loop-rest.number c.loop-rest.left whole text line after c.first_line.ensures.first (sym c.holds_word.ensures ∙ w.if-holds_word.true) w.if-left-eq1.false c.loop-rest.invariant.so_far
        | else-holds_word w ↦
            ap (entry_line (text_rows (c.loop-rest.number + 1) after)) w.left-is
            ∙ entry_other c.loop-rest.number c.loop-rest.left whole text line after c.first_line.ensures.first (sym c.holds_word.ensures ∙ w.if-holds_word.false) c.loop-rest.invariant.so_far
      ];
      room = omega (arith, c.first_line.ensures.shorter, c.loop-rest.invariant.room);
    }

pub returns-then-left-eq1 : goal.returns-then-left-eq1
returns-then-left-eq1 c =
    entry_here c.loop-rest.number c.loop-rest.left (entry_line (rows_of c.args.bytes.now) c.args.entry) c.loop-rest.rest.now c.first_line.result.0.now c.first_line.result.1.now c.first_line.ensures.first (sym c.holds_word.ensures ∙ c.if-holds_word.true) c.if-left-eq1.true c.loop-rest.invariant.so_far
