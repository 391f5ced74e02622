use Rattle.std.proofs.Common.{◌≡◌, ap, ◌∙◌, arith, length, sym}
use Rattle.std.specs.Str.Lines.{lines}
use Rattle.fab_lines.specs.Order.{read_from, placed}
use Rattle.fab_lines.proofs.FirstLine.{lines_of_none}
use Rattle.fab_lines.proofs.LineByLine.{read_more, read_end, fails_at}
use Rattle.fab_texts.proofs.ByRows.{numbered_line, lines_by_rows}
use Rattle.fab_texts.proofs.order.read_words.Goals as goal

pub returns-in-Err : goal.returns-in-Err
returns-in-Err g c =
    let after = numbered_line g.R.WordReader.after in
    let whole = read_from after c.args.start 1 (lines c.args.bytes.now) in
    rw (← lines_by_rows g.R.WordReader.after c.args.start 1 (lines c.args.bytes.now))
    (fails_at after c.loop-rest.reader c.loop-rest.number (lines c.loop-rest.rest.now) c.first_line.result.0.now (lines c.first_line.result.1.now) whole c.args.file.now c.in-Err.problem c.at.result
    c.first_line.ensures.first c.in-Err.ensures c.at.ensures c.loop-rest.invariant.so_far)

pub loop-rest-preserved : goal.loop-rest-preserved
loop-rest-preserved g c =
    let after = numbered_line g.R.WordReader.after in
    let whole = read_from after c.args.start 1 (lines c.args.bytes.now) in
    record {
      so_far = read_more after c.loop-rest.reader c.take_line.new.reader c.loop-rest.number (lines c.loop-rest.rest.now) c.first_line.result.0.now (lines c.first_line.result.1.now) whole
          c.first_line.ensures.first c.in_default.ensures c.loop-rest.invariant.so_far;
      room = omega arith;
    }

pub returns : goal.returns
returns g c =
    let after = numbered_line g.R.WordReader.after in
    let whole = read_from after c.args.start 1 (lines c.args.bytes.now) in
    let none : length c.loop-rest.rest.now ≡ 0 = omega arith in
    let no_more = ap (read_from after c.loop-rest.reader c.loop-rest.number) (sym (lines_of_none c.loop-rest.rest.now none)) in
    ap (placed c.args.file.now) (sym (lines_by_rows g.R.WordReader.after c.args.start 1 (lines c.args.bytes.now)) ∙ read_end after c.loop-rest.reader c.loop-rest.number whole (no_more ∙ c.loop-rest.invariant.so_far))
