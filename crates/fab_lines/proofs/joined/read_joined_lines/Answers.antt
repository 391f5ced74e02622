use Rattle.std.proofs.Common.{◌∷◌, List, ℕ, ap, ◌∙◌, arith, sym}
use Rattle.fab_lines.specs.Joined.{joined_lines, lines_left}
use Rattle.fab_lines.specs.Order.{read_from, placed}
use Rattle.fab_lines.proofs.LineByLine.{read_more, read_end, fails_at}
use Rattle.fab_lines.proofs.joined.read_joined_lines.Goals as goal

pub next_line-requires : goal.next_line-requires
next_line-requires g c = omega (arith, c.loop-line.invariant.small)

pub returns-in-Err : goal.returns-in-Err
returns-in-Err g c =
    let after = g.R.LineReader.after in
    let whole = read_from after c.args.start 1 (joined_lines c.args.bytes.now) in
    let left = lines_left c.in-Some.more c.in-Some.after.now in
    let next = rw c.in-Some.is at c.in_ok-after.ensures.next in
    let cut = next ∙ ap (λ (line : List ℕ). line ∷ left) (sym c.deref.ensures.value) in
    fails_at after c.loop-line.reader c.loop-line.number (lines_left c.loop-line.blanks c.loop-line.rest.now) c.deref.result.now left whole c.args.file.now c.in-Err.problem c.at.result
    cut c.in-Err.ensures c.at.ensures c.loop-line.invariant.so_far

pub loop-line-preserved : goal.loop-line-preserved
loop-line-preserved g c =
    let after = g.R.LineReader.after in
    let whole = read_from after c.args.start 1 (joined_lines c.args.bytes.now) in
    let left = lines_left c.in-Some.more c.in-Some.after.now in
    let next = rw c.in-Some.is at c.in_ok-after.ensures.next in
    let fewer = rw c.in-Some.is at c.in_ok-after.ensures.fewer in
    let shorter = rw c.in-Some.is at c.in_ok-after.ensures.shorter in
    let cut = next ∙ ap (λ (line : List ℕ). line ∷ left) (sym c.deref.ensures.value) in
    record {
      so_far = read_more after c.loop-line.reader c.take_line.new.self c.loop-line.number (lines_left c.loop-line.blanks c.loop-line.rest.now) c.deref.result.now left whole
          cut c.in_default-take_line.ensures c.loop-line.invariant.so_far;
      room = omega (arith, c.loop-line.invariant.room, fewer);
      small = omega (arith, c.loop-line.invariant.small, shorter);
    }

pub returns : goal.returns
returns g c =
    let after = g.R.LineReader.after in
    let whole = read_from after c.args.start 1 (joined_lines c.args.bytes.now) in
    let none = rw c.in_default.is at c.in_ok-after.ensures.next in
    let no_more = ap (read_from after c.loop-line.reader c.loop-line.number) (sym none) in
    ap (placed c.args.file.now) (read_end after c.loop-line.reader c.loop-line.number whole (no_more ∙ c.loop-line.invariant.so_far))
