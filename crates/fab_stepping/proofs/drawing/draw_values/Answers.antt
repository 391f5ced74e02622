use Rattle.std.proofs.Common.{◌≡◌, ◌<◌, Bool, false, Some, length, get_or, refl, ap, ◌∙◌, arith}
use Rattle.std.proofs.lemmas.Option.{slice_get-get_or}
use Rattle.fab_stepping.proofs.Drawn.{drawn_all, drawn_none, drawn_one, drawn_past}
use Rattle.fab_stepping.proofs.Ticking.{marks_differ, marks_same, other_mark}
use Rattle.fab_stepping.proofs.drawing.draw_values.Goals as goal

pub loop-point-init : goal.loop-point-init
loop-point-init c = drawn_none c.args.random.now c.args.marks.now c.args.mark c.args.terns.now

pub loop-point-preserved-then-other-mark : goal.loop-point-preserved-then-other-mark
loop-point-preserved-then-other-mark c =
    let marks = c.args.marks.now in
    let point = c.loop-point.point in
    drawn_past c.args.random.now marks c.args.mark c.args.terns.now c.loop-point.terns point c.loop-point.random
    (other_mark marks point (get_or marks point false) c.args.mark (slice_get-get_or marks point false c.loop-point-test.true)
    (marks_differ (get_or marks point false) c.args.mark c.if-other-mark.true)) c.loop-point.invariant

pub loop-point-preserved : goal.loop-point-preserved
loop-point-preserved c =
    let marks = c.args.marks.now in
    let point = c.loop-point.point in
    let less : point < length c.loop-point.terns = omega (arith, c.requires) in
    let same : get_or marks point false ≡ c.args.mark = marks_same (get_or marks point false) c.args.mark c.if-other-mark.false in
    drawn_one c.args.random.now marks c.args.mark c.args.terns.now c.loop-point.terns _ point c.loop-point.random c.draw_bit.new.random c.draw_bit.result c.known.result
    (slice_get-get_or marks point false c.loop-point-test.true ∙ ap (λ (b : Bool). Some b) same) refl less c.known.ensures c.draw_bit.ensures.word c.draw_bit.ensures.rest
    c.loop-point.invariant

pub returns-clause-values : goal.returns-clause-values
returns-clause-values c =
    drawn_all c.args.random.now c.args.marks.now c.args.mark c.args.terns.now c.loop-point.terns c.loop-point.point c.loop-point.random c.loop-point-test.false c.loop-point.invariant
