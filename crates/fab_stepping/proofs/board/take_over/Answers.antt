use Rattle.std.proofs.Common.{◌≡◌, ◌<◌, Bool, false, Some, length, get_or, refl, ap, ◌∙◌, arith}
use Rattle.std.proofs.lemmas.Option.{slice_get-get_or}
use Rattle.fab_ternary.specs.declared.Tern.TheVariants.{No}
use Rattle.fab_stepping.proofs.Reading.{kept_get}
use Rattle.fab_stepping.proofs.Ticking.{marks_same, taken_all, taken_more}
use Rattle.fab_stepping.proofs.board.take_over.Goals as goal

pub loop-point-preserved : goal.loop-point-preserved
loop-point-preserved c =
    let marks = c.args.marks.now in
    let from = c.args.from.now in
    let point = c.loop-point.point in
    let less : point < length c.loop-point.terns = omega (arith, c.requires.marks) in
    let inside : point < length from = omega (arith, c.requires.marks, c.requires.from) in
    let same : get_or marks point false ≡ c.args.mark = marks_same (get_or marks point false) c.args.mark c.if-other-mark.false in
    taken_more marks c.args.mark from c.args.terns.now c.loop-point.terns _ point (get_or from point No)
    (slice_get-get_or marks point false c.loop-point-test.true ∙ ap (λ (b : Bool). Some b) same) refl less (kept_get from point No inside) c.loop-point.invariant

pub returns : goal.returns
returns c = taken_all c.args.marks.now c.args.mark c.args.from.now c.args.terns.now c.loop-point.terns c.loop-point.point c.loop-point-test.false c.loop-point.invariant
