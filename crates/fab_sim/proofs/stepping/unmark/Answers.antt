use Rattle.std.proofs.Common.{◌<◌, length, get_or, refl, arith}
use Rattle.std.proofs.lemmas.Option.{slice_get-get_or}
use Rattle.fab_sim.proofs.Marks.{unmarked_all, unmarked_more, unmarked_none}
use Rattle.fab_sim.proofs.stepping.unmark.Goals as goal

pub loop-point-init : goal.loop-point-init
loop-point-init c = unmarked_none c.args.points.now c.args.marks.now

pub loop-point-preserved : goal.loop-point-preserved
loop-point-preserved c =
    let points = c.args.points.now in
    let place = c.loop-point.point-index in
    let point = get_or points place 0 in
    let at = slice_get-get_or points place 0 c.loop-point-test.true in
    let bound = c.requires place point at in
    let less : point < length c.loop-point.marks = omega (arith, bound, c.loop-point.invariant.long) in
    unmarked_more points place c.args.marks.now c.loop-point.marks _ point at less refl c.loop-point.invariant

pub returns : goal.returns
returns c = unmarked_all c.args.points.now c.loop-point.point-index c.args.marks.now c.loop-point.marks c.loop-point-test.false c.loop-point.invariant
