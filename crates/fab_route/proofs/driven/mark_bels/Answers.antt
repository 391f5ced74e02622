use Rattle.std.proofs.Common.{◌∙◌, sym}
use Rattle.fab_model.specs.Tiles.{bel_wires}
use Rattle.fab_route.proofs.Marks.{part_marked, bel_marked}
use Rattle.fab_route.proofs.driven.mark_bels.Goals as goal

pub loop-bel-preserved : goal.loop-bel-preserved
loop-bel-preserved c =
    part_marked bel_wires c.args.bels.now c.loop-bel.bel-index c.bel-item.result c.args.marks.now.items c.loop-bel.marks.items c.mark.new.marks.items c.mark-in-loop-bel.new.marks.items c.from.result c.from-in-loop-bel.result
    c.loop-bel-test.true (sym c.bel-item.is) (bel_marked c.bel-item.result c.from.result c.from-in-loop-bel.result (c.from.ensures ∙ c.inputs.ensures) (c.from-in-loop-bel.ensures ∙ c.outputs.ensures)) c.loop-bel.invariant c.in_ok-mark.ensures
    c.in_ok-mark-2.ensures
