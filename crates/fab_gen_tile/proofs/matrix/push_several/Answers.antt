use Rattle.std.proofs.Common.{◌∙◌, refl}
use Rattle.fab_gen_tile.proofs.Counted.{none_behind, items_more}
use Rattle.fab_gen_tile.proofs.matrix.push_several.Goals as goal

pub loop-wire-init : goal.loop-wire-init
loop-wire-init c = none_behind c.args.outputs.now.items (λ wire. c.args.output)

pub loop-wire-preserved : goal.loop-wire-preserved
loop-wire-preserved c =
    c.in_ok-push.ensures.items
    ∙ items_more c.loop-wire._wire (λ wire. c.args.output) c.loop-wire.outputs.items c.args.outputs.now.items c.args.output c.loop-wire.invariant refl
