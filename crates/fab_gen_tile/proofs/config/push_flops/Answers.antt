use Rattle.std.proofs.Common.{◌∙◌, ap, map}
use Rattle.std.proofs.lemmas.List.{map_push}
use Rattle.fab_syntax.specs.Plain.{plain_item}
use Rattle.fab_gen_tile.specs.ConfigModule.{bit_flop}
use Rattle.fab_gen_tile.proofs.Counted.{none_behind, items_more}
use Rattle.fab_gen_tile.proofs.config.push_flops.Goals as goal

pub loop-bit-init : goal.loop-bit-init
loop-bit-init c = none_behind (map plain_item c.args.items.now.items) bit_flop

pub loop-bit-preserved : goal.loop-bit-preserved
loop-bit-preserved c =
    ap (map plain_item) c.in_ok-push.ensures.items
    ∙ map_push plain_item c.loop-bit.items.items _
    ∙ items_more c.loop-bit.bit bit_flop (map plain_item c.loop-bit.items.items) (map plain_item c.args.items.now.items) _ c.loop-bit.invariant
    c.in_ok-bit_flop.ensures
