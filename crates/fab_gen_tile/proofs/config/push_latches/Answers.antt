use Rattle.std.proofs.Common.{ℕ, ◌∙◌, ap, map, get_or}
use Rattle.std.proofs.lemmas.List.{map_push}
use Rattle.fab_syntax.specs.Plain.{PlainItem, plain_item}
use Rattle.fab_gen_tile.specs.ConfigModule.{latch_at}
use Rattle.fab_gen_tile.proofs.Counted.{none_behind, items_more}
use Rattle.fab_gen_tile.proofs.config.push_latches.Goals as goal

pub loop-bit-init : goal.loop-bit-init
loop-bit-init c = none_behind (map plain_item c.args.items.now.items) (λ bit. latch_at bit (get_or c.args.places.now bit (0, 0)))

pub loop-bit-preserved : goal.loop-bit-preserved
loop-bit-preserved c =
    let f : ℕ → PlainItem = λ bit. latch_at bit (get_or c.args.places.now bit (0, 0)) in
    ap (map plain_item) c.in_ok-push.ensures.items
    ∙ map_push plain_item c.loop-bit.items.items _
    ∙ items_more c.loop-bit.bit f (map plain_item c.loop-bit.items.items) (map plain_item c.args.items.now.items) _ c.loop-bit.invariant
    (c.in_ok-latch.ensures ∙ ap (latch_at c.loop-bit.bit) c.place_of-place.ensures)
