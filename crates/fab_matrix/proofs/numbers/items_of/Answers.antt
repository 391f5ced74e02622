use Rattle.std.proofs.Common.{◌∙◌, ap, map}
use Rattle.std.proofs.lemmas.List.{map_push}
use Rattle.fab_syntax.specs.Plain.{plain_item}
use Rattle.fab_matrix.specs.inner.Grouped.{item_of}
use Rattle.fab_matrix.proofs.Groups.{items_more}
use Rattle.fab_matrix.proofs.numbers.items_of.Goals as goal

pub loop-place-preserved : goal.loop-place-preserved
loop-place-preserved c =
    let item_for = item_of c.args.inputs.now c.args.groups.now c.args.order.now.keys in
    let items = map plain_item c.loop-place.items.items in
    let place = c.loop-place.place in
    let name = c.index-outputs-place.result in
    ap (map plain_item) c.in_ok-push.ensures.items
    ∙ map_push plain_item c.loop-place.items.items c.in_ok-item.item
    ∙ items_more item_for c.args.outputs.now place name items (plain_item c.in_ok-item.item) c.loop-place-test.true c.loop-place.invariant
    (c.in_ok-item.ensures ∙ ap (item_for place) c.index-outputs-place.is)
