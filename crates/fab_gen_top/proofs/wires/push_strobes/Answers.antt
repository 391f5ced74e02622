use Rattle.std.proofs.Common.{ℕ, ◌∙◌, ap, map}
use Rattle.std.proofs.lemmas.List.{map_push}
use Rattle.fab_syntax.specs.Plain.{PlainItem, plain_item}
use Rattle.fab_text_loads_laws.specs.fab_fabric_text_defs_Top.{column_strobes}
use Rattle.fab_gen_tile.proofs.Counted.{none_behind, items_more}
use Rattle.fab_gen_top.proofs.wires.push_strobes.Goals as goal

pub loop-x-init : goal.loop-x-init
loop-x-init c = none_behind (map plain_item c.args.items.now.items) (column_strobes)

pub loop-x-preserved : goal.loop-x-preserved
loop-x-preserved c =
    let f : ℕ → PlainItem = column_strobes in
    ap (map plain_item) c.in_ok-push.ensures.items
    ∙ map_push plain_item c.loop-x.items.items _
    ∙ items_more c.loop-x.x f (map plain_item c.loop-x.items.items) (map plain_item c.args.items.now.items) _ c.loop-x.invariant
    (c.in_ok-column_strobes.ensures)
