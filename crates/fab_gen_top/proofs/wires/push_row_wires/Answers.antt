use Rattle.std.proofs.Common.{ℕ, ◌∙◌, ap, map}
use Rattle.std.proofs.lemmas.List.{map_push}
use Rattle.fab_syntax.specs.Plain.{PlainItem, plain_item}
use Rattle.fab_syntax.specs.declared.tree.Shape.TheVariants.{Vector}
use Rattle.fab_syntax.specs.Plain.{wire}
use Rattle.fab_gen_loader.specs.Loader.{row_port}
use Rattle.fab_gen_tile.proofs.Counted.{none_behind, items_more}
use Rattle.fab_gen_top.proofs.wires.push_row_wires.Goals as goal

pub loop-y-init : goal.loop-y-init
loop-y-init c = none_behind (map plain_item c.args.items.now.items) (λ y. wire (Vector 32) (row_port y))

pub loop-y-preserved : goal.loop-y-preserved
loop-y-preserved c =
    let f : ℕ → PlainItem = λ y. wire (Vector 32) (row_port y) in
    ap (map plain_item) c.in_ok-push.ensures.items
    ∙ map_push plain_item c.loop-y.items.items _
    ∙ items_more c.loop-y.y f (map plain_item c.loop-y.items.items) (map plain_item c.args.items.now.items) _ c.loop-y.invariant
    (ap (wire (Vector 32)) c.in_ok-row_name.ensures)
