use Rattle.std.proofs.Common.{ℕ, ◌∙◌, ap, map}
use Rattle.std.proofs.lemmas.List.{map_push}
use Rattle.fab_syntax.specs.Plain.{PlainItem, plain_item}
use Rattle.fab_syntax.specs.declared.tree.Shape.TheVariants.{Vector}
use Rattle.fab_syntax.specs.Plain.{wire}
use Rattle.fab_text_loads_laws.specs.fab_fabric_text_defs_Names.{column_strobe_name}
use Rattle.fab_gen_tile.proofs.Counted.{none_behind, items_more}
use Rattle.fab_gen_top.proofs.wires.push_strobe_wires.Goals as goal

pub loop-x-init : goal.loop-x-init
loop-x-init c = none_behind (map plain_item c.args.items.now.items) (λ x. wire (Vector 20) (column_strobe_name x))

pub loop-x-preserved : goal.loop-x-preserved
loop-x-preserved c =
    let f : ℕ → PlainItem = λ x. wire (Vector 20) (column_strobe_name x) in
    ap (map plain_item) c.in_ok-push.ensures.items
    ∙ map_push plain_item c.loop-x.items.items _
    ∙ items_more c.loop-x.x f (map plain_item c.loop-x.items.items) (map plain_item c.args.items.now.items) _ c.loop-x.invariant
    (ap (wire (Vector 20)) c.in_ok-column_strobe_name.ensures)
