use Rattle.std.proofs.Common.{◌∙◌, ap, map, sym}
use Rattle.std.proofs.lemmas.List.{map_push}
use Rattle.fab_syntax.specs.declared.tree.Shape.TheVariants.{Scalar}
use Rattle.fab_syntax.specs.Plain.{plain_item, wire}
use Rattle.fab_model.specs.Tiles.{matrix_names}
use Rattle.fab_gen_tile.proofs.Steps.{behind, named_more}
use Rattle.fab_gen_tile.proofs.tile.push_name_wires.Goals as goal

pub loop-number-preserved : goal.loop-number-preserved
loop-number-preserved c =
    ap (map plain_item) c.in_ok-push.ensures.items
    ∙ map_push plain_item c.loop-number.items.items _
    ∙ behind (map plain_item c.loop-number.items.items) (map plain_item c.args.items.now.items) _ _ _ c.loop-number.invariant
    (sym (named_more (wire Scalar) (matrix_names c.args.tile.now) c.loop-number.number _ c.in_ok-name.ensures))
