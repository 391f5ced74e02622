use Rattle.std.proofs.Common.{◌∙◌, ap, map}
use Rattle.std.proofs.lemmas.List.{map_push}
use Rattle.fab_syntax.specs.Plain.{plain_item, assign, variable}
use Rattle.fab_gen_tile.specs.Names.{begin_name}
use Rattle.fab_gen_tile.specs.Borders.{beginning_assign}
use Rattle.fab_gen_tile.proofs.Counted.{none_behind, items_more}
use Rattle.fab_gen_tile.proofs.borders.push_beginning.Goals as goal

pub loop-output-init : goal.loop-output-init
loop-output-init c = none_behind (map plain_item c.args.items.now.items) (beginning_assign c.args.row.now c.args.first)

pub loop-output-preserved : goal.loop-output-preserved
loop-output-preserved c =
    ap (map plain_item) c.in_ok-push.ensures.items
    ∙ map_push plain_item c.loop-output.items.items _
    ∙ items_more c.loop-output.output (beginning_assign c.args.row.now c.args.first) (map plain_item c.loop-output.items.items) (map plain_item c.args.items.now.items) _ c.loop-output.invariant
    (λ j. assign ((c.in_ok-begin_name.ensures ∙ ap (begin_name c.args.row.now) c.in_ok-bit.ensures) j) (variable (c.in_ok-bit_name.ensures j)))
