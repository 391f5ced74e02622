use Rattle.std.proofs.Common.{◌+◌, ◌∙◌, ap, map}
use Rattle.std.proofs.lemmas.List.{map_push}
use Rattle.fab_syntax.specs.Plain.{plain_item, assign, variable}
use Rattle.fab_gen_tile.specs.Names.{end_name}
use Rattle.fab_gen_tile.specs.Borders.{passing_assign}
use Rattle.fab_gen_tile.proofs.Counted.{none_behind, items_more}
use Rattle.fab_gen_tile.proofs.borders.push_passing.Goals as goal

pub loop-bit-init : goal.loop-bit-init
loop-bit-init c = none_behind (map plain_item c.args.items.now.items) (passing_assign c.args.row.now)

pub loop-bit-preserved : goal.loop-bit-preserved
loop-bit-preserved c =
    ap (map plain_item) c.in_ok-push.ensures.items
    ∙ map_push plain_item c.loop-bit.items.items _
    ∙ items_more c.loop-bit.bit (passing_assign c.args.row.now) (map plain_item c.loop-bit.items.items) (map plain_item c.args.items.now.items) _ c.loop-bit.invariant
    (λ j. assign (c.in_ok-begin_name.ensures j) (variable ((c.in_ok-end_name.ensures ∙ ap (end_name c.args.row.now) (c.in_ok-from.ensures ∙ ap (λ n. c.loop-bit.bit + n) c.from.ensures)) j)))
