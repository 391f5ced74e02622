use Rattle.std.proofs.Common.{ℕ, ◌∙◌, ap, map}
use Rattle.std.proofs.lemmas.List.{map_push}
use Rattle.fab_syntax.specs.Plain.{PlainItem, plain_item, assign}
use Rattle.fab_gen_tile.specs.Borders.{dest_assign}
use Rattle.fab_gen_tile.proofs.Counted.{none_behind, items_more}
use Rattle.fab_gen_tile.proofs.borders.push_dest_assigns.Goals as goal

pub loop-bit-init : goal.loop-bit-init
loop-bit-init c = none_behind (map plain_item c.args.items.now.items) (dest_assign c.args.row.now)

pub loop-bit-preserved : goal.loop-bit-preserved
loop-bit-preserved c =
    let f : ℕ → PlainItem = dest_assign c.args.row.now in
    ap (map plain_item) c.in_ok-push.ensures.items
    ∙ map_push plain_item c.loop-bit.items.items _
    ∙ items_more c.loop-bit.bit f (map plain_item c.loop-bit.items.items) (map plain_item c.args.items.now.items) _ c.loop-bit.invariant
    (λ j. assign (c.in_ok-bit_name.ensures j) (c.in_ok-value.ensures j))
