use Rattle.std.proofs.Common.{ℕ, ◌∙◌, ap, map}
use Rattle.std.proofs.lemmas.List.{map_push}
use Rattle.fab_syntax.specs.Plain.{PlainJoin, plain_join}
use Rattle.fab_gen_tile.specs.Names.{same_join}
use Rattle.fab_gen_loader.specs.Loader.{row_port}
use Rattle.fab_gen_tile.proofs.Counted.{none_behind, items_more}
use Rattle.fab_gen_top.proofs.wires.push_row_joins.Goals as goal

pub loop-y-init : goal.loop-y-init
loop-y-init c = none_behind (map plain_join c.args.joins.now.items) (λ y. same_join (row_port y))

pub loop-y-preserved : goal.loop-y-preserved
loop-y-preserved c =
    let f : ℕ → PlainJoin = λ y. same_join (row_port y) in
    ap (map plain_join) c.in_ok-push.ensures.items
    ∙ map_push plain_join c.loop-y.joins.items _
    ∙ items_more c.loop-y.y f (map plain_join c.loop-y.joins.items) (map plain_join c.args.joins.now.items) _ c.loop-y.invariant
    (c.in_ok-same_join.ensures ∙ ap same_join (c.bytes.ensures ∙ c.in_ok-name.ensures))
