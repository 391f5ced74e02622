use Rattle.std.proofs.Common.{◌∙◌, ap, sym, map, take, nat_eq, get_or}
use Rattle.std.proofs.lemmas.Bool.Decides.{Decides-eqb}
use Rattle.std.proofs.lemmas.List.{map_more}
use Rattle.indexmap.specs.IndexSet.{insert_key}
use Rattle.fab_select.specs.declared.pair.Pair.{Pair}
use Rattle.fab_select.specs.Selection.{firsts}
use Rattle.fab_select.proofs.Firsts.{firsts_push}
use Rattle.fab_matrix.proofs.grouping.order_of.Goals as goal

pub loop-pair-preserved : goal.loop-pair-preserved
loop-pair-preserved c =
    let pairs = c.args.pairs.now in
    let i = c.loop-pair.pair-index in
    let none : Pair = record { output = 0; input = 0 } in
    let output = (get_or pairs i none).output in
    let earlier = map (λ (pair : Pair). pair.output) (take i pairs) in
    c.in_ok-insert.ensures.keys
    ∙ ap (λ keys. insert_key nat_eq keys output) c.loop-pair.invariant
    ∙ sym (firsts_push nat_eq Decides-eqb earlier output)
    ∙ sym (ap (firsts nat_eq) (map_more (λ (pair : Pair). pair.output) pairs i none c.loop-pair-test.true))
