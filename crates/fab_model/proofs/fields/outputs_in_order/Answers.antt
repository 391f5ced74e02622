use Rattle.std.proofs.Common.{◌∙◌, ap, sym, map, take, nat_eq, get_or, ℕ, ◌≡◌, ◌+◌, ◌++◌, ◌∷◌, [], List}
use Rattle.std.proofs.lemmas.Bool.Decides.{Decides-eqb}
use Rattle.std.proofs.lemmas.List.{map_more, map_push}
use Rattle.indexmap.specs.IndexSet.{insert_key}
use Rattle.fab_select.specs.declared.pair.Pair.{Pair}
use Rattle.fab_select.specs.Selection.{firsts}
use Rattle.fab_select.proofs.Firsts.{firsts_push}
use Rattle.fab_model.specs.Tiles.{pair_numbers}
use Rattle.fab_model.proofs.fields.outputs_in_order.Goals as goal

pub loop-pair-preserved : goal.loop-pair-preserved
loop-pair-preserved c =
    let pairs = c.args.pairs.now in
    let i = c.loop-pair.pair-index in
    let none : Pair = record { output = 0; input = 0 } in
    let pair : Pair = get_or pairs i none in
    let first : ℕ × ℕ → ℕ = λ p. p.0 in
    let earlier : List (ℕ × ℕ) = map pair_numbers (take i pairs) in
    let outputs : map first (map pair_numbers (take (i + 1) pairs)) ≡ map first earlier ++ pair.output ∷ [] =
    ap (map first) (map_more pair_numbers pairs i none c.loop-pair-test.true) ∙ map_push first earlier (pair_numbers pair) in
    c.in_ok-insert.ensures.keys
    ∙ ap (λ keys. insert_key nat_eq keys pair.output) c.loop-pair.invariant
    ∙ sym (firsts_push nat_eq Decides-eqb (map first earlier) pair.output)
    ∙ sym (ap (firsts nat_eq) outputs)
