use Rattle.std.proofs.Common.{◌++◌, ◌∙◌, ap, sym, true, false, append_assoc}
use Rattle.std.proofs.lemmas.Result.{on_ok_weaker}
use Rattle.fab_model.specs.Tiles.{counted}
use Rattle.fab_gen_tile.proofs.Placing.{outputs_of_bel}
use Rattle.fab_gen_tile.proofs.matrix.push_bel_outputs.Goals as goal

pub returns : goal.returns
returns c =
    let old = c.args.outputs.now.items in
    on_ok_weaker c.push_several-2.result
    (λ last.
    last
    ∙ ap (λ xs. xs ++ counted c.from-2.result (λ wire. false)) c.in_ok-push_several.ensures
    ∙ append_assoc old (counted c.from.result (λ wire. true)) (counted c.from-2.result (λ wire. false))
    ∙ (λ j. old ++ (counted ((c.from.ensures ∙ c.inputs.ensures) j) (λ wire. true) ++ counted ((c.from-2.ensures ∙ c.outputs.ensures) j) (λ wire. false)))
    ∙ ap (λ xs. old ++ xs) (sym (outputs_of_bel c.args.bel.now)))
    c.push_several-2.ensures
