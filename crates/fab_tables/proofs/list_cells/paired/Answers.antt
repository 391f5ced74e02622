use Rattle.std.proofs.Common.{◌≡◌, ℕ, List, ◌++◌, ◌∷◌, [], ◌∙◌, sym, ap, arith}
use Rattle.fab_tables.specs.Lists.{Pair}
use Rattle.fab_tables.proofs.Longs.{pair_more, all_pairs}
use Rattle.fab_tables.proofs.list_cells.paired.Goals as goal

pub loop-place-preserved : goal.loop-place-preserved
loop-place-preserved c =
    let pair : Pair = (c.in_ok-output.output, c.in_ok-input.input) in
    c.in_ok-push.ensures.items
    ∙ ap (λ (front : List Pair). front ++ pair ∷ []) c.loop-place.invariant
    ∙ sym (pair_more c.args.outputs.now c.args.inputs.now c.loop-place.place c.in_ok-output.output c.index-outputs-place.result c.in_ok-input.input c.index-inputs-place.result
    (omega arith) c.in_ok-output.ensures c.index-outputs-place.is c.in_ok-input.ensures c.index-inputs-place.is)

pub returns : goal.returns
returns c = c.loop-place.invariant ∙ all_pairs c.args.outputs.now c.args.inputs.now c.loop-place.place (omega arith)
