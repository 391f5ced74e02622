use Rattle.std.proofs.Common.{◌<◌, ◌∙◌, ◌++◌, ◌∷◌, [], ℕ, List, Vec, Global, ap, sym, get_or, length, arith}
use Rattle.std.proofs.lemmas.List.{length-set, get_or-map}
use Rattle.fab_model.specs.fab_select.specs.declared.pair.Pair.{Pair}
use Rattle.fab_fabric.proofs.Groups.{groups_more}
use Rattle.fab_fabric.proofs.index.inputs_by_output.Goals as goal

pub loop-pair-preserved : goal.loop-pair-preserved
loop-pair-preserved c =
    let groups = c.loop-pair.groups.items in
    let pairs = c.args.pairs.now in
    let i = c.loop-pair.pair-index in
    let none : Pair = record { output = 0; input = 0 } in
    let pair : Pair = get_or pairs i none in
    let within : pair.output < length groups = omega (arith, c.requires i none c.loop-pair-test.true) in
    let old = c.index_mut.result.now in
    record {
      len = length-set groups pair.output c.push.new.self ∙ c.loop-pair.invariant.len;
      groups =
          groups_more groups c.push.new.self pairs i none c.loop-pair-test.true within
          (c.in_ok-push.ensures.items
          ∙ ap (λ (group : Vec ℕ Global). group.items ++ pair.input ∷ []) c.index_mut.ensures.value
          ∙ ap (λ (front : List ℕ). front ++ pair.input ∷ []) (sym (get_or-map (λ (group : Vec ℕ Global). group.items) groups pair.output old [] within)))
          c.loop-pair.invariant.groups;
    }
