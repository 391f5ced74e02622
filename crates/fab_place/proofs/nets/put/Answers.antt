use Rattle.std.proofs.Common.{◌++◌, ◌∷◌, [], ℕ, List, ◌∙◌, ap}
use Rattle.fab_annealing.proofs.Kept.{numbers_read}
use Rattle.fab_place.proofs.Linked.{numbers_here, numbers_there}
use Rattle.fab_place.proofs.nets.put.Goals as goal

pub returns-clause-here : goal.returns-clause-here
returns-clause-here c =
    let lists = c.args.lists.now.items in
    numbers_here lists c.args.at c.push.new.self c.requires
    ∙ c.in_ok-push.ensures.items ∙ ap (λ (ns : List ℕ). ns ++ c.args.number ∷ []) (numbers_read lists c.args.at c.index_mut.result.now c.requires c.index_mut.ensures.value)

pub returns-clause-others : goal.returns-clause-others
returns-clause-others c other apart = numbers_there c.args.lists.now.items c.args.at other c.push.new.self apart
