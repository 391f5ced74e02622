use Rattle.std.proofs.Common.{◌∙◌, ◌++◌, ◌∷◌, [], ℕ, List, Vec, Global, ap, sym}
use Rattle.std.proofs.lemmas.List.{get_or-map}
use Rattle.fab_timing.proofs.Grouped.{step_added}
use Rattle.fab_timing.proofs.steps.put_step.Goals as goal

pub returns-clause-added : goal.returns-clause-added
returns-clause-added c =
    let before = c.args.before.now.items in
    let old = c.index_mut.result.now in
    step_added before c.args.from c.args.to c.args.units c.push.new.self c.requires
    (c.in_ok-push.ensures.items
    ∙ ap (λ (group : Vec (ℕ × ℕ) Global). group.items ++ (c.args.from.0, c.args.units) ∷ []) c.index_mut.ensures.value
    ∙ ap (λ (front : List (ℕ × ℕ)). front ++ (c.args.from.0, c.args.units) ∷ []) (sym (get_or-map (λ (group : Vec (ℕ × ℕ) Global). group.items) before c.args.to.0 old [] c.requires)))
