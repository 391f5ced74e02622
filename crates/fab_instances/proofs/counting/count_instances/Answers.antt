use Rattle.std.proofs.Common.{◌∙◌, ◌<◌, ℕ, List, length, sym, ap, arith, get_or}
use Rattle.std.proofs.lemmas.List.{length-map}
use Rattle.fab_blif_models.specs.Plain.{plain_model, plain_models}
use Rattle.fab_instances.proofs.Instances.{counted_all}
use Rattle.fab_instances.proofs.counting.count_instances.Goals as goal

pub returns-then-are_counted : goal.returns-then-are_counted
returns-then-are_counted c =
    let models = plain_models c.args.models.now in
    let ranks = c.deref-2.result.now in
    let counts = c.deref-then-is_ordered.result.now in
    let within : (place : ℕ) → get_or ranks place 0 < length models =
    λ place. omega (arith, ap (λ (all : List ℕ). get_or all place 0) c.deref-2.ensures.value, c.requires.ranks place, length-map c.args.models.now plain_model) in
    c.count_at.ensures
    ∙ ap (λ (all : List ℕ). get_or all 0 0) (c.deref-then-are_counted.ensures.value ∙ sym c.deref-then-is_ordered.ensures.value)
    ∙ counted_all models c.args.used.now ranks c.requires.used (c.is_ordered.ensures c.if-is_ordered.true) within counts (c.are_counted.ensures c.if-are_counted.true)
