use Rattle.std.proofs.Common.{◌≡◌, ℕ, List, Bor, map, take, ◌++◌, sym, ap, ◌∙◌}
use Rattle.fab_tables.specs.inner.Expanding.{extended}
use Rattle.fab_tables.proofs.Products.{extended_more}
use Rattle.fab_tables.proofs.expansion.with_each.Goals as goal

pub loop-name-preserved : goal.loop-name-preserved
loop-name-preserved c =
    let part : List (List ℕ) = map (λ (alternative : Bor (List ℕ)). alternative.now) c.args.alternatives.now in
    c.in_ok-push_joined.ensures
    ∙ ap (λ (front : List (List ℕ)). front ++ map (λ alternative. c.bytes.result.now ++ alternative) part) c.loop-name.invariant
    ∙ ap (λ (name : List ℕ). extended (take c.loop-name.name-index c.args.names.now) part ++ map (λ alternative. name ++ alternative) part) c.bytes.ensures
    ∙ sym (extended_more c.args.names.now c.loop-name.name-index c.name-item.result part c.loop-name-test.true c.name-item.is)
