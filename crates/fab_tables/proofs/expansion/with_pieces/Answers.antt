use Rattle.std.proofs.Common.{◌≡◌, ℕ, List, Bor, map, sym, ap, ◌∙◌, arith}
use Rattle.std.specs.List.{flat_map}
use Rattle.std.proofs.lemmas.List.{drop_all}
use Rattle.fab_tables.specs.Cells.{choice_parts}
use Rattle.fab_tables.specs.inner.Expanding.{extended_by}
use Rattle.fab_tables.proofs.Products.{piece_more, text_before}
use Rattle.fab_tables.proofs.expansion.with_pieces.Goals as goal

pub loop-choice-preserved : goal.loop-choice-preserved
loop-choice-preserved c =
    piece_more (λ (choice : Bor (List ℕ)). choice.now) c.args.choices.now c.loop-choice.choice-index _ c.loop-choice.names.items c.in_ok-names.names.items _
    c.loop-choice-test.true c.in_ok-names.ensures c.loop-choice.invariant

pub returns : goal.returns
returns c =
    let now : Bor (List ℕ) → List ℕ = λ choice. choice.now in
    sym (ap (λ (rest : List (Bor (List ℕ))). extended_by c.loop-choice.names.items (flat_map choice_parts (map now rest))) (drop_all c.loop-choice.choice-index c.args.choices.now (omega arith)))
    ∙ c.loop-choice.invariant
    ∙ text_before c.args.text.now (flat_map choice_parts (map now c.args.choices.now))
