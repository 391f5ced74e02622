use Rattle.std.proofs.Common.{◌≡◌, ℕ, List, Bor, map, ap, ◌∙◌}
use Rattle.std.specs.List.{slice_split}
use Rattle.std.proofs.lemmas.Result.{IfOk-weaker}
use Rattle.fab_tables.specs.Cells.{is_open, body, repeats}
use Rattle.fab_tables.proofs.Products.{count_of_none, count_of_some}
use Rattle.fab_tables.proofs.expansion.count.Goals as goal

pub returns-in-empty : goal.returns-in-empty
returns-in-empty c =
    let now : Bor (List ℕ) → List ℕ = λ piece. piece.now in
    let split : map now c.as_slice.result.now ≡ slice_split is_open (body c.args.cell.now) = ap (map now) c.as_slice.ensures.value ∙ c.in_ok-pieces.ensures ∙ ap (slice_split is_open) c.body.ensures in
    count_of_none now c.as_slice.result.now (slice_split is_open (body c.args.cell.now)) (repeats c.args.cell.now) c.repeats.result c.in-empty.len_below split c.repeats.ensures

pub returns : goal.returns
returns c =
    let now : Bor (List ℕ) → List ℕ = λ piece. piece.now in
    let split : map now c.as_slice.result.now ≡ slice_split is_open (body c.args.cell.now) = ap (map now) c.as_slice.ensures.value ∙ c.in_ok-pieces.ensures ∙ ap (slice_split is_open) c.body.ensures in
    IfOk-weaker c.count_choices.result _ _ (λ number counted.
    count_of_some now c.as_slice.result.now (slice_split is_open (body c.args.cell.now)) (repeats c.args.cell.now) c.repeats-in-len1-up.result number c.in-len1-up.len_at_least split c.repeats-in-len1-up.ensures counted)
    c.count_choices.ensures
