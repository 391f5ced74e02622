use Rattle.std.proofs.Common.{◌≡◌, ◌≤◌, ℕ, false, List, sym, ap, ◌∙◌, lit<, arith}
use Rattle.std.specs.Prelude.{replicate}
use Rattle.std.specs.List.{list_any, flat_map, slice_split}
use Rattle.std.proofs.lemmas.Result.{IfOk-weaker}
use Rattle.fab_tables.specs.Cells.{is_open, body, repeats, count}
use Rattle.fab_tables.specs.inner.Expanding.{is_sign}
use Rattle.fab_tables.proofs.OneNames.{one_name}
use Rattle.fab_tables.proofs.Products.{repeats_within}
use Rattle.fab_tables.proofs.expansion.names.Goals as goal

pub returns-then-not-has_signs : goal.returns-then-not-has_signs
returns-then-not-has_signs c =
    let none : list_any is_sign c.args.cell.now ≡ false = sym c.has_signs.ensures ∙ c.if-not-has_signs.true in
    IfOk-weaker c.one_name.result _ _ (λ made is. is ∙ sym (one_name c.args.cell.now none)) c.one_name.ensures

pub returns : goal.returns
returns c =
    let few : count c.args.cell.now ≤ 4096 = c.requires.counted in
    let times : c.repeats.result ≡ repeats c.args.cell.now = c.repeats.ensures ∙ repeats_within (repeats c.args.cell.now) (slice_split is_open (body c.args.cell.now)) 4096 (lit< tt) few in
    IfOk-weaker c.repeated.result _ _ (λ copies made.
    made
    ∙ ap (λ (n : ℕ). flat_map (λ (name : List ℕ). replicate n name) c.deref.result.now) times
    ∙ ap (flat_map (λ (name : List ℕ). replicate (repeats c.args.cell.now) name)) (c.deref.ensures.value ∙ c.in_ok-once.ensures))
    c.repeated.ensures
