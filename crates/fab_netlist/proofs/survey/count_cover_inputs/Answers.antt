use Rattle.std.proofs.Common.{◌≡◌, get_or, sym, ap, ◌∙◌, drop, ◌+◌, rules}
use Rattle.std.specs.List.{flat_map}
use Rattle.fab_netlist.specs.Plain.{PlainCover}
use Rattle.fab_netlist.specs.inner.Survey.{counted}
use Rattle.fab_netlist.proofs.Noting.{counted_more}
use Rattle.fab_netlist.proofs.survey.count_cover_inputs.Goals as goal

pub loop-cover-preserved : goal.loop-cover-preserved
loop-cover-preserved c =
    let turn = c.loop-cover.cover-index in
    let item : c.cover-item.result ≡ get_or c.args.covers.now turn c.cover-item.result = search rules in
    let nets : c.deref.result.now ≡ c.cover-item.result.inputs = search rules in
    ap (counted (flat_map (λ (cover : PlainCover). cover.inputs) (drop (turn + 1) c.args.covers.now)))
    (c.count.ensures ∙ ap (λ list. counted list c.loop-cover.table) (nets ∙ ap (λ (cover : PlainCover). cover.inputs) item))
    ∙ sym (counted_more (λ (cover : PlainCover). cover.inputs) c.args.covers.now c.loop-cover.table turn c.cover-item.result c.loop-cover-test.true)
    ∙ c.loop-cover.invariant
