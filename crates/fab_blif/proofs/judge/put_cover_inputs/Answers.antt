use Rattle.std.proofs.Common.{◌≡◌, ◌++◌, ◌∙◌, ap, List}
use Rattle.fab_netlist.specs.Wide.{PlainWideCover}
use Rattle.fab_blif.specs.declared.design.Use.{Use}
use Rattle.fab_blif.specs.inner.Walk.{used_at}
use Rattle.fab_blif.proofs.Judging.{input_step}
use Rattle.fab_blif.proofs.judge.put_cover_inputs.Goals as goal

pub loop-cover-preserved : goal.loop-cover-preserved
loop-cover-preserved c =
    let made = c.cover-item.result in
    let same : used_at c.cover.inside.line c.deref.result.now ≡ used_at made.line made.inputs =
    ap (used_at c.cover.inside.line) c.deref.ensures.value ∙ ap (λ (one : PlainWideCover). used_at one.line one.inputs) c.cover.view_is in
    input_step c.args.covers.now c.loop-cover.cover-index made c.loop-cover-test.true c.cover-item.is c.args.uses.now.items c.loop-cover.uses.items c.push_uses.new.uses.items c.loop-cover.invariant
    (c.in_ok-push_uses.ensures ∙ ap (λ (more : List Use). c.loop-cover.uses.items ++ more) same)
