use Rattle.std.proofs.Common.{List, Option, sym, ◌∙◌, subst, get_or}
use Rattle.std.proofs.lemmas.Bool.{false≢true}
use Rattle.fab_implementation.specs.fab_fabric.specs.declared.wire.Site.{Site}
use Rattle.fab_legal.specs.inner.Keeping.{FillsGap}
use Rattle.fab_legal.proofs.Noted.{noted_step, right_step, wrong_step, bound}
use Rattle.fab_legal.proofs.lines.bind.Goals as goal

pub returns-then-not-is_right : goal.returns-then-not-is_right
returns-then-not-is_right c =
    wrong_step c.args.fabric.now c.args.kind c.args.lines.now c.loop-place.place c.args.count c.loop-place.sites.items (0, record { x = 0; y = 0; bel = 0 }) c.loop-place-test.true
    c.loop-place.invariant.noted c.loop-place.invariant.right
    (λ fills. false≢true (sym c.if-not-is_right.true ∙ c.is_right.ensures.1 (subst (λ (s : List (Option Site)). FillsGap c.args.fabric.now c.args.kind s (get_or c.args.lines.now c.loop-place.place (0, record { x = 0; y = 0; bel = 0 }))) (sym c.deref.ensures.value) fills)))

pub loop-place-preserved : goal.loop-place-preserved
loop-place-preserved c =
    let fills = subst (λ (s : List (Option Site)). FillsGap c.args.fabric.now c.args.kind s (get_or c.args.lines.now c.loop-place.place (0, record { x = 0; y = 0; bel = 0 }))) c.deref.ensures.value (c.is_right.ensures.0 c.if-not-is_right.false) in
    record {
      noted = noted_step c.args.fabric.now c.args.kind c.args.lines.now c.loop-place.place c.args.count c.loop-place.sites.items (0, record { x = 0; y = 0; bel = 0 }) c.loop-place-test.true
          c.loop-place.invariant.noted c.loop-place.invariant.right fills;
      right = right_step c.args.fabric.now c.args.kind c.args.lines.now c.loop-place.place c.args.count c.loop-place.sites.items (0, record { x = 0; y = 0; bel = 0 }) c.loop-place-test.true
          c.loop-place.invariant.noted c.loop-place.invariant.right fills;
    }

pub returns : goal.returns
returns c =
    bound c.args.fabric.now c.args.kind c.args.lines.now c.loop-place.place c.args.count c.loop-place.sites.items c.deref-2.result.now c.loop-place-test.false
    c.loop-place.invariant.noted c.loop-place.invariant.right c.deref-2.ensures.value c.all_sites.result c.all_sites.ensures
