use Rattle.std.proofs.Common.{◌≡◌, ◌<◌, ◌≤◌, ◌+◌, ℕ, List, length, get_or, sym, ◌∙◌, ap, subst, arith}
use Rattle.std.proofs.lemmas.List.{length_push}
use Rattle.std.proofs.lemmas.List.Elements.{All-push}
use Rattle.std.specs.List.{All, slice_get}
use Rattle.fab_annealing.specs.declared.axis.Span.{Span}
use Rattle.fab_annealing.specs.Spans.{span_of}
use Rattle.fab_annealing.specs.Measured.{numbers_of, net_count, IsRight}
use Rattle.fab_annealing.proofs.Kept.{numbers_read, right_more}
use Rattle.fab_annealing.proofs.axis.spans_of.Goals as goal

pub span_of-requires-clause-items : goal.span_of-requires-clause-items
span_of-requires-clause-items c =
    let nets = c.args.nets.now in
    let at = c.loop-items.items-index in
    let whole = c.deref-items-items.ensures.value in
    let inside : at < net_count nets = omega (arith, c.loop-items-test.true, ap length whole) in
    let is = c.deref.ensures.value ∙ numbers_read c.deref-items-items.result.now at c.items-item.result c.loop-items-test.true c.items-item.is ∙ ap (λ vs. numbers_of (slice_get vs at)) whole in
    subst (λ (ns : List ℕ). All (λ item. item < length c.args.places.now) ns) (sym is) (λ k d low.
    let h = c.requires.nets.inside at inside k d low in omega (arith, h, c.requires.items))

pub loop-items-preserved : goal.loop-items-preserved
loop-items-preserved c =
    let nets = c.args.nets.now in
    let at = c.loop-items.items-index in
    let spans = c.loop-items.spans.items in
    let whole = c.deref-items-items.ensures.value in
    let is = c.deref.ensures.value ∙ numbers_read c.deref-items-items.result.now at c.items-item.result c.loop-items-test.true c.items-item.is ∙ ap (λ vs. numbers_of (slice_get vs at)) whole in
    let value = c.span_of.ensures.value ∙ ap (λ (ns : List ℕ). span_of (λ i. get_or c.args.places.now i 0) ns) is in
    record {
      len = ap length c.in_ok-push.ensures.items ∙ length_push spans c.span_of.result ∙ (let q : length spans + 1 ≡ at + 1 = omega (arith, c.loop-items.invariant.len) in q);
      right = subst (λ (ss : List Span). (net : ℕ) → net < at + 1 → IsRight nets c.args.places.now ss net) (sym c.in_ok-push.ensures.items)
          (right_more nets c.args.places.now spans c.span_of.result at c.loop-items.invariant.len value c.loop-items.invariant.right);
      low = subst (λ (ss : List Span). All (λ (span : Span). span.high ≤ 31) ss) (sym c.in_ok-push.ensures.items) (All-push (λ (span : Span). span.high ≤ 31) spans c.span_of.result c.loop-items.invariant.low c.span_of.ensures.low);
    }
