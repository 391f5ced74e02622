use Rattle.std.proofs.Common.{◌≡◌, ℕ, ◌+◌, ◌<◌, ◌++◌, List, [], ◌∷◌, get_or, sum_by, refl, sym, ◌∙◌, ap, subst}
use Rattle.fab_annealing.specs.declared.axis.Span.{Span}
use Rattle.fab_annealing.specs.Measured.{IsShaped, AreNoted, AreRenewed, HasMoved, net_count, no_span, width, undone}
use Rattle.fab_annealing.proofs.Kept.{undone_more, shaped_more, changed_more, renewed_more, renewed_none}
use Rattle.fab_annealing.proofs.axis.Axis.refresh_nets.Goals as goal

pub loop-net-init : goal.loop-net-init
loop-net-init c = record {
  places = refl;
  shaped = c.requires.shaped;
  noted = c.requires.noted;
  undone = refl;
  right = λ before item moved holds right. renewed_none c.args.nets.now before c.args.self.now.places.items c.args.self.now.spans.items c.args.touching.now right;
}

pub loop-net-preserved : goal.loop-net-preserved
loop-net-preserved c =
    let inv = c.loop-net.invariant in
    let nets = c.args.nets.now in
    let k = get_or c.args.touching.now c.loop-net.net-index 0 in
    let old = c.loop-net.self in
    let now = c.renew.new.self in
    let step = c.in_ok-renew.ensures in
    let inside : k < net_count nets = c.requires.touching c.loop-net.net-index 0 c.loop-net-test.true in
    let same : now.places.items ≡ old.places.items = c.renew.ensures.places in
    record {
      places = same ∙ inv.places;
      shaped = subst (λ (ps : List ℕ). IsShaped nets ps now.spans.items now.total) (sym same)
          (subst (λ (ss : List Span). IsShaped nets old.places.items ss now.total) (sym step.spans)
          (shaped_more nets old.places.items old.spans.items old.total k now.total c.span_after-span.result inv.shaped c.span_after-span.ensures.low (step.summed ∙ ap (sum_by width) step.spans)));
      noted = subst (λ (es : List (ℕ × Span)). AreNoted nets es) (sym step.changed) (changed_more nets old.changed.items k (get_or old.spans.items k no_span) inv.noted inside);
      undone = ap (λ es. undone es now.spans.items) step.changed ∙ ap (undone (old.changed.items ++ (k, get_or old.spans.items k no_span) ∷ [])) step.spans ∙ undone_more old.changed.items old.spans.items k c.span_after-span.result ∙ inv.undone;
      right = λ before item moved holds right.
          let moved_now : HasMoved nets before old.places.items item c.args.from c.args.to = subst (λ (ps : List ℕ). HasMoved nets before ps item c.args.from c.args.to) (sym inv.places) moved in
          subst (λ (ps : List ℕ). AreRenewed nets before ps now.spans.items c.args.touching.now (c.loop-net.net-index + 1)) (sym same)
          (subst (λ (ss : List Span). AreRenewed nets before old.places.items ss c.args.touching.now (c.loop-net.net-index + 1)) (sym step.spans)
          (renewed_more nets before old.places.items old.spans.items c.args.touching.now c.loop-net.net-index item c.args.from c.args.to c.span_after-span.result
          c.requires.nets inv.shaped.spans_count moved_now c.loop-net-test.true c.requires.touching holds c.span_after-span.ensures.next (inv.right before item moved holds right)));
    }
