use Rattle.std.proofs.Common.{◌<◌, ℕ, List, length, get_or, sym, ◌∙◌, ap, subst, inr, arith}
use Rattle.std.specs.List.{All}
use Rattle.fab_annealing.specs.Spans.{span_of}
use Rattle.fab_annealing.proofs.Kept.{numbers_read}
use Rattle.fab_annealing.proofs.axis.Axis.span_after.Goals as goal

pub span_of-requires-clause-items : goal.span_of-requires-clause-items
span_of-requires-clause-items c =
    let nets = c.args.nets.now in
    let is = c.deref-in-None.ensures.value ∙ numbers_read nets.items.items c.args.net c.index-in-None.result.now c.requires.net c.index-in-None.ensures in
    subst (λ (ns : List ℕ). All (λ item. item < length c.deref.result.now) ns) (sym is) (λ k d low.
    let h = c.requires.nets.inside c.args.net c.requires.net k d low in
    omega (arith, h, ap length c.deref.ensures.value, c.requires.shaped.places_count))

pub returns-in-None-clause-next : goal.returns-in-None-clause-next
returns-in-None-clause-next c =
    let nets = c.args.nets.now in
    let is = c.deref-in-None.ensures.value ∙ numbers_read nets.items.items c.args.net c.index-in-None.result.now c.requires.net c.index-in-None.ensures in
    inr (c.span_of.ensures.value ∙ ap (λ (ps : List ℕ). span_of (λ i. get_or ps i 0) c.deref-in-None.result.now) c.deref.ensures.value ∙ ap (λ (ns : List ℕ). span_of (λ i. get_or c.args.self.now.places.items i 0) ns) is)
