use Rattle.std.proofs.Common.{◌≡◌, ◌<◌, ℕ, List, length, ◌∷◌, [], ◌++◌, sym, ◌∙◌, ap, subst, arith, length-set}
use Rattle.std.specs.List.{All}
use Rattle.fab_annealing.specs.declared.axis.Span.{Span}
use Rattle.fab_annealing.specs.Measured.{undone}
use Rattle.fab_annealing.proofs.Kept.{undone_push, noted_front}
use Rattle.fab_annealing.proofs.axis.Axis.put_back.Goals as goal

pub loop-net-preserved : goal.loop-net-preserved
loop-net-preserved c =
    let spans = c.loop-net.self.spans.items in
    let rest = c.pop.new.self.items in
    let entry : ℕ × Span = (c.in-Some.net, c.in-Some.span) in
    let items : c.loop-net.self.changed.items ≡ rest ++ entry ∷ [] = c.in-Some.ensures.items in
    let inv = c.loop-net.invariant in
    record {
      places = inv.places;
      noted = λ k d low. let h = noted_front (length spans) rest entry (subst (λ (es : List (ℕ × Span)). All (λ (e : ℕ × Span). e.0 < length spans) es) items inv.noted) k d low in omega (arith, h, length-set spans entry.0 entry.1);
      undone = sym (undone_push rest entry spans) ∙ ap (λ (es : List (ℕ × Span)). undone es spans) (sym items) ∙ inv.undone;
    }
