use Rattle.std.proofs.Common.{◌≡◌, ◌≤◌, ◌<◌, ℕ, length}
use Rattle.std.specs.List.{All}
use Rattle.fab_annealing.specs.declared.axis.Span.{Span}
use Rattle.fab_annealing.specs.Measured.{IsRight}
use Rattle.fab_annealing.proofs.axis.spans_of.Given as goal

abbrev pub invariant-loop-items : goal.invariant-loop-items
invariant-loop-items l = record {
  len : length l.spans.items ≡ l.items-index;
  right : (net : ℕ) → net < l.items-index → IsRight l.nets l.places l.spans.items net;
  low : All (λ (span : Span). span.high ≤ 31) l.spans.items;
}
