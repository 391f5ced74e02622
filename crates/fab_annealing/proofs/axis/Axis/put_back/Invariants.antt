use Rattle.std.proofs.Common.{◌≡◌, ◌<◌, length, ℕ}
use Rattle.std.specs.List.{All}
use Rattle.fab_annealing.specs.declared.axis.Span.{Span}
use Rattle.fab_annealing.specs.Measured.{undone}
use Rattle.fab_annealing.proofs.axis.Axis.put_back.Given as goal

abbrev pub invariant-loop-net : goal.invariant-loop-net
invariant-loop-net l = record {
  places : l.self.places.items ≡ l.fn.self.places.items;
  noted : All (λ (entry : ℕ × Span). entry.0 < length l.self.spans.items) l.self.changed.items;
  undone : undone l.self.changed.items l.self.spans.items ≡ undone l.fn.self.changed.items l.fn.self.spans.items;
}

abbrev pub decreases-loop-net : goal.decreases-loop-net
decreases-loop-net l = length l.self.changed.items
