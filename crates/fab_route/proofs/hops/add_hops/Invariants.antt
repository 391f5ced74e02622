use Rattle.std.proofs.Common.{ℕ, take}
use Rattle.std.specs.List.{All}
use Rattle.fab_route.specs.inner.Guided.{place_at, HasHop, KeepHops}
use Rattle.fab_route.proofs.hops.add_hops.Given as goal

abbrev pub invariant-loop-end : goal.invariant-loop-end
invariant-loop-end l = record {
  kept : KeepHops l.fn.hops.items l.hops.items;
  added : All (λ (end : ℕ). HasHop l.hops.items l.from (place_at l.places.items end)) (take l.end-index l.ends);
}
