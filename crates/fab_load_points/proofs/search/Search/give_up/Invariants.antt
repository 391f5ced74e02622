use Rattle.std.proofs.Common.{◌≡◌, length, reverse, vec_len}
use Rattle.fab_load_points.specs.inner.Search.{AreBelow, given_up}
use Rattle.fab_load_points.proofs.search.Search.give_up.Given as goal

abbrev pub invariant-loop-visit : goal.invariant-loop-visit
invariant-loop-visit l = record {
  within : AreBelow (length l.self.statuses.items) (reverse l.self.stack.items);
  same : given_up (reverse l.self.stack.items) l.self.statuses.items ≡ given_up (reverse l.initial.self.stack.items) l.initial.self.statuses.items;
}

abbrev pub decreases-loop-visit : goal.decreases-loop-visit
decreases-loop-visit l = vec_len l.self.stack
