use Rattle.std.proofs.Common.{◌≡◌, ◌≤◌, ℕ, List, Some, length, reverse, slice_get, vec_len}
use Rattle.fab_syntax.specs.Plain.{PlainModule}
use Rattle.fab_load_points.specs.inner.Search.{Scene, AreBelow, IsSearch, new_count}
use Rattle.fab_load_points.specs.declared.search.Status.TheVariants.{New}
use Rattle.fab_load_points.proofs.search.Search.next_new.Given as goal

abbrev pub invariant-loop-visit : goal.invariant-loop-visit
invariant-loop-visit l = record {
  long : length l.self.statuses.items ≡ length l.initial.self.statuses.items;
  within : AreBelow (length l.self.statuses.items) (reverse l.self.stack.items);
  count : new_count l.self.statuses.items ≤ new_count l.initial.self.statuses.items;
  new : (name : ℕ) → slice_get l.self.statuses.items name ≡ Some New → slice_get l.initial.self.statuses.items name ≡ Some New;
  search : (text : List PlainModule) (scene : Scene text) → IsSearch text scene l.initial.self.statuses.items (reverse l.initial.self.stack.items) →
      IsSearch text scene l.self.statuses.items (reverse l.self.stack.items);
}

abbrev pub decreases-loop-visit : goal.decreases-loop-visit
decreases-loop-visit l = vec_len l.self.stack
