use Rattle.std.proofs.Common.{◌≡◌, ℕ, Some, length, reverse, slice_get}
use Rattle.fab_syntax.specs.Plain.{plain_text}
use Rattle.fab_load_points.specs.inner.Search.{Scene, AreBelow, IsSearch, new_count}
use Rattle.fab_load_points.specs.declared.search.Status.TheVariants.{New}
use Rattle.fab_load_points.proofs.search.Search.run.Given as goal

abbrev pub invariant-loop-name : goal.invariant-loop-name
invariant-loop-name l = record {
  long : length l.self.statuses.items ≡ length l.initial.self.statuses.items;
  within : AreBelow (length l.self.statuses.items) (reverse l.self.stack.items);
  new : (name : ℕ) → slice_get l.self.statuses.items name ≡ Some New → slice_get l.initial.self.statuses.items name ≡ Some New;
  search : (scene : Scene (plain_text l.equations)) → IsSearch (plain_text l.equations) scene l.initial.self.statuses.items (reverse l.initial.self.stack.items) →
      IsSearch (plain_text l.equations) scene l.self.statuses.items (reverse l.self.stack.items);
}

abbrev pub decreases-loop-name : goal.decreases-loop-name
decreases-loop-name l = new_count l.self.statuses.items
