use Rattle.std.proofs.Common.{◌≡◌, ◌∷◌, drop, reverse}
use Rattle.fab_load_points.specs.inner.Search.{entered}
use Rattle.fab_load_points.specs.declared.search.Visit.TheVariants.{Leave}
use Rattle.fab_load_points.proofs.search.Search.wait.Given as goal

abbrev pub invariant-loop-read : goal.invariant-loop-read
invariant-loop-read l = record {
  statuses : l.self.statuses.items ≡ l.initial.self.statuses.items;
  stack : entered (drop l.read-index l.reads) (reverse l.self.stack.items) ≡ entered l.reads (Leave l.name ∷ reverse l.fn.self.stack.items);
}
