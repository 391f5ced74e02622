use Rattle.std.proofs.Common.{◌≡◌, ◌≤◌, [], length}
use Rattle.fab_syntax.specs.Plain.{plain_text}
use Rattle.fab_equations.specs.Instances.{points}
use Rattle.fab_load_points.specs.inner.Flops.{IsClosedSearch}
use Rattle.fab_load_points.specs.inner.Points.{AreMarkedFrom}
use Rattle.fab_load_points.proofs.points.mark_points.Given as goal

abbrev pub invariant-loop-point : goal.invariant-loop-point
invariant-loop-point l = record {
  long : length l.search.statuses.items ≡ length (points (plain_text l.equations));
  rest : l.search.stack.items ≡ [];
  closed : IsClosedSearch (plain_text l.equations) l.search.statuses.items;
  marks : length l.marks ≡ length (points (plain_text l.equations));
  within : l.point ≤ length (points (plain_text l.equations));
  behind : AreMarkedFrom (plain_text l.equations) l.point l.marks;
}
