use Rattle.std.proofs.Common.{◌≡◌, ◌<◌, ℕ, All, Some, length}
use Rattle.fab_timing.specs.inner.Tables.{plain_steps, sum_at}
use Rattle.fab_timing.proofs.Trails.{IsHere, IsWay, left_of, wire_stop}
use Rattle.fab_timing.proofs.trace.walk_back.Given as goal

abbrev pub invariant-back : goal.invariant-back
invariant-back l = record {
  here : IsHere (sum_at l.sums) l.at;
  way : (sum : ℕ) → sum_at l.sums l.fn.end ≡ Some sum → IsWay (plain_steps l.steps) l.at l.stops.items (wire_stop (l.fn.end, sum));
  within : All (λ stop. stop.0.0 < length l.steps.starts.items) l.stops.items;
}

abbrev pub decreases-back : goal.decreases-back
decreases-back l = left_of l.at
