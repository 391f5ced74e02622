use Rattle.std.proofs.Common.{◌≡◌, ◌++◌, ◌+◌, ◌-◌}
use Rattle.fab_model.specs.Tiles.{counted}
use Rattle.fab_tables.proofs.ranges.push_down.Given as goal

abbrev pub invariant-loop-step : goal.invariant-loop-step
invariant-loop-step l = l.bits.items ≡ l.fn.bits.items ++ counted l.step (λ step. l.first - step)
