use Rattle.std.proofs.Common.{◌≡◌, ℕ, ◌<◌, slice_index}
use Rattle.fab_demand.proofs.search.number.Given as goal

-- the points so far are led to themselves
abbrev pub invariant-loop-point : goal.invariant-loop-point
invariant-loop-point l = (k : ℕ) → k < l.point → slice_index l.leads k ≡ k
