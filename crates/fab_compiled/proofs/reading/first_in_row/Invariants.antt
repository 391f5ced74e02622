use Rattle.std.proofs.Common.{◌≡◌, ℕ, ◌+◌, ◌<◌, true, slice_index}
use Rattle.fab_compiled.proofs.reading.first_in_row.Given as goal

-- so far each point is led to the one behind that of the one before it
abbrev pub invariant-loop-place : goal.invariant-loop-place
invariant-loop-place l = l.follow ≡ true → (k : ℕ) → k < l.place → slice_index l.leads k ≡ l.low + k
