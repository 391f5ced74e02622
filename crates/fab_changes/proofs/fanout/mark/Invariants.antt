use Rattle.std.proofs.Common.{◌≡◌, ℕ, ◌<◌, length, slice_index}
use Rattle.fab_changes.specs.Fanout.{IsFresh}
use Rattle.fab_changes.proofs.fanout.mark.Given as goal

-- the readers so far are stale
abbrev pub invariant-loop-reader : goal.invariant-loop-reader
invariant-loop-reader l = record {
  long : length l.stale ≡ length l.fn.stale;
  fresh : (number : ℕ) → IsFresh l.stale number → IsFresh l.fn.stale number;
  marked : (k : ℕ) → k < l.reader-index → IsFresh l.stale (slice_index l.readers k) → ⊥;
}
