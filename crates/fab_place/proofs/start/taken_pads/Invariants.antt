use Rattle.std.proofs.Common.{◌≡◌, ℕ, ◌<◌, false, length, get_or, take}
use Rattle.fab_place.specs.inner.Starts.{is_taken}
use Rattle.fab_place.proofs.start.taken_pads.Given as goal

abbrev pub invariant-loop-pad : goal.invariant-loop-pad
invariant-loop-pad l = record {
  count : length l.taken.items ≡ l.pads;
  taken : (pad : ℕ) → pad < l.pads → get_or l.taken.items pad false ≡ is_taken (take l.pad-index l.constrained) pad;
}
