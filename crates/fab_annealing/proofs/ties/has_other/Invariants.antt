use Rattle.std.proofs.Common.{◌≡◌, ◌<◌, ℕ, get_or}
use Rattle.fab_annealing.specs.Measured.{items_of}
use Rattle.fab_annealing.proofs.ties.has_other.Given as goal

abbrev pub invariant-loop-other : goal.invariant-loop-other
invariant-loop-other l = (k : ℕ) → k < l.other-index → get_or (items_of l.nets l.net) k 0 ≡ l.item
