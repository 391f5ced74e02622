use Rattle.std.proofs.Common.{◌≡◌, not}
use Rattle.std.specs.List.{filter}
use Rattle.fab_model.specs.Tiles.{counted}
use Rattle.fab_place.specs.inner.Starts.{is_taken}
use Rattle.fab_place.proofs.start.free_pads.Given as goal

abbrev pub invariant-loop-pad : goal.invariant-loop-pad
invariant-loop-pad l = l.free.items ≡ filter (λ pad. not (is_taken l.fn.constrained pad)) (counted l.pad (λ pad. pad))
