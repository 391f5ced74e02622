use Rattle.std.proofs.Common.{◌≡◌, map}
use Rattle.fab_paths.proofs.resolving.segments.Given as goal

abbrev pub invariant-loop-segment : goal.invariant-loop-segment
invariant-loop-segment l = map (λ s. s.now) l.found.items ≡ map (λ s. s.now) l.yielded
