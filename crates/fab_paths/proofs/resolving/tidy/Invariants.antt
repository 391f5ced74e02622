use Rattle.std.proofs.Common.{◌≡◌, map, drop}
use Rattle.fab_paths.specs.Paths.{tidied}
use Rattle.fab_paths.proofs.resolving.tidy.Given as goal

abbrev pub invariant-loop-segment : goal.invariant-loop-segment
invariant-loop-segment l = tidied l.from_root (map (λ s. s.now) l.kept.items) (map (λ s. s.now) (drop l.segment-index l.more)) ≡ tidied l.from_root (map (λ s. s.now) l.initial.kept.items) (map (λ s. s.now) l.more)
