use Rattle.std.proofs.Common.{◌≡◌, ◌++◌, map, take}
use Rattle.std.specs.List.{flat_map}
use Rattle.fab_paths.specs.Paths.{behind_slash}
use Rattle.fab_paths.proofs.resolving.slashed.Given as goal

abbrev pub invariant-loop-segment : goal.invariant-loop-segment
invariant-loop-segment l = l.path.items ≡ l.initial.path.items ++ flat_map behind_slash (map (λ s. s.now) (take l.segment-index l.more))
