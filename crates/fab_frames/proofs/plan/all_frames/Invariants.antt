use Rattle.std.proofs.Common.{◌≡◌, ◌++◌, map}
use Rattle.std.specs.List.{flat_map}
use Rattle.fab_model.specs.Tiles.{counted}
use Rattle.fab_frames.specs.Stream.{fixed, header, column_parts}
use Rattle.fab_frames.specs.inner.Taking.{plain_part}
use Rattle.fab_frames.proofs.plan.all_frames.Given as goal

-- the columns so far
abbrev pub invariant-loop-x : goal.invariant-loop-x
invariant-loop-x l = map plain_part l.parts.items ≡ map fixed header ++ flat_map (column_parts l.fabric) (counted l.x (λ x. x))
