use Rattle.std.proofs.Common.{◌≡◌, ◌++◌}
use Rattle.std.specs.List.{flat_map}
use Rattle.fab_model.specs.Tiles.{counted}
use Rattle.fab_frames.specs.inner.Placing.{place_chain}
use Rattle.fab_frames.proofs.positions.push_column.Given as goal

-- the places so far
abbrev pub invariant-loop-y : goal.invariant-loop-y
invariant-loop-y l = l.places.items ≡ l.fn.places.items ++ flat_map (place_chain l.fabric l.x) (counted l.y (λ y. y))
