use Rattle.std.proofs.Common.{◌≡◌}
use Rattle.std.specs.List.{flat_map}
use Rattle.fab_model.specs.Tiles.{counted}
use Rattle.fab_frames.specs.inner.Placing.{column_chain}
use Rattle.fab_frames.proofs.positions.chain.Given as goal

-- the columns so far
abbrev pub invariant-loop-x : goal.invariant-loop-x
invariant-loop-x l = l.places.items ≡ flat_map (column_chain l.fabric) (counted l.x (λ x. x))
