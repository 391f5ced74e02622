use Rattle.std.proofs.Common.{false, get_or, take}
use Rattle.std.specs.List.{filter_map}
use Rattle.fab_features.specs.inner.Listing.{Pushes, placed_tile}
use Rattle.fab_features.specs.Spelled.{tile_picks}
use Rattle.fab_features.proofs.spelled.push_outputs.Given as goal

-- the lines of the outputs so far
abbrev pub invariant-loop-output : goal.invariant-loop-output
invariant-loop-output l =
    Pushes l.fn.features.items l.features.items (filter_map (tile_picks (λ place. get_or l.bits place false) (placed_tile l.x l.y l.tile)) (take l.output-index l.outputs))
