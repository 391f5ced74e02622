use Rattle.std.proofs.Common.{false, get_or}
use Rattle.std.specs.List.{flat_map}
use Rattle.fab_model.specs.Tiles.{counted}
use Rattle.fab_features.specs.inner.Listing.{Pushes, placed_tile}
use Rattle.fab_features.specs.Spelled.{bel_features}
use Rattle.fab_features.proofs.spelled.push_bels.Given as goal

-- the lines of the BELs so far
abbrev pub invariant-loop-bel : goal.invariant-loop-bel
invariant-loop-bel l =
    Pushes l.fn.features.items l.features.items (flat_map (bel_features (λ place. get_or l.bits place false) (placed_tile l.x l.y l.tile)) (counted l.bel (λ bel. bel)))
