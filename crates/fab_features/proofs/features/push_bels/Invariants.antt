use Rattle.std.specs.List.{flat_map}
use Rattle.fab_model.specs.Tiles.{counted}
use Rattle.fab_features.specs.Design.{site_features}
use Rattle.fab_features.specs.inner.Listing.{Pushes, site_at}
use Rattle.fab_features.proofs.features.push_bels.Given as goal

-- the lines of the BELs so far
abbrev pub invariant-loop-bel : goal.invariant-loop-bel
invariant-loop-bel l =
    Pushes l.fn.features.items l.features.items (flat_map (λ bel. site_features l.lookup.packed.now l.lookup.implementation.now (site_at l.x l.y bel)) (counted l.bel (λ bel. bel)))
