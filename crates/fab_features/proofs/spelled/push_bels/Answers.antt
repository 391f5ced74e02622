use Rattle.std.proofs.Common.{false, get_or}
use Rattle.fab_features.specs.inner.Listing.{placed_tile}
use Rattle.fab_features.specs.Spelled.{bel_features}
use Rattle.fab_features.proofs.Pushed.{none_flat, more_flat}
use Rattle.fab_features.proofs.spelled.push_bels.Goals as goal

pub loop-bel-init : goal.loop-bel-init
loop-bel-init c = none_flat c.args.features.now.items (bel_features (λ place. get_or c.args.bits.now place false) (placed_tile c.args.x c.args.y c.args.tile.now))

pub loop-bel-preserved : goal.loop-bel-preserved
loop-bel-preserved c =
    let l = c.loop-bel in
    more_flat c.args.features.now.items l.features.items c.push_bel_of.new.features.items (bel_features (λ place. get_or c.args.bits.now place false) (placed_tile c.args.x c.args.y c.args.tile.now)) l.bel l.invariant c.in_ok-push_bel_of.ensures
