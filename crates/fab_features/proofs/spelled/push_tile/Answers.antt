use Rattle.std.proofs.Common.{Bool, ℕ, false, get_or, length, nat_eq, ap}
use Rattle.std.specs.List.{flat_map, filter_map}
use Rattle.fab_select.specs.Selection.{in_order}
use Rattle.fab_model.specs.Tiles.{counted, numbered_pairs}
use Rattle.fab_features.specs.inner.Listing.{placed_tile}
use Rattle.fab_features.specs.Spelled.{bel_features, tile_picks}
use Rattle.fab_features.proofs.Pushed.{pushes_both, pushes_same}
use Rattle.fab_features.proofs.spelled.push_tile.Goals as goal

pub returns : goal.returns
returns c =
    let tile = c.args.tile.now in
    let placed = placed_tile c.args.x c.args.y tile in
    let bits : ℕ → Bool = λ place. get_or c.args.bits.now place false in
    let start = c.args.features.now.items in
    let middle = c.push_bels.new.features.items in
    let end = c.push_outputs.new.features.items in
    pushes_both start middle end (flat_map (bel_features bits placed) (counted (length tile.bels) (λ i. i))) (filter_map (tile_picks bits placed) (in_order nat_eq (numbered_pairs tile)))
    c.in_ok-push_bels.ensures (pushes_same middle end _ _ (ap (filter_map (tile_picks bits placed)) c.requires.matrix.outputs) c.in_ok-push_outputs.ensures)
