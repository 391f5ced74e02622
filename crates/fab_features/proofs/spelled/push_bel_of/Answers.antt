use Rattle.std.proofs.Common.{◌≡◌, Bool, ℕ, List, [], Option, Some, false, get_or, slice_get, ap, ◌∙◌, sym}
use Rattle.std.specs.Option.{option_map_or}
use Rattle.fab_model.specs.declared.tiles.Bel.{Bel}
use Rattle.fab_model.specs.Tiles.{bits_before}
use Rattle.fab_netlist.specs.Plain.{IsAt}
use Rattle.fab_legal.proofs.Lists.{at_read}
use Rattle.fab_features.specs.inner.Listing.{placed_tile}
use Rattle.fab_features.specs.Spelled.{kind_features, bel_features}
use Rattle.fab_features.proofs.Pushed.{pushes_same}
use Rattle.fab_features.proofs.DesignLines.{get_item}
use Rattle.fab_features.proofs.spelled.push_bel_of.Goals as goal

pub returns : goal.returns
returns c =
    let bits : ℕ → Bool = λ place. get_or c.args.bits.now place false in
    let tile = c.args.tile.now in
    let site = c.args.site in
    let bels = c.bels-bels.result.now in
    let found = c.index-bels-place.result in
    let low_is : c.first_bit-low.result ≡ bits_before tile.bels site.bel = c.first_bit-low.ensures.before in
    let read : found ≡ get_or tile.bels site.bel found = c.index-bels-place.is ∙ ap (λ (b : List Bel). get_or b site.bel found) c.bels-bels.ensures in
    let at : IsAt tile.bels site.bel found = at_read tile.bels site.bel found c.requires.inside read in
    let found_is : slice_get tile.bels site.bel ≡ Some found = get_item tile.bels site.bel found at in
    pushes_same c.args.features.now.items c.push_bel.new.features.items (kind_features bits site c.first_bit-low.result (get_or bels site.bel found).kind) (bel_features bits (placed_tile site.x site.y tile) site.bel)
    (ap (λ (b : Bel). kind_features bits site c.first_bit-low.result b.kind) (sym c.index-bels-place.is) ∙ ap (λ n. kind_features bits site n found.kind) low_is ∙ ap (λ (o : Option Bel). option_map_or (λ (f : Bel). kind_features bits site (bits_before tile.bels site.bel) f.kind) o []) (sym found_is)) c.in_ok-push_bel.ensures
