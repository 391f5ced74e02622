-- The sites of a fabric can be written.
use Rattle.std.proofs.Common.{◌≡◌, ℕ, ◌*◌, ◌+◌, ◌<◌, ◌≤◌, Bool, true, false, cond, ◌&&◌, List, length, get_or, All, Option, Some, None, refl, subst, arith, ltb}
use Rattle.std.specs.Prelude.{slice_get}
use Rattle.std.specs.Option.{option_map, option_and_then}
use Rattle.std.proofs.lemmas.Option.{slice_get_within, get_or_from_slice_get}
use Rattle.fab_kinds.specs.declared.kind.Kind.{Kind}
use Rattle.fab_model.specs.declared.tiles.Bel.{Bel}
use Rattle.fab_model.specs.Tiles.{PlainTile}
use Rattle.fab_model.specs.Grid.{PlainFabric, numbered_type, tile_at}
use Rattle.fab_fabric.specs.Fabric.{IsFabric}
use Rattle.fab_fabric.specs.declared.wire.Site.{Site}
use Rattle.fab_implementation.specs.OnFabric.{IsSite}

few_in : (types : List PlainTile) (place : Option (Option ℕ)) (tile : PlainTile) → All (λ t. length t.bels ≤ 26) types → numbered_type types place ≡ Some tile → length tile.bels ≤ 26
few_in types None tile few so = absurd cc
few_in types (Some None) tile few so = absurd cc
few_in types (Some (Some number)) tile few so =
    let read : get_or types number tile ≡ tile = get_or_from_slice_get types number tile tile so in
    subst (λ (t : PlainTile). length t.bels ≤ 26) read (few number tile (slice_get_within types number tile so))

few_at : (fabric : PlainFabric) (inside : Bool) (place : Option (Option ℕ)) (tile : PlainTile) → IsFabric fabric → cond inside (numbered_type fabric.types place) None ≡ Some tile → length tile.bels ≤ 26
few_at fabric true place tile is so = few_in fabric.types place tile is.few_bels so
few_at fabric false place tile is so = absurd cc

bel_by : (fabric : PlainFabric) (site : Site) (kind : Kind) (tile : Option PlainTile) → IsFabric fabric → tile_at fabric site.x site.y ≡ tile
    → option_map (λ (bel : Bel). bel.kind) (option_and_then (λ (t : PlainTile). slice_get t.bels site.bel) tile) ≡ Some kind → site.bel < 26
bel_by fabric site kind None is at so = absurd cc
bel_by fabric site kind (Some tile) is at so =
    let few = few_at fabric (ltb site.x fabric.columns && ltb site.y fabric.rows) (slice_get fabric.grid (site.y * fabric.columns + site.x)) tile is at in
    by_bel (slice_get tile.bels site.bel) refl so few
  where
    by_bel : (found : Option Bel) → slice_get tile.bels site.bel ≡ found → option_map (λ (bel : Bel). bel.kind) found ≡ Some kind → length tile.bels ≤ 26 → site.bel < 26
    by_bel None read so few = absurd cc
    by_bel (Some bel) read so few = let within = slice_get_within tile.bels site.bel bel read in omega (arith, within, few)

pub site_small : (fabric : PlainFabric) (site : Site) → IsFabric fabric → IsSite fabric site → site.bel < 26
site_small fabric site is stands = bel_by fabric site stands.0 (tile_at fabric site.x site.y) is refl stands.1
