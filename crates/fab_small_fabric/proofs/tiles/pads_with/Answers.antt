use Rattle.std.proofs.Common.{List, All, codes, sym, subst₂, subst}
use Rattle.fab_select.specs.declared.pair.Pair.{Pair}
use Rattle.fab_model.specs.declared.tiles.WireRow.{WireRow}
use Rattle.fab_model.specs.declared.tiles.Bel.{Bel}
use Rattle.fab_model.specs.Tiles.{bare_tile, IsTile, IsPair}
use Rattle.fab_fabric.specs.Examples.{pad_rows, pad_bels}
use Rattle.fab_fabric.proofs.Samples.{pads_tile, pad_pairs_fit}
use Rattle.fab_small_fabric.proofs.tiles.pads_with.Goals as goal

pub tile_with-requires-clause-is_tile : goal.tile_with-requires-clause-is_tile
tile_with-requires-clause-is_tile c =
    subst₂ (λ (rows : List WireRow) (bels : List Bel). IsTile (bare_tile (codes "IO") rows bels)) (sym c.in_ok-rows.ensures) (sym c.in_ok-bels.ensures) pads_tile

pub tile_with-requires-clause-pairs : goal.tile_with-requires-clause-pairs
tile_with-requires-clause-pairs c =
    subst₂ (λ (rows : List WireRow) (bels : List Bel). All (IsPair (bare_tile (codes "IO") rows bels)) c.in_ok-pairs.pairs.items) (sym c.in_ok-rows.ensures) (sym c.in_ok-bels.ensures)
    (subst (λ (pairs : List Pair). All (IsPair (bare_tile (codes "IO") pad_rows pad_bels)) pairs) (sym c.in_ok-pairs.ensures) pad_pairs_fit)
