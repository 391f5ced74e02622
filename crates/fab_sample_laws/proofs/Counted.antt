-- The sites of a sample's fabric.
use Rattle.std.proofs.Common.{◌≡◌, ◌≤◌, ℕ, ◌+◌, List, [], ◌∷◌, map, replicate, refl, sym, subst, Option, arith}
use Rattle.std.specs.List.{flat_map}
use Rattle.fab_model.specs.declared.mode.Mode.{Mode}
use Rattle.fab_model.specs.declared.mode.Mode.TheVariants as modes
use Rattle.fab_model.specs.declared.tiles.Bel.{Bel}
use Rattle.fab_model.specs.Tiles.{PlainTile, counted}
use Rattle.fab_model.specs.Grid.{PlainFabric}
use Rattle.fab_sample_laws.specs.Fabrics.{pads, look_up_tables, row_types, IsSampleFabric}
use Rattle.fab_sample_laws.specs.Sites.{HasSites}
use Rattle.fab_sample_laws.proofs.Selected.{one}

-- a sample's fabric of these types
abbrev fabric_with : (size : ℕ) → List PlainTile → PlainFabric
fabric_with size types = record { types = types; columns = size + 2; rows = size; grid = flat_map (λ row. row) (replicate size (row_types size)); mode = modes.Frames }

-- a tile with other BELs
abbrev with_bels : PlainTile → List Bel → PlainTile
with_bels tile bels = record { name = tile.name; rows = tile.rows; bels = bels; pairs = tile.pairs; table = tile.table }

module _ (west logic east : PlainTile) where
  abbrev HaveSites : (size : ℕ) → Type 0
  HaveSites size = HasSites size (fabric_with size (with_bels west pads ∷ with_bels logic look_up_tables ∷ with_bels east pads ∷ []))

  each_has : HaveSites 2 × HaveSites 3 × HaveSites 4 × HaveSites 5 × HaveSites 6 × HaveSites 7 × HaveSites 8 × HaveSites 9 × HaveSites 10 × HaveSites 11 × HaveSites 12 × HaveSites 13 × HaveSites 14 × HaveSites 15 × HaveSites 16
  unfolding counted
  each_has = (
    record { tables = refl; pads = refl },
    record { tables = refl; pads = refl },
    record { tables = refl; pads = refl },
    record { tables = refl; pads = refl },
    record { tables = refl; pads = refl },
    record { tables = refl; pads = refl },
    record { tables = refl; pads = refl },
    record { tables = refl; pads = refl },
    record { tables = refl; pads = refl },
    record { tables = refl; pads = refl },
    record { tables = refl; pads = refl },
    record { tables = refl; pads = refl },
    record { tables = refl; pads = refl },
    record { tables = refl; pads = refl },
    record { tables = refl; pads = refl },
  )

  all_have : (size : ℕ) → 2 ≤ size → size ≤ 16 → HaveSites size
  all_have size least most =
      one HaveSites 2 15 size least (omega (arith, most))
      (each_has.0, (each_has.1, (each_has.2, (each_has.3, (each_has.4, (each_has.5, (each_has.6, (each_has.7, (each_has.8, (each_has.9, (each_has.10, (each_has.11, (each_has.12, (each_has.13, (each_has.14, tt)))))))))))))))

  by_bels : (size : ℕ) → 2 ≤ size → size ≤ 16 → west.bels ≡ pads → logic.bels ≡ look_up_tables → east.bels ≡ pads → HasSites size (fabric_with size (west ∷ logic ∷ east ∷ []))
  by_bels size least most wests logics easts =
      subst (λ (bels : List Bel). HasSites size (fabric_with size (with_bels west bels ∷ logic ∷ east ∷ []))) (sym wests)
      (subst (λ (bels : List Bel). HasSites size (fabric_with size (with_bels west pads ∷ with_bels logic bels ∷ east ∷ []))) (sym logics)
      (subst (λ (bels : List Bel). HasSites size (fabric_with size (with_bels west pads ∷ with_bels logic look_up_tables ∷ with_bels east bels ∷ []))) (sym easts)
      (all_have size least most)))

-- three types, of which only the BELs count
by_types : (size : ℕ) (types : List PlainTile) → 2 ≤ size → size ≤ 16 → map (λ tile. tile.bels) types ≡ pads ∷ look_up_tables ∷ pads ∷ [] → HasSites size (fabric_with size types)
by_types size [] least most is = absurd cc
by_types size (west ∷ []) least most is = absurd cc
by_types size (west ∷ logic ∷ []) least most is = absurd cc
by_types size (west ∷ logic ∷ east ∷ []) least most is =
    let wests : west.bels ≡ pads = cc in
    let logics : logic.bels ≡ look_up_tables = cc in
    let easts : east.bels ≡ pads = cc in
    by_bels west logic east size least most wests logics easts
by_types size (west ∷ logic ∷ east ∷ other ∷ more) least most is = absurd cc

pub have_sites : (size : ℕ) (fabric : PlainFabric) → 2 ≤ size → size ≤ 16 → IsSampleFabric size fabric → HasSites size fabric
have_sites size fabric least most is =
    subst (λ (columns : ℕ). HasSites size (record { types = fabric.types; columns = columns; rows = fabric.rows; grid = fabric.grid; mode = fabric.mode })) (sym is.columns)
    (subst (λ (rows : ℕ). HasSites size (record { types = fabric.types; columns = size + 2; rows = rows; grid = fabric.grid; mode = fabric.mode })) (sym is.rows)
    (subst (λ (grid : List (Option ℕ)). HasSites size (record { types = fabric.types; columns = size + 2; rows = size; grid = grid; mode = fabric.mode })) (sym is.grid)
    (subst (λ (mode : Mode). HasSites size (record (fabric_with size fabric.types) { mode = mode })) (sym is.mode)
    (by_types size fabric.types least most is.bels))))
