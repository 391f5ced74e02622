-- What stands in the grid of a sample's fabric, at each size: all three types, and the kinds of their BELs.
use Rattle.std.proofs.Common.{◌≡◌, ◌≤◌, ◌∙◌, sym, ℕ, ◌+◌, true, List, [], ◌∷◌, replicate, refl, ap, arith, lit≤, All}
use Rattle.std.specs.Prelude.{nat_le}
use Rattle.std.specs.List.{flat_map}
use Rattle.std.proofs.lemmas.List.Elements.{All-from_recursion}
use Rattle.fab_kinds.specs.declared.kind.Kind.TheVariants.{Lut4c, Io}
use Rattle.fab_select.specs.declared.pair.Pair.{Pair}
use Rattle.fab_syntax.specs.Plain.{PlainModule}
use Rattle.fab_model.specs.declared.mode.Mode.TheVariants as modes
use Rattle.fab_model.specs.Tiles.{PlainTile, counted}
use Rattle.fab_model.specs.Grid.{PlainFabric}
use Rattle.fab_gen_loader.specs.Expressions.{loader_module}
use Rattle.fab_gen_loader.specs.Loader.{loader_module_name}
use Rattle.fab_fabric_text_defs.specs.Text.{standing_types, used_kinds}
use Rattle.fab_sample_laws.specs.Fabrics.{IsSampleFabric, row_types}
use Rattle.fab_sample_laws.proofs.Blocks.{west, logic, east}
use Rattle.fab_sample_laws.proofs.Selected as sizes
use Rattle.fab_sample_laws.proofs.Assembled.{tile_with}
use Rattle.fab_sample_laws.proofs.Types.{IsSmallTile, short_rows}
use Rattle.fab_sample_laws.proofs.Counts.{below}

-- ---- the grid

abbrev fabric_with : (size : ℕ) → List PlainTile → PlainFabric
fabric_with size types = record { types = types; columns = size + 2; rows = size; grid = flat_map (λ row. row) (replicate size (row_types size)); mode = modes.Frames }

pub record StandAll (fabric : PlainFabric) : Type 0 where
  pub types : standing_types fabric ≡ fabric.types
  pub kinds : used_kinds fabric ≡ Lut4c ∷ Io ∷ []

module _ (wests logics easts : List Pair) where
  abbrev types_of : List PlainTile
  types_of = tile_with west wests ∷ tile_with logic logics ∷ tile_with east easts ∷ []

  abbrev TypesStand : (size : ℕ) → Type 0
  TypesStand size = standing_types (fabric_with size types_of) ≡ types_of

  each_type : sizes.All TypesStand 2 15
  each_type = (refl, (refl, (refl, (refl, (refl, (refl, (refl, (refl, (refl, (refl, (refl, (refl, (refl, (refl, (refl, tt)))))))))))))))

  abbrev KindsStand : (size : ℕ) → Type 0
  KindsStand size = used_kinds (fabric_with size types_of) ≡ Lut4c ∷ Io ∷ []

  each_kind : sizes.All KindsStand 2 15
  each_kind = (refl, (refl, (refl, (refl, (refl, (refl, (refl, (refl, (refl, (refl, (refl, (refl, (refl, (refl, (refl, tt)))))))))))))))

  pub types_stand : (size : ℕ) (fabric : PlainFabric) → 2 ≤ size → size ≤ 16 → IsSampleFabric size fabric → fabric.types ≡ types_of →
      StandAll fabric
  types_stand size fabric least most is typed =
      let fabric_is : fabric ≡ fabric_with size types_of = λ j. record { types = typed j; columns = is.columns j; rows = is.rows j; grid = is.grid j; mode = is.mode j } in
      record {
        types = ap standing_types fabric_is ∙ sizes.one TypesStand 2 15 size least (omega (arith, most)) each_type ∙ sym typed;
        kinds = ap used_kinds fabric_is ∙ sizes.one KindsStand 2 15 size least (omega (arith, most)) each_kind;
      }

-- ---- the tiles are small

west_small : (pairs : List Pair) → IsSmallTile (tile_with west pairs)
west_small pairs = record { name = lit≤ tt; few_rows = lit≤ tt; rows = short_rows west.rows refl; few_bels = lit≤ tt }

logic_small : (pairs : List Pair) → IsSmallTile (tile_with logic pairs)
logic_small pairs = record { name = lit≤ tt; few_rows = lit≤ tt; rows = short_rows logic.rows refl; few_bels = lit≤ tt }

east_small : (pairs : List Pair) → IsSmallTile (tile_with east pairs)
east_small pairs = record { name = lit≤ tt; few_rows = lit≤ tt; rows = short_rows east.rows refl; few_bels = lit≤ tt }

pub types_small : (wests logics easts : List Pair) → All IsSmallTile (tile_with west wests ∷ tile_with logic logics ∷ tile_with east easts ∷ [])
types_small wests logics easts =
    All-from_recursion IsSmallTile (tile_with west wests ∷ tile_with logic logics ∷ tile_with east easts ∷ [])
    (west_small wests, (logic_small logics, (east_small easts, tt)))

-- ---- the loader

-- it has no instance, so what stands before it does not count
module _ (before : List PlainModule) where
  abbrev HasFew : (rows : ℕ) → Type 0
  HasFew rows = nat_le (below (loader_module rows ∷ before) loader_module_name) 10000 ≡ true

  each_has : sizes.All HasFew 2 15
  unfolding counted
  each_has = (refl, (refl, (refl, (refl, (refl, (refl, (refl, (refl, (refl, (refl, (refl, (refl, (refl, (refl, (refl, tt)))))))))))))))

  pub loader_has : (rows : ℕ) → 2 ≤ rows → rows ≤ 16 → HasFew rows
  loader_has rows least most = sizes.one HasFew 2 15 rows least (omega (arith, most)) each_has
