-- The tiles of a fabric in its text stand at places of their own.
use Rattle.std.proofs.Common.{◌≡◌, ℕ, ◌<◌, sym, ap, arith, Some, All, AllPairs}
use Rattle.std.proofs.lemmas.List.Elements.{All-contains, All-weaker}
use Rattle.fab_model.specs.Tiles.{IsTile, counted}
use Rattle.fab_model.specs.Grid.{PlainFabric, tile_at}
use Rattle.fab_model.proofs.Steps.{map_gives}
use Rattle.fab_fabric.specs.Fabric.{IsFabric, AreTiles}
use Rattle.fab_drives_laws.specs.fab_fabric_text_defs_Places.{PlacedTile, placed_at, column_tiles, placed_tiles}
use Rattle.fab_drives_laws.proofs.Lists.{all_of, all_found}
use Rattle.fab_drives_laws.proofs.Modules.{tile_of_types}
use Rattle.fab_drives_laws.proofs.Places.{placed_tile, in_grid, IsThere, all_placed}
use Rattle.fab_tiles_sound_laws.proofs.fab_parts_sound_laws_Lists.{pairs_counted}
use Rattle.fab_text_sound_laws.proofs.Pairs.{Between, between, pairs_flat, pairs_found}

-- at another place
abbrev pub IsElsewhere : PlacedTile → PlacedTile → Type 0
IsElsewhere p q = p.x ≡ q.x → p.y ≡ q.y → ⊥

in_column : (fabric : PlainFabric) (x : ℕ) → All (λ p. p.x ≡ x) (column_tiles fabric x)
in_column fabric x =
    all_found (λ (p : PlacedTile). p.x ≡ x) (placed_at fabric x) (counted fabric.rows (λ y. y))
    (all_of (λ (y : ℕ). (p : PlacedTile) → placed_at fabric x y ≡ Some p → p.x ≡ x) (counted fabric.rows (λ y. y)) (λ y p is.
    let found = map_gives (placed_tile x y) (tile_at fabric x y) p is in
    sym (ap (λ (q : PlacedTile). q.x) found.2)))

pub placed_apart : (fabric : PlainFabric) → AllPairs IsElsewhere (placed_tiles fabric)
placed_apart fabric =
    pairs_flat IsElsewhere (column_tiles fabric) (counted fabric.columns (λ x. x))
    (all_of (λ (x : ℕ). AllPairs IsElsewhere (column_tiles fabric x)) (counted fabric.columns (λ x. x)) (λ x.
    pairs_found IsElsewhere (placed_at fabric x) (counted fabric.rows (λ y. y))
    (pairs_counted (λ (a b : ℕ). (p q : PlacedTile) → placed_at fabric x a ≡ Some p → placed_at fabric x b ≡ Some q → IsElsewhere p q) fabric.rows (λ y. y)
    (λ i j before few p q found_p found_q same_x same_y.
    let first = map_gives (placed_tile x i) (tile_at fabric x i) p found_p in
    let second = map_gives (placed_tile x j) (tile_at fabric x j) q found_q in
    let at_i : i ≡ p.y = ap (λ (r : PlacedTile). r.y) first.2 in
    let at_j : j ≡ q.y = ap (λ (r : PlacedTile). r.y) second.2 in
    omega (arith, before, at_i, at_j, same_y)))))
    (pairs_counted (λ (a b : ℕ). Between IsElsewhere (column_tiles fabric a) (column_tiles fabric b)) fabric.columns (λ x. x)
    (λ i j before few.
    between (λ (p : PlacedTile). p.x ≡ i) (λ (q : PlacedTile). q.x ≡ j) IsElsewhere (column_tiles fabric i) (column_tiles fabric j)
    (λ p q at_i at_j same_x same_y. omega (arith, before, at_i, at_j, same_x)) (in_column fabric i) (in_column fabric j)))

-- a tile of the fabric, at a place of the grid
pub record IsStanding (fabric : PlainFabric) (p : PlacedTile) : Type 0 where
  pub there : IsThere fabric p
  pub few_columns : p.x < fabric.columns
  pub few_rows : p.y < fabric.rows
  pub few_x : p.x < 32
  pub few_y : p.y < 32
  pub is_tile : IsTile p.tile

pub all_standing : (fabric : PlainFabric) → IsFabric fabric → AreTiles fabric → All (IsStanding fabric) (placed_tiles fabric)
all_standing fabric is are =
    All-weaker (IsThere fabric) (IsStanding fabric) (λ p there.
    let grid = in_grid fabric p.x p.y p.tile there in
    record {
      there = there;
      few_columns = grid.0;
      few_rows = grid.1;
      few_x = omega (arith, grid.0, is.few_columns);
      few_y = omega (arith, grid.1, is.few_rows);
      is_tile = All-contains IsTile fabric.types p.tile are (tile_of_types fabric p.x p.y p.tile there);
    }) (placed_tiles fabric) (all_placed fabric)
