-- A chain has no more bits than tiles can have places for them.
use Rattle.std.proofs.Common.{◌≡◌, ◌≢◌, ℕ, suc, ◌+◌, ◌*◌, ◌<◌, ◌≤◌, List, [], ◌∷◌, map, get_or, length, refl, sym, ap, arith, All, AllPairs, Option, Some, None, nat_eq}
use Rattle.std.specs.List.{cons_option, filter_map, flat_map}
use Rattle.std.proofs.lemmas.Bool.Decides.{Decides-eqb}
use Rattle.std.proofs.lemmas.List.{length-map, get_or-map}
use Rattle.std.proofs.lemmas.List.Concat.{length-flat_map}
use Rattle.std.proofs.lemmas.List.Elements.{All-contains, All-map, All-weaker}
use Rattle.std.proofs.lemmas.List.Folds.{Any-from_list_any}
use Rattle.std.proofs.lemmas.List.Sums.{sum_by-le}
use Rattle.std.proofs.lemmas.Map.Made.{IsDistinct-from_AllPairs}
use Rattle.std.proofs.lemmas.Map.Steps.{length-le_from_distinct_below}
use Rattle.fab_model.specs.Tables.{HasTable}
use Rattle.fab_model.specs.Tiles.{PlainTile, counted, tile_bits}
use Rattle.fab_model.specs.Grid.{PlainFabric}
use Rattle.fab_fabric.specs.Fabric.{IsFabric}
use Rattle.fab_fabric.specs.Places.{PlacedTile, column_tiles, placed_at, placed_tiles}
use Rattle.fab_frames.proofs.Lists.{length_counted}
use Rattle.fab_frames.specs.Positions.{bit_place, chain, tile_chain}
use Rattle.fab_points_laws.proofs.fab_drives_laws_Modules.{tile_of_types}
use Rattle.fab_points_laws.proofs.fab_drives_laws_Places.{IsThere, all_placed}

-- lists that are no longer than a bound, one behind the other
pub flat_within : {X Y : Type 0} (f : X → List Y) (bound : ℕ) (xs : List X) → All (λ x. length (f x) ≤ bound) xs → length (flat_map f xs) ≤ length xs * bound
flat_within f bound xs all = omega (arith, length-flat_map f xs, sum_by-le (λ x. length (f x)) bound xs all)

found_more : {Y : Type 0} (found : Option Y) (rest : List Y) (n : ℕ) → length rest ≤ n → length (cons_option found rest) ≤ suc n
found_more None rest n few = omega (arith, few)
found_more (Some y) rest n few = omega (arith, few)

found_within : {X Y : Type 0} (f : X → Option Y) (xs : List X) → length (filter_map f xs) ≤ length xs
found_within f [] = omega arith
found_within f (x ∷ xs) = found_more (f x) (filter_map f xs) (length xs) (found_within f xs)

-- ---- there are no more bits than places

abbrev place_number : ℕ × ℕ → ℕ
place_number place = place.0 * 32 + place.1

-- places apart have numbers apart
apart_numbers : (table : List (ℕ × ℕ)) → All (λ place. (place.0 < 20) × (place.1 < 32)) table → AllPairs (λ first second. first ≢ second) table →
    AllPairs (λ first second. first ≢ second) (map place_number table)
apart_numbers table inside apart i j d before within same =
    let long : length (map place_number table) ≡ length table = length-map table place_number in
    let a = get_or table i (0, 0) in
    let b = get_or table j (0, 0) in
    let a_is : get_or (map place_number table) i d ≡ place_number a = get_or-map place_number table i (0, 0) d (omega arith) in
    let b_is : get_or (map place_number table) j d ≡ place_number b = get_or-map place_number table j (0, 0) d (omega arith) in
    let a_in = inside i (0, 0) (omega arith) in
    let b_in = inside j (0, 0) (omega arith) in
    let frames : a.0 ≡ b.0 = omega (arith, a_in, b_in) in
    let bits : a.1 ≡ b.1 = omega (arith, a_in, b_in) in
    apart i j (0, 0) before (omega arith) (λ k. (frames k, bits k))

few_bits : (tile : PlainTile) → HasTable tile → tile_bits tile ≤ 640
few_bits tile has =
    let numbers = map place_number tile.table in
    let long : length numbers ≡ length tile.table = length-map tile.table place_number in
    let below : All (λ n. n < 640) numbers = All-map (λ n. n < 640) place_number tile.table (λ k d within. let one = has.in_frames k d within in omega (arith, one)) in
    let few : length numbers ≤ 640 =
    length-le_from_distinct_below numbers 640 (IsDistinct-from_AllPairs Decides-eqb numbers (apart_numbers tile.table has.in_frames has.apart))
    (λ q there.
    let found = Any-from_list_any (nat_eq q) numbers there in
    let same : q ≡ found.1 = (Decides-eqb q found.1).0 found.4 in
    let inside : found.1 < 640 = All-contains (λ n. n < 640) numbers found.1 below (found.0, found.2, found.3) in
    omega arith) in
    let as_many = has.as_many in
    omega (arith, few, long, as_many)

-- ---- the chain

module _ (fabric : PlainFabric) (is : IsFabric fabric) where
  column_few : (x : ℕ) → length (column_tiles fabric x) ≤ 31
  column_few x = omega (arith, found_within (placed_at fabric x) (counted fabric.rows (λ y. y)), length_counted fabric.rows (λ (y : ℕ). y), is.few_rows)

  tiles_few : length (placed_tiles fabric) ≤ 992
  tiles_few =
      omega (
        arith,
        flat_within (column_tiles fabric) 31 (counted fabric.columns (λ x. x)) (λ k d few. column_few _),
        length_counted fabric.columns (λ (x : ℕ). x),
        is.few_columns,
      )

  tile_few : All (λ placed. length (tile_chain placed) ≤ 640) (placed_tiles fabric)
  tile_few =
      All-weaker (IsThere fabric) (λ placed. length (tile_chain placed) ≤ 640) (λ placed there.
      omega (
        arith,
        length_counted (tile_bits placed.tile) (bit_place placed.x placed.y),
        few_bits placed.tile (All-contains HasTable fabric.types placed.tile is.tables (tile_of_types fabric placed.x placed.y placed.tile there)),
      )) (placed_tiles fabric) (all_placed fabric)

  pub chain_within : length (chain fabric) ≤ 634880
  chain_within = omega (arith, flat_within tile_chain 640 (placed_tiles fabric) tile_few, tiles_few)
