-- The tiles of a fabric in its text, each with the name of its place.
use Rattle.std.proofs.Common.{◌≡◌, ℕ, ◌<◌, ◌^◌, ◌&&◌, List, [], ◌∷◌, ◌++◌, refl, sym, ap, subst, ◌∙◌, arith, inl, inr, Some, None, All, Contains, nat_lt, decimal, append_assoc}
use Rattle.std.specs.Option.{option_map}
use Rattle.std.specs.Char.{digit_value}
use Rattle.std.specs.Str.Parse.{AllDigits}
use Rattle.std.proofs.lemmas.Bool.{cases_Bool, and_parts, ltb-true}
use Rattle.std.proofs.lemmas.Fmt.{decimal_is_IsNumeral, decimal_injective}
use Rattle.fab_fabric_text_defs.specs.fab_model_Tiles.{PlainTile, counted}
use Rattle.fab_fabric_text_defs.specs.fab_model_Grid.{PlainFabric, tile_at}
use Rattle.fab_fabric_text_defs.proofs.fab_model_Steps.{map_gives}
use Rattle.fab_fabric_text_defs.specs.fab_fabric_Names.{place_name}
use Rattle.fab_fabric_text_defs.specs.fab_fabric_Fabric.{IsFabric}
use Rattle.fab_fabric_text_defs.specs.Places.{PlacedTile, placed_at, column_tiles, placed_tiles}
use Rattle.fab_tile_drives_laws.proofs.Endings.{all_flat_map, all_counted}
use Rattle.fab_tile_drives_laws.proofs.Members.{contains_counted}
use Rattle.fab_drives_laws.proofs.Lists.{contains_flat, contains_found, all_found}

-- ---- names of places

-- digits end where another byte is
pub same_digits : (byte : ℕ) (digits others rest other : List ℕ) → (digit_value byte < 10 → ⊥) → AllDigits 10 digits → AllDigits 10 others →
    digits ++ byte ∷ rest ≡ others ++ byte ∷ other → (digits ≡ others) × (rest ≡ other)
same_digits byte [] [] rest other no_digit all all_others same = (refl, cc)
same_digits byte [] (d ∷ others) rest other no_digit all all_others same =
    let head : d ≡ byte = cc in absurd (no_digit (subst (λ c. digit_value c < 10) head all_others.0))
same_digits byte (c ∷ digits) [] rest other no_digit all all_others same =
    let head : c ≡ byte = cc in absurd (no_digit (subst (λ c. digit_value c < 10) head all.0))
same_digits byte (c ∷ digits) (d ∷ others) rest other no_digit all all_others same =
    let head : c ≡ d = cc in
    let tails : digits ++ byte ∷ rest ≡ others ++ byte ∷ other = cc in
    let behind = same_digits byte digits others rest other no_digit all.1 all_others.1 tails in
    ((λ j. head j ∷ behind.0 j), behind.1)

place_is : (x y : ℕ) → place_name x y ≡ 88 ∷ (decimal x ++ 89 ∷ decimal y)
place_is x y = search (append_assoc)

pub digits_of : (n : ℕ) → n < 2 ^ 64 → AllDigits 10 (decimal n)
digits_of n few = (decimal_is_IsNumeral n few).0.1

pub same_place : (x y x2 y2 : ℕ) → x < 32 → y < 32 → x2 < 32 → y2 < 32 → place_name x y ≡ place_name x2 y2 → (x ≡ x2) × (y ≡ y2)
same_place x y x2 y2 few_x few_y few_x2 few_y2 same =
    let whole : 88 ∷ (decimal x ++ 89 ∷ decimal y) ≡ 88 ∷ (decimal x2 ++ 89 ∷ decimal y2) = sym (place_is x y) ∙ same ∙ place_is x2 y2 in
    let behind : decimal x ++ 89 ∷ decimal y ≡ decimal x2 ++ 89 ∷ decimal y2 = cc in
    let parts = same_digits 89 (decimal x) (decimal x2) (decimal y) (decimal y2) (λ few. omega (arith, few)) (digits_of x (omega arith)) (digits_of x2 (omega arith)) behind in
    (decimal_injective x x2 (omega arith) (omega arith) parts.0, decimal_injective y y2 (omega arith) (omega arith) parts.1)

-- ---- tiles

-- a place with a tile is in the grid
pub in_grid : (fabric : PlainFabric) (x y : ℕ) (tile : PlainTile) → tile_at fabric x y ≡ Some tile → (x < fabric.columns) × (y < fabric.rows)
in_grid fabric x y tile is =
    elim (cases_Bool (nat_lt x fabric.columns && nat_lt y fabric.rows)) [
      | inl inside ↦ (
          let parts = and_parts (nat_lt x fabric.columns) (nat_lt y fabric.rows) inside in
          (ltb-true x fabric.columns parts.0, ltb-true y fabric.rows parts.1))
      | inr outside ↦ (let none : None ≡ Some tile = rw outside at is in absurd cc)
    ]

abbrev pub placed_tile : (x y : ℕ) → PlainTile → PlacedTile
placed_tile x y tile = record { x = x; y = y; tile = tile }

pub tile_is_placed : (fabric : PlainFabric) (x y : ℕ) (tile : PlainTile) → tile_at fabric x y ≡ Some tile → Contains (placed_tiles fabric) (placed_tile x y tile)
tile_is_placed fabric x y tile is =
    let grid = in_grid fabric x y tile is in
    contains_flat (column_tiles fabric) (counted fabric.columns (λ x. x)) x (placed_tile x y tile) (contains_counted fabric.columns (λ x. x) x grid.0)
    (contains_found (placed_at fabric x) (counted fabric.rows (λ y. y)) y (placed_tile x y tile) (contains_counted fabric.rows (λ y. y) y grid.1)
    (ap (option_map (placed_tile x y)) is))

-- what is placed stands there
abbrev pub IsThere : PlainFabric → PlacedTile → Type 0
IsThere fabric placed = tile_at fabric placed.x placed.y ≡ Some placed.tile

pub all_placed : (fabric : PlainFabric) → All (IsThere fabric) (placed_tiles fabric)
all_placed fabric =
    all_flat_map (IsThere fabric) (column_tiles fabric) (counted fabric.columns (λ x. x))
    (all_counted (λ (x : ℕ). All (IsThere fabric) (column_tiles fabric x)) fabric.columns (λ x. x) (λ x few.
    all_found (IsThere fabric) (placed_at fabric x) (counted fabric.rows (λ y. y))
    (all_counted (λ (y : ℕ). (placed : PlacedTile) → placed_at fabric x y ≡ Some placed → IsThere fabric placed) fabric.rows (λ y. y) (λ y few_rows placed is.
    let found = map_gives (placed_tile x y) (tile_at fabric x y) placed is in
    subst (IsThere fabric) found.2 found.1))))

-- the tile at a place is the only one whose place has its name
pub only_at_place : (fabric : PlainFabric) → IsFabric fabric → (x y : ℕ) (tile : PlainTile) → tile_at fabric x y ≡ Some tile → (other : PlacedTile) → IsThere fabric other →
    place_name other.x other.y ≡ place_name x y → other ≡ placed_tile x y tile
only_at_place fabric is x y tile there other other_there same =
    let grid = in_grid fabric x y tile there in
    let other_grid = in_grid fabric other.x other.y other.tile other_there in
    let few_columns = is.few_columns in
    let few_rows = is.few_rows in
    let at = same_place other.x other.y x y (omega (arith, other_grid.0)) (omega (arith, other_grid.1)) (omega (arith, grid.0)) (omega (arith, grid.1)) same in
    let tiles : Some other.tile ≡ Some tile = sym other_there ∙ (λ j. tile_at fabric (at.0 j) (at.1 j)) ∙ there in
    let same_tile : other.tile ≡ tile = cc in
    λ j. placed_tile (at.0 j) (at.1 j) (same_tile j)
