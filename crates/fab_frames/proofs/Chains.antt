-- The positions of configuration bits in a chain.
use Rattle.std.proofs.Common.{◌≡◌, ℕ, ◌+◌, ◌<◌, List, [], ◌∷◌, ◌++◌, Option, Some, None, slice_get, refl, sym, ap, ap₂, ◌∙◌, subst}
use Rattle.std.specs.List.{flat_map, filter_map, cons_option}
use Rattle.std.specs.Option.{option_map, option_map_or}
use Rattle.std.proofs.lemmas.List.Concat.{flat_map-append}
use Rattle.fab_model.specs.Tiles.{PlainTile, tile_bits, counted}
use Rattle.fab_model.specs.Grid.{PlainFabric, tile_at}
use Rattle.fab_fabric.specs.Bits.{bits_at}
use Rattle.fab_fabric.specs.Places.{PlacedTile, placed_at, column_tiles}
use Rattle.fab_frames.specs.Positions.{bit_place, tile_chain, chain}
use Rattle.fab_frames.specs.inner.Placing.{place_chain, column_chain}
use Rattle.fab_frames.specs.declared.positions.BitPlace.{BitPlace}
use Rattle.fab_frames.proofs.Lists.{no_counted, get_counted, counted_item, before_piece, get_in_piece, of_piece}

-- ---- place by place

-- an empty place has no bits
of_place : (x y : ℕ) (found : Option PlainTile) (tiles : List PlacedTile) (rest : List BitPlace) → flat_map tile_chain tiles ≡ rest →
    flat_map tile_chain (cons_option (option_map (λ (tile : PlainTile). record { x = x; y = y; tile = tile }) found) tiles) ≡ counted (option_map_or tile_bits found 0) (bit_place x y) ++ rest
of_place x y None tiles rest is = is ∙ ap (λ front. front ++ rest) (sym (no_counted (bit_place x y)))
of_place x y (Some tile) tiles rest is = ap (λ behind. tile_chain (record { x = x; y = y; tile = tile }) ++ behind) is

of_column : (fabric : PlainFabric) (x : ℕ) (ys : List ℕ) → flat_map tile_chain (filter_map (placed_at fabric x) ys) ≡ flat_map (place_chain fabric x) ys
of_column fabric x [] = refl
of_column fabric x (y ∷ ys) = of_place x y (tile_at fabric x y) (filter_map (placed_at fabric x) ys) (flat_map (place_chain fabric x) ys) (of_column fabric x ys)

of_columns : (fabric : PlainFabric) (xs : List ℕ) → flat_map tile_chain (flat_map (column_tiles fabric) xs) ≡ flat_map (column_chain fabric) xs
of_columns fabric [] = refl
of_columns fabric (x ∷ xs) =
    flat_map-append tile_chain (column_tiles fabric x) (flat_map (column_tiles fabric) xs)
    ∙ ap₂ (λ front back. front ++ back) (of_column fabric x (counted fabric.rows (λ y. y))) (of_columns fabric xs)

pub chain_is : (fabric : PlainFabric) → chain fabric ≡ flat_map (column_chain fabric) (counted fabric.columns (λ x. x))
chain_is fabric = of_columns fabric (counted fabric.columns (λ x. x))

-- ---- positions

abbrev pub position_of : PlainFabric → BitPlace → ℕ
position_of fabric at = before_piece (column_chain fabric) at.x + (before_piece (place_chain fabric at.x) at.y + at.bit)

-- a configuration bit of the fabric
pub record IsBitOf (fabric : PlainFabric) (at : BitPlace) : Type 0 where
  pub column : at.x < fabric.columns
  pub row : at.y < fabric.rows
  pub number : at.bit < bits_at fabric at.x at.y

-- each stands at its position
pub stands_at_position : (fabric : PlainFabric) (at : BitPlace) → IsBitOf fabric at → slice_get (chain fabric) (position_of fabric at) ≡ Some at
stands_at_position fabric at is =
    let k : ℕ = before_piece (place_chain fabric at.x) at.y + at.bit in
    let place : slice_get (place_chain fabric at.x at.y) at.bit ≡ Some at = get_counted (bits_at fabric at.x at.y) (bit_place at.x at.y) at.bit is.number in
    let column : slice_get (column_chain fabric at.x) k ≡ Some at = get_in_piece (place_chain fabric at.x) fabric.rows at.y at.bit at is.row place in
    ap (λ places. slice_get places (position_of fabric at)) (chain_is fabric) ∙ get_in_piece (column_chain fabric) fabric.columns at.x k at is.column column

pub record IsAtPosition (fabric : PlainFabric) (k : ℕ) (at : BitPlace) : Type 0 where
  pub is : IsBitOf fabric at
  pub position : k ≡ position_of fabric at

-- and no other stands there
pub position_found : (fabric : PlainFabric) (k : ℕ) (at : BitPlace) → slice_get (chain fabric) k ≡ Some at → IsAtPosition fabric k at
position_found fabric k at there =
    let column = of_piece (column_chain fabric) fabric.columns k at (ap (λ places. slice_get places k) (sym (chain_is fabric)) ∙ there) in
    let row = of_piece (place_chain fabric column.i) fabric.rows column.j at column.item in
    let found = counted_item (bits_at fabric column.i row.i) (bit_place column.i row.i) row.j at row.item in
    let made : IsAtPosition fabric k (bit_place column.i row.i row.j) = record {
      is = record {
        column = column.few;
        row = row.few;
        number = found.0;
      };
      position = column.at ∙ ap (λ j. before_piece (column_chain fabric) column.i + j) row.at;
    } in
    subst (IsAtPosition fabric k) found.1 made
