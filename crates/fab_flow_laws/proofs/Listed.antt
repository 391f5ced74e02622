-- The configuration bits of a fabric as lists, and what one bitstream of two says.
use Rattle.std.proofs.Common.{◌≡◌, ℕ, ◌<◌, Bool, false, List, [], length, get_or, sym, ap, ◌∙◌, subst}
use Rattle.std.specs.Option.{option_map_or}
use Rattle.std.proofs.lemmas.Option.{get_or_from_slice_get}
use Rattle.fab_bits.specs.Bits.{first_bits}
use Rattle.fab_bits.proofs.Numbers.{get_first_bits, length_first_bits}
use Rattle.fab_model.specs.Tiles.{counted, tile_bits}
use Rattle.fab_model.specs.Grid.{PlainFabric}
use Rattle.fab_model.specs.Drive.{PlainBits}
use Rattle.fab_fabric.specs.Bits.{AreBitsOf, bits_at, column_bits, place_bits, plain_bits}
use Rattle.fab_fabric.specs.Fabric.{IsFabric}
use Rattle.fab_fabric.proofs.Numbered.{tile_within}
use Rattle.fab_frames.specs.Stream.{stream}
use Rattle.fab_frames.proofs.Lists.{get_counted, length_counted}
use Rattle.fab_frames.proofs.Streams.{bits_told}
use Rattle.fab_flow_laws.specs.BitsLaws.{HaveSameBits}
use Rattle.fab_flow_laws.proofs.Streams.{stream_same}

-- the bits of a place, of a column, and of all
place_list : PlainFabric → PlainBits → (x y : ℕ) → List Bool
place_list fabric bits x y = first_bits (bits_at fabric x y) (bits x y)

column_list : PlainFabric → PlainBits → (x : ℕ) → List (List Bool)
column_list fabric bits x = counted fabric.rows (place_list fabric bits x)

all_lists : PlainFabric → PlainBits → List (List (List Bool))
all_lists fabric bits = counted fabric.columns (column_list fabric bits)

module _ (fabric : PlainFabric) (bits : PlainBits) where
  column_is : (x : ℕ) → x < fabric.columns → column_bits (all_lists fabric bits) x ≡ column_list fabric bits x
  unfolding all_lists
  column_is x few = get_or_from_slice_get (all_lists fabric bits) x (column_list fabric bits x) [] (get_counted fabric.columns (column_list fabric bits) x few)

  place_is : (x y : ℕ) → x < fabric.columns → y < fabric.rows → place_bits (all_lists fabric bits) x y ≡ place_list fabric bits x y
  unfolding column_list
  place_is x y few low =
      ap (λ (column : List (List Bool)). get_or column y []) (column_is x few)
      ∙ get_or_from_slice_get (column_list fabric bits x) y (place_list fabric bits x y) [] (get_counted fabric.rows (place_list fabric bits x) y low)

  are_bits : AreBitsOf fabric (all_lists fabric bits)
  unfolding all_lists column_list place_list
  are_bits = record {
    columns = length_counted fabric.columns (column_list fabric bits);
    rows = λ x few. ap length (column_is x few) ∙ length_counted fabric.rows (place_list fabric bits x);
    tiles = λ x y few low. ap length (place_is x y few low) ∙ length_first_bits (bits_at fabric x y) (bits x y);
  }

  -- as lists they are the same bits
  listed_same : HaveSameBits fabric bits (plain_bits (all_lists fabric bits))
  unfolding place_list
  listed_same x y bit tile tile_is few =
      let within = tile_within fabric x y tile tile_is in
      let low : bit < bits_at fabric x y = subst (λ found. bit < option_map_or tile_bits found 0) (sym tile_is) few in
      sym (ap (λ (place : List Bool). get_or place bit false) (place_is x y within.0 within.1) ∙ get_first_bits (bits_at fabric x y) (bits x y) bit false low)

-- lists with the bitstream of bits have these bits
pub told_bits : (fabric : PlainFabric) (bits : PlainBits) (lists : List (List (List Bool))) → IsFabric fabric → AreBitsOf fabric lists →
    stream fabric bits ≡ stream fabric (plain_bits lists) → HaveSameBits fabric bits (plain_bits lists)
told_bits fabric bits lists is are same =
    let alike : all_lists fabric bits ≡ lists =
    bits_told fabric (all_lists fabric bits) lists is (are_bits fabric bits) are
    (sym (stream_same fabric is bits (plain_bits (all_lists fabric bits)) (listed_same fabric bits)) ∙ same) in
    subst (λ (l : List (List (List Bool))). HaveSameBits fabric bits (plain_bits l)) alike (listed_same fabric bits)
