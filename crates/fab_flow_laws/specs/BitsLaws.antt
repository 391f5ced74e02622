-- The bit map of a list of features, and the features that bits spell.
use Rattle.std.specs.Prelude.{◌≡◌, ◌≢◌, ◌<◌, ◌⊎◌, ℕ, ◌+◌, All, AllPairs, List, length, slice_get, Some}
use Rattle.fab_kinds.specs.Pins.{bit_count}
use Rattle.fab_model.specs.declared.tiles.Bel.{Bel}
use Rattle.fab_model.specs.Tiles.{PlainTile, bits_before, numbered_pairs, tile_bits}
use Rattle.fab_model.specs.Grid.{PlainFabric, tile_at}
use Rattle.fab_model.specs.Wires.{PlainWire}
use Rattle.fab_model.specs.Drive.{PlainBits, drive, matrix_inputs, select_value}
use Rattle.fab_fabric.specs.Fabric.{AreTiles, IsFabric}
use Rattle.fab_netlist.specs.Packed.{PlainPacked}
use Rattle.fab_implementation.specs.Plain.{Pad, PlainImplementation}
use Rattle.fab_legal.specs.Legal.{IsLegal}
use Rattle.fab_legal.specs.Turns.{AreRight}
use Rattle.fab_fasm.specs.declared.feature.Feature.{Feature}
use Rattle.fab_use_defs.specs.fab_gen_tile_Words.{IsNamed}
use Rattle.fab_features.specs.Design.{design_features}
use Rattle.fab_features.specs.Features.{IsBitMapOf}
use Rattle.fab_features.specs.Naming.{HasPrefixes}
use Rattle.fab_features.specs.Spelled.{features_in}
use Rattle.fab_features.specs.Wrong.{IsRightFeature}

-- ---- the bit map of a list of features

-- each configuration bit of each place has the same value in both
abbrev pub HaveSameBits : PlainFabric → (first second : PlainBits) → Type 0
HaveSameBits fabric first second =
    (x y bit : ℕ) (tile : PlainTile) → tile_at fabric x y ≡ Some tile → bit < tile_bits tile → first x y bit ≡ second x y bit

-- a list of features has at most one bit map
abbrev pub BitMapsAreOne : Type 0
BitMapsAreOne =
    (fabric : PlainFabric) (features : List Feature) (first second : PlainBits) → IsBitMapOf fabric features first → IsBitMapOf fabric features second →
    HaveSameBits fabric first second

-- ---- the features that bits spell

-- the bits of each BEL are the same in both, and each wire has the same driver
pub record DriveAlike (fabric : PlainFabric) (first second : PlainBits) : Type 0 where
  pub bels : (x y bel bit : ℕ) (tile : PlainTile) (found : Bel) → tile_at fabric x y ≡ Some tile → slice_get tile.bels bel ≡ Some found →
      bit < bit_count found.kind → first x y (bits_before tile.bels bel + bit) ≡ second x y (bits_before tile.bels bel + bit)
  pub wires : (x y : ℕ) (wire : PlainWire) → drive fabric first x y wire ≡ drive fabric second x y wire

-- The select value of each output is the place of one of its inputs. Without inputs it is 0, as there are no select bits.
abbrev pub SelectsInputs : PlainFabric → PlainBits → Type 0
SelectsInputs fabric bits =
    (x y output : ℕ) (tile : PlainTile) → tile_at fabric x y ≡ Some tile →
    (select_value tile (bits x y) output ≡ 0) ⊎ (select_value tile (bits x y) output < length (matrix_inputs tile output))

-- by a bit map each output selects one of its inputs, or has the value 0
abbrev pub BitMapsSelectInputs : Type 0
BitMapsSelectInputs = (fabric : PlainFabric) (features : List Feature) (bits : PlainBits) → IsBitMapOf fabric features bits → SelectsInputs fabric bits

-- no pair of the tile's switch matrix stands twice
abbrev pub PairsStandOnce : PlainTile → Type 0
PairsStandOnce tile = AllPairs (λ first second. first ≢ second) (numbered_pairs tile)

-- The features that bits spell are right, and by their bit map all is driven as by these bits. Their bit map is these bits, where no pair stands twice
-- and no select value is outside the pairs of its output.
pub record AreSaid (fabric : PlainFabric) (bits : PlainBits) : Type 0 where
  pub right : AreRight (IsRightFeature fabric) (features_in fabric bits)
  pub alike : (back : PlainBits) → IsBitMapOf fabric (features_in fabric bits) back → DriveAlike fabric bits back
  pub same : All PairsStandOnce fabric.types → SelectsInputs fabric bits → IsBitMapOf fabric (features_in fabric bits) bits

abbrev pub SpelledBitsAreSaid : Type 0
SpelledBitsAreSaid =
    (fabric : PlainFabric) → IsFabric fabric → AreTiles fabric → All IsNamed fabric.types → All HasPrefixes fabric.types →
    (bits : PlainBits) → AreSaid fabric bits

-- ---- the features of a design

-- the features of a legal implementation are right
abbrev pub DesignFeaturesAreRight : Type 0
DesignFeaturesAreRight =
    (fabric : PlainFabric) → IsFabric fabric → AreTiles fabric → All IsNamed fabric.types → All HasPrefixes fabric.types →
    (packed : PlainPacked) (fixed : List Pad) (implementation : PlainImplementation) → IsLegal fabric packed fixed implementation →
    AreRight (IsRightFeature fabric) (design_features fabric packed implementation)
