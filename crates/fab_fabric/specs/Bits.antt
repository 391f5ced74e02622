-- The configuration bits of a fabric, as lists of lists: column by column, in a column from the top, and in a tile by number.
use Rattle.std.specs.Prelude.{◌≡◌, ◌<◌, ℕ, Bool, false, List, [], length, map, slice_index_or, Vec}
use Rattle.std.specs.Option.{option_map_or}
use Rattle.fab_model.specs.Tiles.{tile_bits}
use Rattle.fab_model.specs.Grid.{PlainFabric, tile_at}
use Rattle.fab_model.specs.Drive.{PlainBits}

-- the bits of the tiles of a column, and those of the tile at a place
abbrev pub column_bits : List (List (List Bool)) → (x : ℕ) → List (List Bool)
column_bits bits x = slice_index_or bits x []

abbrev pub place_bits : List (List (List Bool)) → (x y : ℕ) → List Bool
place_bits bits x y = slice_index_or (column_bits bits x) y []

abbrev pub plain_bits : List (List (List Bool)) → PlainBits
plain_bits bits x y bit = slice_index_or (place_bits bits x y) bit false

-- how many configuration bits the place has
abbrev pub bits_at : PlainFabric → (x y : ℕ) → ℕ
bits_at fabric x y = option_map_or tile_bits (tile_at fabric x y) 0

-- these are bits of the fabric: as many for each place as it has
pub record AreBitsOf (fabric : PlainFabric) (bits : List (List (List Bool))) : Type 0 where
  pub columns : length bits ≡ fabric.columns
  pub rows : (x : ℕ) → x < fabric.columns → length (column_bits bits x) ≡ fabric.rows
  pub tiles : (x y : ℕ) → x < fabric.columns → y < fabric.rows → length (place_bits bits x y) ≡ bits_at fabric x y

-- there is a bit of this number at the place
pub record HasBit (bits : List (List (List Bool))) (x y bit : ℕ) : Type 0 where
  pub column : x < length bits
  pub row : y < length (column_bits bits x)
  pub number : bit < length (place_bits bits x y)

-- other bits are as before: those of another place, and those of another number
pub record SetsBit (old new : List (List (List Bool))) (x y bit : ℕ) (value : Bool) : Type 0 where
  pub same_columns : length new ≡ length old
  pub same_rows : (x2 : ℕ) → length (column_bits new x2) ≡ length (column_bits old x2)
  pub same_tiles : (x2 y2 : ℕ) → length (place_bits new x2 y2) ≡ length (place_bits old x2 y2)
  pub set : plain_bits new x y bit ≡ value
  pub kept : (x2 y2 bit2 : ℕ) → (x2 ≡ x → y2 ≡ y → bit2 ≡ bit → ⊥) → plain_bits new x2 y2 bit2 ≡ plain_bits old x2 y2 bit2

-- ---- as they are kept

abbrev pub bits_of_column : {A : Type 0} → List (Vec Bool A) → List (List Bool)
bits_of_column column = map (λ tile. tile.items) column

abbrev pub bits_of_columns : {A B : Type 0} → List (Vec (Vec Bool A) B) → List (List (List Bool))
bits_of_columns columns = map (λ column. bits_of_column column.items) columns

-- the bits of the tiles of a column, as many for each as it has, all false
pub record AreBlank (fabric : PlainFabric) (x : ℕ) {A : Type 0} (column : List (Vec Bool A)) : Type 0 where
  pub rows : length column ≡ fabric.rows
  pub tiles : (y : ℕ) → y < fabric.rows → length (slice_index_or (bits_of_column column) y []) ≡ bits_at fabric x y
  pub blank : (y bit : ℕ) → slice_index_or (slice_index_or (bits_of_column column) y []) bit false ≡ false
