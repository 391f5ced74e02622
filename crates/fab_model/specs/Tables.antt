-- What the places of a tile's configuration bits have to be.
use Rattle.std.specs.Prelude.{◌≡◌, ◌≢◌, ◌<◌, All, AllPairs, length}
use Rattle.fab_model.specs.Tiles.{PlainTile, tile_bits}

-- each configuration bit of a tile has a place of its own: one of 32 bits in one of 20 frames
pub record HasTable (tile : PlainTile) : Type 0 where
  pub as_many : length tile.table ≡ tile_bits tile
  pub in_frames : All (λ place. (place.0 < 20) × (place.1 < 32)) tile.table
  pub apart : AllPairs (λ first second. first ≢ second) tile.table
