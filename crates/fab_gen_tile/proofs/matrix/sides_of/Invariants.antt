use Rattle.std.proofs.Common.{◌≡◌, ◌<◌, ℕ, true, false, length, take, get_or, slice_get, Some}
use Rattle.fab_model.specs.Tiles.{TileWire, tile_wires, is_matrix_output}
use Rattle.fab_gen_tile.specs.TileModule.{side_names}
use Rattle.fab_gen_tile.specs.inner.Places.{place_on_side}
use Rattle.fab_gen_tile.proofs.matrix.sides_of.Given as goal

-- the names and the places of the wires so far
abbrev pub invariant-loop-number : goal.invariant-loop-number
invariant-loop-number l = record {
  inputs : l.inputs.items ≡ side_names false (take l.number (tile_wires l.tile));
  outputs : l.outputs.items ≡ side_names true (take l.number (tile_wires l.tile));
  as_many : length l.places.items ≡ l.number;
  each : (number : ℕ) (wire : TileWire) → number < l.number → slice_get (tile_wires l.tile) number ≡ Some wire →
      get_or l.places.items number 0 ≡ place_on_side (is_matrix_output wire) (tile_wires l.tile) number;
}
