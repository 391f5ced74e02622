-- The module of a tile's switch matrix: all matrix inputs and outputs of the tile in the order of their numbers, and its pairs.
use Rattle.std.specs.Prelude.{ℕ, List, map, filter, nat_eq}
use Rattle.std.specs.List.{enumerate_from}
use Rattle.fab_syntax.specs.Plain.{PlainModule}
use Rattle.fab_matrix.specs.Matrix.{matrix, named}
use Rattle.fab_model.specs.Tiles.{PlainTile, tile_wires, wire_name, matrix_names, is_matrix_output}
use Rattle.fab_gen_tile.specs.Names.{matrix_module_name}
use Rattle.fab_gen_tile.specs.TileModule.{matrix_input_names}

-- the outputs of the matrix, each with the number and the name of its wire
abbrev pub numbered_outputs : PlainTile → List (ℕ × List ℕ)
numbered_outputs tile =
    map (λ placed. (placed.0, wire_name placed.1)) (filter (λ placed. is_matrix_output placed.1) (enumerate_from 0 (tile_wires tile)))

-- the pairs, each by the number of its output and the name of its input
abbrev pub named_pairs : PlainTile → List (ℕ × List ℕ)
named_pairs tile = named (matrix_names tile) tile.pairs

-- It is written where the tile has a matrix output.
abbrev pub matrix_module : PlainTile → PlainModule
matrix_module tile = matrix nat_eq (matrix_module_name tile) (matrix_input_names tile) (numbered_outputs tile) (named_pairs tile)
