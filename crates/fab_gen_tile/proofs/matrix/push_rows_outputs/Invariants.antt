use Rattle.std.proofs.Common.{◌≡◌, ◌++◌, map, take}
use Rattle.std.specs.List.{flat_map}
use Rattle.fab_model.specs.Tiles.{row_wires, is_matrix_output}
use Rattle.fab_gen_tile.proofs.matrix.push_rows_outputs.Given as goal

-- those of the rows so far
abbrev pub invariant-loop-row : goal.invariant-loop-row
invariant-loop-row l = l.outputs.items ≡ l.initial.outputs.items ++ map is_matrix_output (flat_map row_wires (take l.row-index l.rows))
