use Rattle.std.proofs.Common.{◌≡◌, ◌++◌, map, take}
use Rattle.std.specs.List.{flat_map}
use Rattle.fab_model.specs.Tiles.{row_wires, is_matrix_output}
use Rattle.fab_route.proofs.driven.mark_rows.Given as goal

abbrev pub invariant-loop-row : goal.invariant-loop-row
invariant-loop-row l = l.marks.items ≡ l.fn.marks.items ++ map is_matrix_output (flat_map row_wires (take l.row-index l.rows))
