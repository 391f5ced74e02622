use Rattle.std.proofs.Common.{◌≡◌, ◌++◌, map, take}
use Rattle.std.specs.List.{flat_map}
use Rattle.fab_syntax.specs.Plain.{plain_join}
use Rattle.fab_model.specs.Tiles.{row_wires}
use Rattle.fab_gen_tile.specs.Names.{same_join}
use Rattle.fab_gen_tile.specs.TileModule.{side_names}
use Rattle.fab_gen_tile.proofs.joins.push_rows_side.Given as goal

-- the joins so far are those of the rows so far
abbrev pub invariant-loop-row : goal.invariant-loop-row
invariant-loop-row l = map plain_join l.joins.items ≡ map plain_join l.initial.joins.items ++ map same_join (side_names l.output (flat_map row_wires (take l.row-index l.rows)))
