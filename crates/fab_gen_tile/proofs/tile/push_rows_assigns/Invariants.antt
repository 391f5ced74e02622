use Rattle.std.proofs.Common.{◌≡◌, ◌++◌, map, take}
use Rattle.std.specs.List.{flat_map}
use Rattle.fab_syntax.specs.Plain.{plain_item}
use Rattle.fab_gen_tile.specs.Borders.{row_assigns}
use Rattle.fab_gen_tile.proofs.tile.push_rows_assigns.Given as goal

-- the assigns so far are those of the rows so far
abbrev pub invariant-loop-row : goal.invariant-loop-row
invariant-loop-row l = map plain_item l.items.items ≡ map plain_item l.initial.items.items ++ flat_map row_assigns (take l.row-index l.rows)
