use Rattle.std.proofs.Common.{◌≡◌, ◌++◌, map, take}
use Rattle.std.specs.List.{flat_map}
use Rattle.fab_syntax.specs.Plain.{plain_item}
use Rattle.fab_text_loads_laws.specs.fab_fabric_text_defs_Top.{row_begin_wires}
use Rattle.fab_gen_top.proofs.wires.push_tile_wires.Given as goal

-- those so far
abbrev pub invariant-loop-row : goal.invariant-loop-row
invariant-loop-row l = map plain_item l.items.items ≡ map plain_item l.initial.items.items ++ flat_map (row_begin_wires l.place.x l.place.y) (take l.row-index l.rows)
