use Rattle.std.proofs.Common.{◌≡◌, ◌++◌, map}
use Rattle.fab_model.specs.Tiles.{counted}
use Rattle.fab_syntax.specs.Plain.{plain_item}
use Rattle.fab_text_loads_laws.specs.fab_fabric_text_defs_Top.{column_strobes}
use Rattle.fab_gen_top.proofs.wires.push_strobes.Given as goal

-- those so far
abbrev pub invariant-loop-x : goal.invariant-loop-x
invariant-loop-x l = map plain_item l.items.items ≡ map plain_item l.initial.items.items ++ counted l.x (column_strobes)
