use Rattle.std.proofs.Common.{◌≡◌, ◌++◌, map}
use Rattle.fab_model.specs.Tiles.{counted}
use Rattle.fab_syntax.specs.Plain.{plain_join}
use Rattle.fab_gen_tile.specs.Names.{port_join, begin_name}
use Rattle.fab_text_loads_laws.specs.fab_fabric_text_defs_Names.{begin_wire_name}
use Rattle.fab_syntax.specs.Plain.{variable}
use Rattle.fab_gen_top.proofs.joins.push_begin_joins.Given as goal

-- those so far
abbrev pub invariant-loop-bit : goal.invariant-loop-bit
invariant-loop-bit l = map plain_join l.joins.items ≡ map plain_join l.initial.joins.items ++ counted l.bit (λ bit. port_join (begin_name l.row bit) (variable (begin_wire_name l.place.x l.place.y l.row bit)))
