use Rattle.std.proofs.Common.{◌≡◌, ◌++◌, map}
use Rattle.fab_model.specs.Tiles.{counted}
use Rattle.fab_syntax.specs.Plain.{plain_join}
use Rattle.fab_gen_tile.specs.Names.{port_join, end_name}
use Rattle.fab_text_loads_laws.specs.fab_fabric_text_defs_Top.{end_value}
use Rattle.fab_fabric.specs.Walks.{placed_at}
use Rattle.fab_gen_top.proofs.joins.push_end_joins.Given as goal

-- those so far
abbrev pub invariant-loop-bit : goal.invariant-loop-bit
invariant-loop-bit l = map plain_join l.joins.items ≡ map plain_join l.initial.joins.items ++ counted l.bit (λ bit. port_join (end_name l.row bit) (end_value (placed_at l.fabric l.previous) bit))
