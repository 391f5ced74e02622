use Rattle.std.proofs.Common.{◌≡◌, ◌++◌, map, take}
use Rattle.std.specs.List.{flat_map, enumerate_from}
use Rattle.fab_syntax.specs.Plain.{plain_join}
use Rattle.fab_text_loads_laws.specs.fab_fabric_text_defs_Top.{row_joins}
use Rattle.fab_gen_top.specs.inner.Standing.{placed_of}
use Rattle.fab_gen_top.proofs.joins.push_rows_joins.Given as goal

-- those so far
abbrev pub invariant-loop-number : goal.invariant-loop-number
invariant-loop-number l = map plain_join l.joins.items ≡ map plain_join l.initial.joins.items ++ flat_map (row_joins l.fabric (placed_of l.fabric l.place)) (enumerate_from 0 (take l.number l.rows))
