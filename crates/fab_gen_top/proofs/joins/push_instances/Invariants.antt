use Rattle.std.proofs.Common.{◌≡◌, ◌++◌, map, take}
use Rattle.fab_syntax.specs.Plain.{plain_item}
use Rattle.fab_text_loads_laws.specs.fab_fabric_text_defs_Top.{tile_instance}
use Rattle.fab_gen_top.specs.inner.Standing.{placed_of}
use Rattle.fab_gen_top.proofs.joins.push_instances.Given as goal

-- those so far
abbrev pub invariant-loop-number : goal.invariant-loop-number
invariant-loop-number l = map plain_item l.items.items ≡ map plain_item l.initial.items.items ++ map (tile_instance l.fabric) (map (placed_of l.fabric) (take l.number l.places))
