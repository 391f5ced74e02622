use Rattle.std.proofs.Common.{◌≡◌, ◌++◌, map, take}
use Rattle.std.specs.List.{flat_map}
use Rattle.fab_syntax.specs.Plain.{plain_item}
use Rattle.fab_text_loads_laws.specs.fab_fabric_text_defs_Top.{tile_begin_wires}
use Rattle.fab_gen_top.specs.inner.Standing.{placed_of}
use Rattle.fab_gen_top.proofs.wires.push_begin_wires.Given as goal

-- those so far
abbrev pub invariant-loop-place : goal.invariant-loop-place
invariant-loop-place l = map plain_item l.items.items ≡ map plain_item l.initial.items.items ++ flat_map tile_begin_wires (map (placed_of l.fabric) (take l.place-index l.places))
