use Rattle.std.proofs.Common.{◌≡◌, ◌++◌, map, take}
use Rattle.std.specs.List.{flat_map}
use Rattle.fab_text_loads_laws.specs.fab_fabric_text_defs_Top.{tile_pads}
use Rattle.fab_gen_top.specs.inner.Standing.{placed_of}
use Rattle.fab_gen_top.proofs.ports.push_pads.Given as goal

-- those so far
abbrev pub invariant-loop-place : goal.invariant-loop-place
invariant-loop-place l = l.ports.items ≡ l.initial.ports.items ++ flat_map tile_pads (map (placed_of l.fabric) (take l.place-index l.places))
