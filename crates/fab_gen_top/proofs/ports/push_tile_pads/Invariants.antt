use Rattle.std.proofs.Common.{◌≡◌, ◌++◌, take}
use Rattle.std.specs.List.{flat_map, enumerate_from}
use Rattle.fab_text_loads_laws.specs.fab_fabric_text_defs_Top.{pad_ports}
use Rattle.fab_gen_top.proofs.ports.push_tile_pads.Given as goal

-- those so far
abbrev pub invariant-loop-number : goal.invariant-loop-number
invariant-loop-number l = l.ports.items ≡ l.initial.ports.items ++ flat_map (pad_ports l.place.x l.place.y) (enumerate_from 0 (take l.number l.bels))
