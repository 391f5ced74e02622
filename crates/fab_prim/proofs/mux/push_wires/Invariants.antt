use Rattle.std.proofs.Common.{◌≡◌, ◌++◌, map, take}
use Rattle.fab_syntax.specs.Plain.{plain_item}
use Rattle.fab_prim.specs.Modules.{mux_wire_items}
use Rattle.fab_prim.proofs.mux.push_wires.Given as goal

-- the wires so far
abbrev pub invariant-loop-name : goal.invariant-loop-name
invariant-loop-name l = map plain_item l.items.items ≡ map plain_item l.initial.items.items ++ take l.name-index mux_wire_items
