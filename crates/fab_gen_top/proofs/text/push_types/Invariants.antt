use Rattle.std.proofs.Common.{◌≡◌, ◌++◌, map, take}
use Rattle.std.specs.List.{flat_map}
use Rattle.fab_syntax.specs.Plain.{plain_module}
use Rattle.fab_text_loads_laws.specs.fab_fabric_text_defs_Mode.{text_mode}
use Rattle.fab_text_loads_laws.specs.fab_fabric_text_defs_Text.{tile_modules}
use Rattle.fab_gen_top.specs.inner.Standing.{type_of}
use Rattle.fab_gen_top.proofs.text.push_types.Given as goal

-- those so far
abbrev pub invariant-loop-number : goal.invariant-loop-number
invariant-loop-number l = map plain_module l.modules.items ≡ map plain_module l.initial.modules.items ++ flat_map (tile_modules (text_mode l.fabric)) (map (type_of l.fabric) (take l.number-index l.numbers))
