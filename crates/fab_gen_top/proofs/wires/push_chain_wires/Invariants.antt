use Rattle.std.proofs.Common.{◌≡◌, ◌++◌, map, take}
use Rattle.fab_syntax.specs.declared.tree.Shape.TheVariants as shapes
use Rattle.fab_syntax.specs.Plain.{plain_item, wire}
use Rattle.fab_text_loads_laws.specs.fab_fabric_text_defs_Names.{chain_wire_name}
use Rattle.fab_gen_top.proofs.wires.push_chain_wires.Given as goal

-- those so far
abbrev pub invariant-loop-place : goal.invariant-loop-place
invariant-loop-place l = map plain_item l.items.items ≡ map plain_item l.initial.items.items ++ map (λ place. wire shapes.Scalar (chain_wire_name place.x place.y)) (take l.place-index l.places)
