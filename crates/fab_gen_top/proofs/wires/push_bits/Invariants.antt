use Rattle.std.proofs.Common.{◌≡◌, ◌++◌, map}
use Rattle.fab_model.specs.Tiles.{counted}
use Rattle.fab_syntax.specs.Plain.{plain_item}
use Rattle.fab_syntax.specs.declared.tree.Shape.TheVariants.{Scalar}
use Rattle.fab_syntax.specs.Plain.{wire}
use Rattle.fab_text_loads_laws.specs.fab_fabric_text_defs_Names.{begin_wire_name}
use Rattle.fab_gen_top.proofs.wires.push_bits.Given as goal

-- those so far
abbrev pub invariant-loop-bit : goal.invariant-loop-bit
invariant-loop-bit l = map plain_item l.items.items ≡ map plain_item l.initial.items.items ++ counted l.bit (λ bit. wire Scalar (begin_wire_name l.place.x l.place.y l.row bit))
