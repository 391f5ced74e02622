use Rattle.std.proofs.Common.{ℕ, ◌∙◌, ap, map}
use Rattle.std.proofs.lemmas.List.{map_push}
use Rattle.fab_syntax.specs.Plain.{PlainItem, plain_item}
use Rattle.fab_syntax.specs.declared.tree.Shape.TheVariants.{Scalar}
use Rattle.fab_syntax.specs.Plain.{wire}
use Rattle.fab_text_loads_laws.specs.fab_fabric_text_defs_Names.{begin_wire_name}
use Rattle.fab_gen_tile.proofs.Counted.{none_behind, items_more}
use Rattle.fab_gen_top.proofs.wires.push_bits.Goals as goal

pub loop-bit-init : goal.loop-bit-init
loop-bit-init c = none_behind (map plain_item c.args.items.now.items) (λ bit. wire Scalar (begin_wire_name c.args.place.x c.args.place.y c.args.row.now bit))

pub loop-bit-preserved : goal.loop-bit-preserved
loop-bit-preserved c =
    let f : ℕ → PlainItem = λ bit. wire Scalar (begin_wire_name c.args.place.x c.args.place.y c.args.row.now bit) in
    ap (map plain_item) c.in_ok-push.ensures.items
    ∙ map_push plain_item c.loop-bit.items.items _
    ∙ items_more c.loop-bit.bit f (map plain_item c.loop-bit.items.items) (map plain_item c.args.items.now.items) _ c.loop-bit.invariant
    (ap (wire Scalar) c.in_ok-name.ensures)
