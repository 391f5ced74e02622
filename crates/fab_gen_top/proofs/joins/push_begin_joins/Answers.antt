use Rattle.std.proofs.Common.{ℕ, ◌∙◌, ap, map}
use Rattle.std.proofs.lemmas.List.{map_push}
use Rattle.fab_syntax.specs.Plain.{PlainJoin, plain_join}
use Rattle.fab_gen_tile.specs.Names.{port_join, begin_name}
use Rattle.fab_text_loads_laws.specs.fab_fabric_text_defs_Names.{begin_wire_name}
use Rattle.fab_syntax.specs.Plain.{variable}
use Rattle.fab_gen_tile.proofs.Counted.{none_behind, items_more}
use Rattle.fab_gen_top.proofs.joins.push_begin_joins.Goals as goal

pub loop-bit-init : goal.loop-bit-init
loop-bit-init c = none_behind (map plain_join c.args.joins.now.items) (λ bit. port_join (begin_name c.args.row.now bit) (variable (begin_wire_name c.args.place.x c.args.place.y c.args.row.now bit)))

pub loop-bit-preserved : goal.loop-bit-preserved
loop-bit-preserved c =
    let f : ℕ → PlainJoin = λ bit. port_join (begin_name c.args.row.now bit) (variable (begin_wire_name c.args.place.x c.args.place.y c.args.row.now bit)) in
    ap (map plain_join) c.in_ok-push.ensures.items
    ∙ map_push plain_join c.loop-bit.joins.items _
    ∙ items_more c.loop-bit.bit f (map plain_join c.loop-bit.joins.items) (map plain_join c.args.joins.now.items) _ c.loop-bit.invariant
    (c.in_ok-port_join.ensures ∙ (λ j. port_join ((c.bytes.ensures ∙ c.in_ok-port.ensures) j) (variable (c.in_ok-wire.ensures j))))
