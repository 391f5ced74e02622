use Rattle.std.proofs.Common.{◌≡◌, ◌+◌, ◌<◌, ◌++◌, length, get_or, ◌∷◌, [], map, take, ap, sym, subst, ◌∙◌}
use Rattle.std.proofs.lemmas.List.{map-append}
use Rattle.fab_syntax.specs.Plain.{plain_item}
use Rattle.fab_values.specs.Declarations.{port_declaration, bits_of}
use Rattle.fab_equations.specs.Instances.{in_64_bits}
use Rattle.fab_equations.specs.Counting.{count_of_module}
use Rattle.fab_equations.proofs.Counted.{counted_ports, module_push, take_next}
use Rattle.fab_equations.proofs.counts.module_count.Goals as goal

pub loop-item-init : goal.loop-item-init
loop-item-init c before are = counted_ports before c.args.definition.now.name c.args.definition.now.ports.items c.port_bits.result
    (c.port_bits.ensures ∙ ap (λ ports. in_64_bits (bits_of (map port_declaration ports))) c.deref.ensures.value)

pub loop-item-preserved : goal.loop-item-preserved
loop-item-preserved c before are =
    let m = c.args.definition.now in
    let i = c.loop-item.item-index in
    let value = c.deref-item-items.ensures.value in
    let parted : map plain_item (take (i + 1) m.items.items) ≡ map plain_item (take i m.items.items) ++ plain_item c.item-item.result ∷ [] =
    ap (map plain_item) (take_next m.items.items i c.item-item.result
    (subst (λ items. i < length items) value c.loop-item-test.true) (subst (λ items. c.item-item.result ≡ get_or items i c.item-item.result) value c.item-item.is))
    ∙ map-append plain_item (take i m.items.items) (c.item-item.result ∷ []) in
    c.plus-count.ensures
    ∙ module_push before m.name m.ports.items (map plain_item (take i m.items.items)) (plain_item c.item-item.result) c.loop-item.count c.item_count.result
    (c.loop-item.invariant before are) (c.item_count.ensures before are)
    ∙ ap (λ items. count_of_module before (record { name = m.name; ports = m.ports.items; items = items })) (sym parted)
