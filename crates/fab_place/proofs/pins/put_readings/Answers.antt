use Rattle.std.proofs.Common.{rules, ◌≡◌, ◌++◌, ℕ, List, sym, ◌∙◌, ap}
use Rattle.std.proofs.lemmas.List.{append-nil}
use Rattle.std.specs.List.{flat_map}
use Rattle.fab_netlist.specs.declared.net_id.NetId.{NetId}
use Rattle.fab_netlist.specs.Packed.{PlainCell}
use Rattle.fab_place.specs.Pins.{pin_on}
use Rattle.fab_place.proofs.Listed.{numbered_behind}
use Rattle.fab_place.proofs.pins.put_readings.Goals as goal

pub loop-item-init : goal.loop-item-init
loop-item-init c = sym (append-nil c.args.made.now.items)

pub loop-item-preserved : goal.loop-item-preserved
loop-item-preserved c =
    let seen : c.cell.inside.inputs.items ≡ c.index-cells-item.result.inputs = search rules in
    let g = λ (cell : ℕ × PlainCell). flat_map (pin_on c.args.inputs cell.0) cell.1.inputs in
    numbered_behind c.args.made.now.items c.loop-item.made.items c.put_pins.new.made.items g c.args.cells.now c.loop-item.item c.index-cells-item.result c.loop-item-test.true c.loop-item.invariant
    (c.in_ok-put_pins.ensures ∙ ap (λ (nets : List NetId). c.loop-item.made.items ++ flat_map (pin_on c.args.inputs c.loop-item.item) nets) (c.deref.ensures.value ∙ seen) ∙ ap (λ (cell : PlainCell). c.loop-item.made.items ++ g (c.loop-item.item, cell)) c.index-cells-item.is)
