use Rattle.std.proofs.Common.{◌+◌, ◌++◌, ℕ, List, sym, ◌∙◌, ap}
use Rattle.std.proofs.lemmas.List.{append-nil}
use Rattle.fab_netlist.specs.declared.net_id.NetId.{NetId}
use Rattle.fab_place.specs.Pins.{pin_on}
use Rattle.fab_place.proofs.Listed.{numbered_behind}
use Rattle.fab_place.proofs.pins.put_outputs.Goals as goal

pub loop-number-init : goal.loop-number-init
loop-number-init c = sym (append-nil c.args.made.now.items)

pub loop-number-preserved : goal.loop-number-preserved
loop-number-preserved c =
    let g = λ (output : ℕ × (List ℕ × NetId)). pin_on c.args.inputs (c.args.ports + output.0) output.1.1 in
    numbered_behind c.args.made.now.items c.loop-number.made.items c.put_pin.new.made.items g c.args.outputs.now c.loop-number.number c.index-outputs-number.result c.loop-number-test.true c.loop-number.invariant
    (c.in_ok-put_pin.ensures ∙ ap (λ (output : List ℕ × NetId). c.loop-number.made.items ++ g (c.loop-number.number, output)) c.index-outputs-number.is)
