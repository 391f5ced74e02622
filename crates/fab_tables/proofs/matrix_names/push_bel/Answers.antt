use Rattle.std.proofs.Common.{ap, ltb}
use Rattle.fab_model.specs.Tiles.{bel_pin, is_matrix_output}
use Rattle.fab_tables.proofs.Sides.{wires_none, wires_push}
use Rattle.fab_tables.proofs.matrix_names.push_bel.Goals as goal

pub loop-pin-init : goal.loop-pin-init
loop-pin-init c = wires_none is_matrix_output (bel_pin c.args.bel.now) c.args.sides.now.items

pub loop-pin-preserved : goal.loop-pin-preserved
loop-pin-preserved c =
    wires_push is_matrix_output (bel_pin c.args.bel.now) c.args.sides.now.items c.loop-pin.sides.items c.push.new.self.items c.loop-pin.pin _ c.loop-pin.invariant c.in_ok-push.ensures.items
    (ap (λ n. ltb c.loop-pin.pin n) c.inputs-inputs.ensures)
