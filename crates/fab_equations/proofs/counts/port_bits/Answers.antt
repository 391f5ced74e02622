use Rattle.std.proofs.Common.{◌∙◌}
use Rattle.fab_equations.proofs.Counted.{ports_push}
use Rattle.fab_equations.proofs.counts.port_bits.Goals as goal

pub loop-port-preserved : goal.loop-port-preserved
loop-port-preserved c =
    c.saturating_add-bits.ensures
    ∙ ports_push c.args.ports.now c.loop-port.port-index c.port-item.result c.loop-port.bits c.from.result c.loop-port-test.true c.port-item.is
    c.loop-port.invariant (c.from.ensures ∙ c.bits_of_shape.ensures)
