use Rattle.std.proofs.Common.{arith}
use Rattle.fab_sim.proofs.stepper.Stepper.points.Goals as goal

pub overflow_cast-result : goal.overflow_cast-result
overflow_cast-result c = omega (arith, c.len.ensures, c.requires.4.order_long, c.requires.4.network.few)

pub returns : goal.returns
returns c text state draws moment stands = omega (arith, c.len.ensures, stands.order_long)
