use Rattle.std.proofs.Common.{arith}
use Rattle.fab_annealing.proofs.Kept.{sum_low}
use Rattle.fab_annealing.proofs.axis.Axis.renew.Goals as goal

pub overflow_add-self : goal.overflow_add-self
overflow_add-self c = omega (arith, c.requires.summed, sum_low c.args.self.now.spans.items c.requires.low c.requires.few, c.width-2.ensures, c.requires.high)
