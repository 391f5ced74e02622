use Rattle.std.proofs.Common.{arith}
use Rattle.fab_annealing.proofs.Foreseen.{least_reaches}
use Rattle.fab_annealing.proofs.axis.Span.least_width.Goals as goal

pub returns : goal.returns
returns c =
    least_reaches c.args.self c.args.from c.args.to c.end_after-low.result c.end_after-high.result c.saturating_add.result c.end_after-low.ensures
    c.end_after-high.ensures
    (omega (arith, c.saturating_add.ensures, c.saturating_sub.ensures, c.saturating_sub-2.ensures))
