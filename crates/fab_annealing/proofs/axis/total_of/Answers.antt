use Rattle.std.proofs.Common.{◌≤◌, arith}
use Rattle.std.proofs.lemmas.List.Sums.{sum_by-take-le}
use Rattle.fab_annealing.specs.Measured.{no_span, width}
use Rattle.fab_annealing.proofs.Kept.{sum_low}
use Rattle.fab_annealing.proofs.axis.total_of.Goals as goal

pub overflow_add-total : goal.overflow_add-total
overflow_add-total c =
    let spans = c.args.spans.now in
    let one : c.width-total.result ≤ 31 = omega (arith, c.width-total.ensures, c.requires.low c.loop-span.span-index no_span c.loop-span-test.true) in
    omega (arith, one, c.loop-span.invariant, sum_by-take-le width spans c.loop-span.span-index, sum_low spans c.requires.low c.requires.few)
