use Rattle.std.proofs.Common.{List, sym, subst}
use Rattle.fab_timing.specs.Walks.{Stop}
use Rattle.fab_timing.specs.inner.Design.{IsPathTo, trail, nothing}
use Rattle.fab_timing.specs.inner.Tables.{IsLatestEnd, plain_steps, sum_at}
use Rattle.fab_timing.proofs.Trails.{summed_inside}
use Rattle.fab_timing.proofs.timing.longest_in.Goals as goal

pub trace-requires-clause-within : goal.trace-requires-clause-within
trace-requires-clause-within c =
    let greatest = subst (IsLatestEnd c.args.ends.now (sum_at c.args.sums.now)) c.in-Some.is c.latest_end.ensures in
    summed_inside c.args.sums.now c.in-Some.end greatest.0.sum greatest.0.comes

pub returns-in-None-clause-path : goal.returns-in-None-clause-path
returns-in-None-clause-path c =
    let none = subst (IsLatestEnd c.args.ends.now (sum_at c.args.sums.now)) c.in-None.is c.latest_end.ensures in
    subst (λ (stops : List Stop). IsPathTo (plain_steps c.args.steps.now) c.args.ends.now (sum_at c.args.sums.now) (record { delay = 0; stops = stops })) (sym c.new.ensures.items) (nothing none)

pub returns-in_ok-stops-in-Some-clause-path : goal.returns-in_ok-stops-in-Some-clause-path
returns-in_ok-stops-in-Some-clause-path c =
    let greatest = subst (IsLatestEnd c.args.ends.now (sum_at c.args.sums.now)) c.in-Some.is c.latest_end.ensures in
    trail c.in-Some.end greatest c.in_ok-stops-in-Some.ensures.trail
