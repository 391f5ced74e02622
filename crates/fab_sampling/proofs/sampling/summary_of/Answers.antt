use Rattle.std.proofs.lemmas.Result.{IfOk-weaker}
use Rattle.fab_sampling.proofs.Summed.{summed}
use Rattle.fab_sampling.proofs.sampling.summary_of.Goals as goal

pub returns : goal.returns
returns g c =
    IfOk-weaker c.print.result _ _
    (λ text is. summed c.args.run.now c.outcome.new.self c.requires c.outcome.ensures.same c.in_ok-outcome.outcome c.in_ok-outcome.ensures.comes text.items is) c.print.ensures
