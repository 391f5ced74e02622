use Rattle.std.proofs.Common.{Some, sym, subst}
use Rattle.fab_ternary.specs.Terns.{plain_tern}
use Rattle.fab_network.specs.declared.network.Drive.{Drive}
use Rattle.fab_demand.specs.inner.Looking.{Finds}
use Rattle.fab_demand.proofs.look.look_by.Goals as goal

pub returns-in-Hold-clause-finds : goal.returns-in-Hold-clause-finds
returns-in-Hold-clause-finds c =
    subst (λ (d : Drive). Finds c.args.trees.now c.args.clock (plain_tern c.args.given) c.args.view.now.terns.now c.args.view.now.leads.now c.args.marks.now
    (Some d) c.latch_lead.result)
    (sym c.in-Hold.is) (c.latch_lead.ensures.finds c.args.clock)
