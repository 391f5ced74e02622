use Rattle.fab_demand.proofs.KeptGates.{gate_depends_by}
use Rattle.fab_demand.proofs.gates.Gates.find.Goals as goal

pub returns-in-Known-clause-gates : goal.returns-in-Known-clause-gates
returns-in-Known-clause-gates c =
    c.keep.ensures.gates c.args.trees.now c.args.view.now.terns.now c.args.view.now.leads.now c.args.marks.now c.in-Known.ensures c.requires.gates

pub returns-in-Point-clause-gates : goal.returns-in-Point-clause-gates
returns-in-Point-clause-gates c =
    c.keep-in-Point.ensures.gates c.args.trees.now c.args.view.now.terns.now c.args.view.now.leads.now c.args.marks.now
    (gate_depends_by c.args.trees.now c.args.view.now.terns.now c.args.view.now.leads.now c.args.marks.now c.args.source
    c.lead_of_source.result c.lead_of_source.ensures c.in-Point.is)
    c.requires.gates
