use Rattle.fab_network.proofs.Forming.{forms_stay}
use Rattle.fab_demand.proofs.Formed.{starts_of}
use Rattle.fab_demand.proofs.cycles.settle_anew.Goals as goal

pub start-requires-clause-forms : goal.start-requires-clause-forms
start-requires-clause-forms c = starts_of c.args.network.now c.args.own.now c.args.leads.now c.args.terns.now c.args.forms.now c.requires.points c.requires.own c.requires.forms

pub settle_by-requires-clause-forms : goal.settle_by-requires-clause-forms
settle_by-requires-clause-forms c =
    forms_stay c.args.network.now.trees.items c.args.network.now.drives.items c.args.own.now c.args.leads.now c.args.terns.now c.start.new.terns c.args.forms.now
    c.start.ensures.others c.requires.forms
