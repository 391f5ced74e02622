use Rattle.std.proofs.Common.{true, false, sym}
use Rattle.fab_compiled.proofs.Leading.{known_leads}
use Rattle.fab_compiled.proofs.leads.follow.Goals as goal

pub returns-in-Yes : goal.returns-in-Yes
returns-in-Yes c =
    known_leads c.args.view.now.terns.now c.args.view.now.leads.now c.args.marks.now c.args.first c.args.tree.now c.args.bit c.requires.made c.requires.begins c.requires.inside true
    (sym c.in-Yes.ensures)

pub returns-in-No : goal.returns-in-No
returns-in-No c =
    known_leads c.args.view.now.terns.now c.args.view.now.leads.now c.args.marks.now c.args.first c.args.tree.now c.args.bit c.requires.made c.requires.begins c.requires.inside false
    (sym c.in-No.ensures)
