use Rattle.std.proofs.Common.{ℕ, ◌<◌, length, sym, subst, arith}
use Rattle.fab_ternary.specs.Terns.{plain_tern}
use Rattle.fab_network.specs.Tables.{AreInside}
use Rattle.fab_network.proofs.Forming.{shown_of, shows_by}
use Rattle.fab_network.proofs.forms.shown_by_form.Goals as goal

pub value-requires-clause-inside : goal.value-requires-clause-inside
value-requires-clause-inside c =
    let within : c.args.point < length c.args.network.now.drives.items = omega arith in
    let by = shows_by c.args.network.now.trees.items c.args.network.now.drives.items c.args.view.now.leads.now c.args.view.now.terns.now c.args.point c.args.form.now
    c.requires.form within c.in-Shows.table c.in-Shows.is in
    subst (λ (n : ℕ). AreInside n c.in-Shows.table.inputs) (sym c.requires.terns) by.2.inside

pub value-requires-clause-long : goal.value-requires-clause-long
value-requires-clause-long c =
    let within : c.args.point < length c.args.network.now.drives.items = omega arith in
    let by = shows_by c.args.network.now.trees.items c.args.network.now.drives.items c.args.view.now.leads.now c.args.view.now.terns.now c.args.point c.args.form.now
    c.requires.form within c.in-Shows.table c.in-Shows.is in
    by.2.long

pub returns-in-Shows-clause-value : goal.returns-in-Shows-clause-value
returns-in-Shows-clause-value c =
    let within : c.args.point < length c.args.network.now.drives.items = omega arith in
    shown_of c.args.network.now.trees.items c.args.network.now.drives.items c.args.view.now.leads.now c.args.view.now.terns.now c.args.point c.args.form.now
    c.requires.form within c.in-Shows.table (plain_tern c.args.held) c.value.result c.in-Shows.is c.value.ensures
