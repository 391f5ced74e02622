use Rattle.std.proofs.Common.{ℕ, ◌<◌, length, Option, sym, ap, ◌∙◌, subst, arith}
use Rattle.fab_ternary.specs.Terns.{plain_tern}
use Rattle.fab_compiled.specs.Terns.{seen}
use Rattle.fab_network.specs.declared.network.Drive.{Drive}
use Rattle.fab_network.specs.Tables.{AreInside}
use Rattle.fab_network.proofs.Forming.{shows_by, taken_of, takes_by}
use Rattle.fab_phases.specs.Running.{written_by}
use Rattle.fab_phases.proofs.cycles.left_by_form.Goals as goal

pub returns-in-Shows-clause-left : goal.returns-in-Shows-clause-left
returns-in-Shows-clause-left c =
    let network = c.args.network.now in
    let view = c.args.view.now in
    let within : c.args.point < length network.drives.items = omega arith in
    let by = shows_by network.trees.items network.drives.items view.leads.now view.terns.now c.args.point c.args.form.now c.requires.form within c.in-Shows.field-0 c.in-Shows.is in
    sym (ap (λ (o : Option Drive). written_by network.trees.items (plain_tern c.args.held) (seen view.terns.now view.leads.now) c.args.point o) by.1)

pub value-requires-clause-inside : goal.value-requires-clause-inside
value-requires-clause-inside c =
    let network = c.args.network.now in
    let view = c.args.view.now in
    let within : c.args.point < length network.drives.items = omega arith in
    let by = takes_by network.trees.items network.drives.items view.leads.now view.terns.now c.args.point c.args.form.now c.requires.form within c.in-Takes.table c.in-Takes.is in
    subst (λ (n : ℕ). AreInside n c.in-Takes.table.inputs) (sym c.requires.terns) by.2.inside

pub value-requires-clause-long : goal.value-requires-clause-long
value-requires-clause-long c =
    let network = c.args.network.now in
    let view = c.args.view.now in
    let within : c.args.point < length network.drives.items = omega arith in
    let by = takes_by network.trees.items network.drives.items view.leads.now view.terns.now c.args.point c.args.form.now c.requires.form within c.in-Takes.table c.in-Takes.is in
    by.2.long

pub returns-in-Takes-clause-left : goal.returns-in-Takes-clause-left
returns-in-Takes-clause-left c =
    let network = c.args.network.now in
    let view = c.args.view.now in
    let within : c.args.point < length network.drives.items = omega arith in
    let by = takes_by network.trees.items network.drives.items view.leads.now view.terns.now c.args.point c.args.form.now c.requires.form within c.in-Takes.table c.in-Takes.is in
    taken_of network.trees.items network.drives.items view.leads.now view.terns.now c.args.point c.args.form.now c.requires.form within c.in-Takes.table c.value.result c.in-Takes.is
    c.value.ensures
    ∙ sym (ap (λ (o : Option Drive). written_by network.trees.items (plain_tern c.args.held) (seen view.terns.now view.leads.now) c.args.point o) by.1)
