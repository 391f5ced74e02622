use Rattle.std.proofs.Common.{◌≡◌, List, Option, Some, length, slice_get, sym, ap, ◌∙◌, subst}
use Rattle.std.proofs.lemmas.Option.{slice_get-get_or}
use Rattle.fab_ternary.specs.Terns.{plain_tern}
use Rattle.fab_compiled.specs.Leading.{PointTerns}
use Rattle.fab_compiled.specs.Terns.{seen}
use Rattle.fab_compiled.specs.declared.tree.Tree.{Tree}
use Rattle.fab_network.specs.declared.network.Drive.{Drive}
use Rattle.fab_network.specs.Network.{drive_tern}
use Rattle.fab_network.specs.Sharing.{AreShared}
use Rattle.fab_network.proofs.network.shown.Goals as goal

pub shown_by-requires-clause-shared : goal.shown_by-requires-clause-shared
shown_by-requires-clause-shared c =
    subst (λ (trees : List Tree). AreShared trees (length c.args.view.now.leads.now) (seen c.args.view.now.terns.now c.args.view.now.leads.now) c.args.shared.now)
    (sym c.deref-in-Some.ensures.value) c.requires.shared

pub returns-in-Some-clause-shared : goal.returns-in-Some-clause-shared
returns-in-Some-clause-shared c =
    subst (λ (trees : List Tree). AreShared trees (length c.args.view.now.leads.now) (seen c.args.view.now.terns.now c.args.view.now.leads.now) c.shown_by.new.shared)
    c.deref-in-Some.ensures.value c.shown_by.ensures.shared

pub returns-in-Some-clause-value : goal.returns-in-Some-clause-value
returns-in-Some-clause-value c =
    let t : PointTerns = seen c.args.view.now.terns.now c.args.view.now.leads.now in
    let held = plain_tern c.args.held in
    let drive : Drive = c.in-Some.drive.now in
    let lent : List Drive = c.deref.result.now in
    let found = c.in-Some.ensures.lookup in
    let at : slice_get c.args.network.now.drives.items c.args.point ≡ Some drive =
    ap (λ (drives : List Drive). slice_get drives c.args.point) (sym c.deref.ensures.value)
    ∙ slice_get-get_or lent c.args.point drive found.3.0
    ∙ ap (λ (d : Drive). Some d) (sym (found.3.1 drive)) in
    c.shown_by.ensures.value
    ∙ ap (λ (trees : List Tree). drive_tern trees held t c.args.point (Some drive)) c.deref-in-Some.ensures.value
    ∙ sym (ap (λ (o : Option Drive). drive_tern c.args.network.now.trees.items held t c.args.point o) at)
