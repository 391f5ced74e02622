use Rattle.std.proofs.Common.{◌≡◌, ◌<◌, length, Option, Some, refl, sym, ap, ◌∙◌, inl, inr, arith}
use Rattle.std.specs.List.{slice_get}
use Rattle.std.proofs.lemmas.Option.{slice_get_read}
use Rattle.fab_systems_laws.specs.Ternary.{Tern as PlainTern}
use Rattle.fab_ternary.specs.Terns.{plain_tern}
use Rattle.fab_compiled.specs.Terns.{seen}
use Rattle.fab_network.specs.declared.network.Drive.{Drive}
use Rattle.fab_network.specs.declared.network.Drive.TheVariants.{Flop, Hold}
use Rattle.fab_phases.specs.Running.{written_by}
use Rattle.fab_phases.proofs.Ticking.{fit_at}
use Rattle.fab_phases.proofs.cycles.left_by.Goals as goal

pub left_by_flop-requires-clause-next : goal.left_by_flop-requires-clause-next
left_by_flop-requires-clause-next c =
    let drives = c.args.network.now.drives.items in
    let less : c.args.point < length drives = omega arith in
    let at : slice_get drives c.args.point ≡ Some (Flop c.in-Flop.clock c.in-Flop.next) =
    slice_get_read drives (length drives) c.args.point c.index.result.now refl less c.index.ensures ∙ ap (λ (d : Drive). Some d) c.in-Flop.is in
    fit_at c.args.network.now c.args.network.now.trees.items (length c.args.view.now.leads.now) c.in-Flop.next refl c.requires.points
    (c.requires.fit c.args.point (Flop c.in-Flop.clock c.in-Flop.next) at)

pub returns-in-Flop-clause-left : goal.returns-in-Flop-clause-left
returns-in-Flop-clause-left c =
    let drives = c.args.network.now.drives.items in
    let less : c.args.point < length drives = omega arith in
    let at : slice_get drives c.args.point ≡ Some (Flop c.in-Flop.clock c.in-Flop.next) =
    slice_get_read drives (length drives) c.args.point c.index.result.now refl less c.index.ensures ∙ ap (λ (d : Drive). Some d) c.in-Flop.is in
    c.left_by_flop.ensures.left c.args.point
    ∙ sym (ap (λ (o : Option Drive). written_by c.args.network.now.trees.items (plain_tern c.args.held) (seen c.args.view.now.terns.now c.args.view.now.leads.now) c.args.point o) at)

pub returns-in-Hold-clause-left : goal.returns-in-Hold-clause-left
returns-in-Hold-clause-left c =
    let drives = c.args.network.now.drives.items in
    let less : c.args.point < length drives = omega arith in
    let at : slice_get drives c.args.point ≡ Some (Hold c.in-Hold.field-0 c.in-Hold.field-1) =
    slice_get_read drives (length drives) c.args.point c.index.result.now refl less c.index.ensures ∙ ap (λ (d : Drive). Some d) c.in-Hold.is in
    c.at.ensures
    ∙ sym (ap (λ (o : Option Drive). written_by c.args.network.now.trees.items (plain_tern c.args.held) (seen c.args.view.now.terns.now c.args.view.now.leads.now) c.args.point o) at)

pub returns-in-Given-clause-left : goal.returns-in-Given-clause-left
returns-in-Given-clause-left c =
    let drives = c.args.network.now.drives.items in
    let less : c.args.point < length drives = omega arith in
    let at : slice_get drives c.args.point ≡ Some c.index.result.now = slice_get_read drives (length drives) c.args.point c.index.result.now refl less c.index.ensures in
    let by : Drive → PlainTern = λ d.
    written_by c.args.network.now.trees.items (plain_tern c.args.held) (seen c.args.view.now.terns.now c.args.view.now.leads.now) c.args.point (Some d) in
    let held = plain_tern c.args.held in
    let stays : by c.index.result.now ≡ held =
    elim c.in-Given.is [
      | inl e ↦ ap by e
      | inr m ↦ elim m [ inl same ↦ ap by same.1 | inr value ↦ ap by value.1 ]
    ] in
    sym (ap (λ (o : Option Drive). written_by c.args.network.now.trees.items held (seen c.args.view.now.terns.now c.args.view.now.leads.now) c.args.point o) at ∙ stays)
