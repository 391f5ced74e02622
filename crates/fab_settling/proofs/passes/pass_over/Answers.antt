use Rattle.std.proofs.Common.{◌+◌, Bool, length, sym, ◌∙◌, subst}
use Rattle.fab_compiled.specs.Terns.{seen}
use Rattle.fab_settling.specs.Visits.{changed_after, Scene, IsPassed}
use Rattle.fab_settling.specs.Scenes.{scene_of}
use Rattle.fab_network.proofs.Forming.{forms_stay}
use Rattle.fab_settling.proofs.Growing.{ready_after}
use Rattle.fab_settling.proofs.Passing.{none_passed, visit_passed}
use Rattle.fab_settling.proofs.passes.pass_over.Goals as goal

pub loop-place-init : goal.loop-place-init
loop-place-init c =
    let scene : Scene = scene_of c.args.scene.now in
    let ready = c.requires.ready in
    record {
      passed = none_passed scene ready.fit ready.points ready.own c.args.terns.now ready.backed;
      shared = c.new-shared.ensures scene.trees (length scene.leads) (seen c.args.terns.now scene.leads);
    }

pub loop-place-preserved : goal.loop-place-preserved
loop-place-preserved c =
    let scene : Scene = scene_of c.args.scene.now in
    let ready = c.requires.ready in
    let count = c.loop-place.place in
    let new = c.look_at-found.new.terns in
    let made =
    visit_passed scene ready.fit ready.points ready.own count c.args.terns.now c.loop-place.terns c.loop-place.pass.changed c.loop-place.pass.unsettled
    c.loop-place.invariant.passed c.loop-place-test.true (c.loop-place.invariant.passed.further.long ∙ ready.long) new c.look_at-found.result
    c.look_at-found.ensures.visit in
    record {
      passed = subst (λ (b : Bool). IsPassed scene (count + 1) c.args.terns.now new b c.noting-pass.result.unsettled) (sym c.noting-pass.ensures.changed)
          (subst (λ (b : Bool). IsPassed scene (count + 1) c.args.terns.now new (changed_after c.loop-place.pass.changed c.look_at-found.result) b)
          (sym c.noting-pass.ensures.unsettled) made);
      shared = c.look_at-found.ensures.shared;
    }

pub look_at-found-requires-clause-ready : goal.look_at-found-requires-clause-ready
look_at-found-requires-clause-ready c =
    ready_after (scene_of c.args.scene.now) c.args.terns.now c.loop-place.terns c.requires.ready c.loop-place.invariant.passed.further

pub look_at-found-requires-clause-forms : goal.look_at-found-requires-clause-forms
look_at-found-requires-clause-forms c =
    let scene : Scene = scene_of c.args.scene.now in
    forms_stay scene.trees scene.drives scene.order scene.leads c.args.terns.now c.loop-place.terns c.args.scene.now.forms.now
    c.loop-place.invariant.passed.further.others c.requires.forms
