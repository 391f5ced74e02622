use Rattle.fab_settling.specs.Visits.{Scene}
use Rattle.fab_settling.specs.Scenes.{scene_of}
use Rattle.fab_network.proofs.Forming.{forms_stay}
use Rattle.fab_settling.proofs.Growing.{ready_after}
use Rattle.fab_settling.proofs.Passing.{both_further, none_further}
use Rattle.fab_settling.proofs.passes.look_at_waiting.Goals as goal

pub loop-step-init : goal.loop-step-init
loop-step-init c = record {
  further = none_further (scene_of c.args.scene.now) c.args.terns.now c.requires.ready.backed;
  shared = c.requires.shared;
  spread = c.requires.spread;
}

pub loop-step-preserved : goal.loop-step-preserved
loop-step-preserved c = record {
  further = both_further (scene_of c.args.scene.now) c.args.terns.now c.loop-step.terns c.look_on.new.terns
      c.loop-step.invariant.further c.look_on.ensures.further;
  shared = c.look_on.ensures.shared;
  spread = c.look_on.ensures.spread;
}

pub look_on-requires-clause-ready : goal.look_on-requires-clause-ready
look_on-requires-clause-ready c =
    ready_after (scene_of c.args.scene.now) c.args.terns.now c.loop-step.terns c.requires.ready c.loop-step.invariant.further

pub look_on-requires-clause-forms : goal.look_on-requires-clause-forms
look_on-requires-clause-forms c =
    let scene : Scene = scene_of c.args.scene.now in
    forms_stay scene.trees scene.drives scene.order scene.leads c.args.terns.now c.loop-step.terns c.args.scene.now.forms.now
    c.loop-step.invariant.further.others c.requires.forms

pub returns-then-not-look_on-clause-further : goal.returns-then-not-look_on-clause-further
returns-then-not-look_on-clause-further c =
    both_further (scene_of c.args.scene.now) c.args.terns.now c.loop-step.terns c.look_on.new.terns c.loop-step.invariant.further
    c.look_on.ensures.further
