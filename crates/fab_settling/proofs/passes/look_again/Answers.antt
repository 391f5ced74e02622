use Rattle.std.proofs.Common.{length}
use Rattle.fab_compiled.specs.Terns.{seen}
use Rattle.fab_settling.specs.Visits.{Scene}
use Rattle.fab_settling.specs.Scenes.{scene_of}
use Rattle.fab_network.proofs.Forming.{forms_stay}
use Rattle.fab_settling.proofs.Growing.{ready_after}
use Rattle.fab_settling.proofs.Passing.{both_further}
use Rattle.fab_settling.proofs.passes.look_again.Goals as goal

pub begin-requires-2-clause-spread : goal.begin-requires-2-clause-spread
begin-requires-2-clause-spread c =
    let scene : Scene = scene_of c.args.scene.now in
    c.new-spread.ensures scene.trees (length scene.leads) (seen c.args.terns.now scene.leads)

pub look_at_waiting-requires-clause-ready : goal.look_at_waiting-requires-clause-ready
look_at_waiting-requires-clause-ready c =
    ready_after (scene_of c.args.scene.now) c.args.terns.now c.begin-2.new.terns c.requires.ready c.begin-2.ensures.further

pub look_at_waiting-requires-clause-forms : goal.look_at_waiting-requires-clause-forms
look_at_waiting-requires-clause-forms c =
    let scene : Scene = scene_of c.args.scene.now in
    forms_stay scene.trees scene.drives scene.order scene.leads c.args.terns.now c.begin-2.new.terns c.args.scene.now.forms.now c.begin-2.ensures.further.others
    c.requires.forms

pub look_at_waiting-requires-clause-shared : goal.look_at_waiting-requires-clause-shared
look_at_waiting-requires-clause-shared c =
    let scene : Scene = scene_of c.args.scene.now in
    c.new-shared.ensures scene.trees (length scene.leads) (seen c.begin-2.new.terns scene.leads)

pub returns : goal.returns
returns c =
    both_further (scene_of c.args.scene.now) c.args.terns.now c.begin-2.new.terns c.look_at_waiting.new.terns c.begin-2.ensures.further
    c.look_at_waiting.ensures.further
