use Rattle.std.proofs.Common.{length, slice_index, slice_set}
use Rattle.fab_compiled.specs.Terns.{seen}
use Rattle.fab_settling.specs.Visits.{Scene}
use Rattle.fab_settling.specs.Scenes.{scene_of}
use Rattle.fab_settling.proofs.Open.{seen_grows}
use Rattle.fab_settling.proofs.Visiting.{inside, none_there, visit_found, visit_still}
use Rattle.fab_settling.proofs.passes.look_at.Goals as goal

pub returns-clause-shared : goal.returns-clause-shared
returns-clause-shared c =
    let scene : Scene = scene_of c.args.scene.now in
    let terns = c.args.terns.now in
    let point = slice_index scene.order c.args.place in
    let found = c.look_for-found.result in
    c.note_change.ensures scene.trees (length scene.leads) (seen terns scene.leads) (seen (slice_set terns point found) scene.leads)
    (λ other l. seen_grows terns scene.leads point found (inside scene terns c.requires.ready c.args.place c.requires.within)
    (none_there scene terns c.requires.ready c.args.place c.requires.within c.is_open.result c.is_open.ensures c.if-not-is_open.false) other)
    c.look_for-found.ensures.shared

pub returns-then-is_open-clause-visit : goal.returns-then-is_open-clause-visit
returns-then-is_open-clause-visit c =
    visit_still (scene_of c.args.scene.now) c.args.terns.now c.requires.ready c.args.place c.requires.within c.is_open.result c.is_open.ensures
    c.if-not-is_open.false c.look_for-found.result c.is_open-2.result c.is_open-2.ensures c.args.waits c.if-is_open.true c.look_for-found.ensures.value

pub returns-clause-visit : goal.returns-clause-visit
returns-clause-visit c =
    visit_found (scene_of c.args.scene.now) c.args.terns.now c.requires.ready c.args.place c.requires.within c.is_open.result c.is_open.ensures
    c.if-not-is_open.false c.look_for-found.result c.is_open-2.result c.is_open-2.ensures c.args.waits c.if-is_open.false c.look_for-found.ensures.below
