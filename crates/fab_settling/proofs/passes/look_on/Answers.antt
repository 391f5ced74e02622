use Rattle.std.proofs.Common.{length, slice_index}
use Rattle.fab_compiled.specs.Terns.{seen}
use Rattle.fab_settling.specs.Visits.{Scene}
use Rattle.fab_settling.specs.Scenes.{scene_of}
use Rattle.fab_settling.proofs.passes.look_on.Goals as goal

pub returns-in-Some-clause-shared : goal.returns-in-Some-clause-shared
returns-in-Some-clause-shared c =
    let scene : Scene = scene_of c.args.scene.now in
    c.note_change.ensures scene.trees (length scene.leads) (seen c.args.terns.now scene.leads) (seen c.spread.new.terns scene.leads)
    (λ point l. c.spread.ensures.further.rising (slice_index scene.leads point)) c.requires.shared
