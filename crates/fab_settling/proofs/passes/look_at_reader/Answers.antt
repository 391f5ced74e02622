use Rattle.std.proofs.Common.{false, length, sym, subst, All, List}
use Rattle.fab_compiled.specs.Terns.{seen}
use Rattle.fab_settling.specs.declared.run_values.RunValues.{RunValues}
use Rattle.fab_settling.specs.Visits.{Scene, IsFurther}
use Rattle.fab_settling.specs.Scenes.{scene_of}
use Rattle.fab_settling.specs.Spreading.{IsKeptOfRun}
use Rattle.fab_settling.proofs.Growing.{runs_rise}
use Rattle.fab_settling.proofs.Passing.{visit_further}
use Rattle.fab_settling.proofs.passes.look_at_reader.Goals as goal

further : (c : goal.After-note_found) → IsFurther (scene_of c.args.scene.now) c.args.terns.now c.look_at-found.new.terns
further c =
    let ready = c.requires.ready in
    visit_further (scene_of c.args.scene.now) ready.fit ready.points ready.own c.args.place c.args.terns.now ready.backed c.if-place-scene.false ready.long false
    c.look_at-found.new.terns c.look_at-found.result c.look_at-found.ensures.visit

pub returns-clause-further : goal.returns-clause-further
returns-clause-further c = further c

pub returns-clause-spread : goal.returns-clause-spread
returns-clause-spread c =
    let scene : Scene = scene_of c.args.scene.now in
    let new = c.look_at-found.new.terns in
    subst (λ (runs : List RunValues). All (IsKeptOfRun scene.trees (length scene.leads) (seen new scene.leads)) runs) (sym c.note_found.ensures)
    (runs_rise scene.trees scene.leads c.args.terns.now new (further c).rising c.args.spread.now.values.items c.requires.spread)
