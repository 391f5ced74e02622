use Rattle.std.proofs.Common.{rules, ◌<◌, List, All, length, true, sym, subst}
use Rattle.fab_compiled.specs.Terns.{seen}
use Rattle.fab_settling.specs.declared.run_values.RunValues.{RunValues}
use Rattle.fab_settling.specs.Visits.{Scene, IsFurther}
use Rattle.fab_settling.specs.Scenes.{scene_of}
use Rattle.fab_settling.specs.Spreading.{IsKeptOfRun}
use Rattle.fab_settling.proofs.Growing.{runs_rise}
use Rattle.fab_settling.proofs.Passing.{visit_further}
use Rattle.fab_settling.proofs.spreading.Spread.look.Goals as goal

room : (c : goal.After-note_found) → c.in-Some.place < length c.args.scene.now.order.now
room c = search rules

further : (c : goal.After-note_found) → IsFurther (scene_of c.args.scene.now) c.args.terns.now c.look_within-visit.new.terns
further c =
    let ready = c.requires.ready in
    visit_further (scene_of c.args.scene.now) ready.fit ready.points ready.own c.in-Some.place c.args.terns.now ready.backed (room c) ready.long true
    c.look_within-visit.new.terns c.look_within-visit.result c.look_within-visit.ensures

pub returns-clause-further : goal.returns-clause-further
returns-clause-further c = further c

pub returns-clause-spread : goal.returns-clause-spread
returns-clause-spread c =
    let scene : Scene = scene_of c.args.scene.now in
    let new = c.look_within-visit.new.terns in
    subst (λ (values : List RunValues). All (IsKeptOfRun scene.trees (length scene.leads) (seen new scene.leads)) values) (sym c.note_found.ensures)
    (runs_rise scene.trees scene.leads c.args.terns.now new (further c).rising c.args.self.now.values.items c.requires.spread)
