use Rattle.std.proofs.Common.{true}
use Rattle.std.proofs.lemmas.Bool.{false≢true}
use Rattle.std.proofs.Common.{sym}
use Rattle.fab_settling.specs.Scenes.{scene_of}
use Rattle.fab_settling.proofs.Visiting.{visit_found, visit_still}
use Rattle.fab_settling.proofs.spreading.look_within.Goals as goal

pub returns-then-is_open : goal.returns-then-is_open
returns-then-is_open c =
    visit_still (scene_of c.args.scene.now) c.args.terns.now c.requires.ready c.args.place c.requires.within c.is_open.result c.is_open.ensures
    c.if-not-is_open.false c.shown-found.result c.is_open-2.result c.is_open-2.ensures true c.if-is_open.true (λ asked. absurd (false≢true (sym asked)))

pub returns : goal.returns
returns c =
    visit_found (scene_of c.args.scene.now) c.args.terns.now c.requires.ready c.args.place c.requires.within c.is_open.result c.is_open.ensures
    c.if-not-is_open.false c.shown-found.result c.is_open-2.result c.is_open-2.ensures true c.if-is_open.false c.shown-found.ensures
