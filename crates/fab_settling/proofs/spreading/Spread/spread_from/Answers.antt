use Rattle.fab_settling.specs.Scenes.{scene_of}
use Rattle.fab_settling.proofs.Growing.{ready_after}
use Rattle.fab_settling.proofs.Passing.{both_further, none_further}
use Rattle.fab_settling.proofs.spreading.Spread.spread_from.Goals as goal

pub loop-note-init : goal.loop-note-init
loop-note-init c = record {
  further = none_further (scene_of c.args.scene.now) c.args.terns.now c.requires.ready.backed;
  spread = c.requires.spread;
}

pub loop-note-preserved : goal.loop-note-preserved
loop-note-preserved c = record {
  further = both_further (scene_of c.args.scene.now) c.args.terns.now c.loop-note.terns c.spread_by.new.terns
      c.loop-note.invariant.further c.spread_by.ensures.further;
  spread = c.spread_by.ensures.spread;
}

pub spread_by-requires-clause-ready : goal.spread_by-requires-clause-ready
spread_by-requires-clause-ready c =
    ready_after (scene_of c.args.scene.now) c.args.terns.now c.loop-note.terns c.requires.ready c.loop-note.invariant.further
