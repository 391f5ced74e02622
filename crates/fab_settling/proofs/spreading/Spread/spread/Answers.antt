use Rattle.fab_settling.specs.Scenes.{scene_of}
use Rattle.fab_settling.proofs.Growing.{ready_after}
use Rattle.fab_settling.proofs.Passing.{both_further, none_further}
use Rattle.fab_settling.proofs.spreading.Spread.spread.Goals as goal

pub loop-copy-init : goal.loop-copy-init
loop-copy-init c = record {
  further = none_further (scene_of c.args.scene.now) c.args.terns.now c.requires.ready.backed;
  spread = c.requires.spread;
}

pub loop-copy-preserved : goal.loop-copy-preserved
loop-copy-preserved c = record {
  further = both_further (scene_of c.args.scene.now) c.args.terns.now c.loop-copy.terns c.spread_from.new.terns
      c.loop-copy.invariant.further c.spread_from.ensures.further;
  spread = c.spread_from.ensures.spread;
}

pub spread_from-requires-clause-ready : goal.spread_from-requires-clause-ready
spread_from-requires-clause-ready c =
    ready_after (scene_of c.args.scene.now) c.args.terns.now c.loop-copy.terns c.requires.ready c.loop-copy.invariant.further
