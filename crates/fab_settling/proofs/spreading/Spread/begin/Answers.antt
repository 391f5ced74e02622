use Rattle.fab_settling.specs.Scenes.{scene_of}
use Rattle.fab_settling.proofs.Growing.{ready_after}
use Rattle.fab_settling.proofs.Passing.{both_further, none_further}
use Rattle.fab_settling.proofs.spreading.Spread.begin.Goals as goal

pub loop-number-init : goal.loop-number-init
loop-number-init c = record {
  further = none_further (scene_of c.args.scene.now) c.args.terns.now c.requires.ready.backed;
  spread = c.requires.spread;
}

pub loop-number-preserved : goal.loop-number-preserved
loop-number-preserved c = record {
  further = both_further (scene_of c.args.scene.now) c.args.terns.now c.loop-number.terns c.look_at_all.new.terns
      c.loop-number.invariant.further c.look_at_all.ensures.further;
  spread = c.look_at_all.ensures.spread;
}

pub look_at_all-requires-clause-ready : goal.look_at_all-requires-clause-ready
look_at_all-requires-clause-ready c =
    ready_after (scene_of c.args.scene.now) c.args.terns.now c.loop-number.terns c.requires.ready c.loop-number.invariant.further

pub add_run-requires-clause-ready : goal.add_run-requires-clause-ready
add_run-requires-clause-ready c =
    ready_after (scene_of c.args.scene.now) c.args.terns.now c.loop-number.terns c.requires.ready c.loop-number.invariant.further
