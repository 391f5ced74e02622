use Rattle.fab_settling.specs.Scenes.{scene_of}
use Rattle.fab_settling.proofs.Growing.{ready_after}
use Rattle.fab_settling.proofs.Passing.{both_further, none_further}
use Rattle.fab_settling.proofs.spreading.Spread.look_at_new.Goals as goal

pub loop-nth-init : goal.loop-nth-init
loop-nth-init c = record {
  further = none_further (scene_of c.args.scene.now) c.args.terns.now c.requires.ready.backed;
  spread = c.requires.spread;
}

pub loop-nth-preserved : goal.loop-nth-preserved
loop-nth-preserved c = record {
  further = both_further (scene_of c.args.scene.now) c.args.terns.now c.loop-nth.terns c.look_at_bit.new.terns
      c.loop-nth.invariant.further c.look_at_bit.ensures.further;
  spread = c.look_at_bit.ensures.spread;
}

pub look_at_bit-requires-clause-ready : goal.look_at_bit-requires-clause-ready
look_at_bit-requires-clause-ready c =
    ready_after (scene_of c.args.scene.now) c.args.terns.now c.loop-nth.terns c.requires.ready c.loop-nth.invariant.further
