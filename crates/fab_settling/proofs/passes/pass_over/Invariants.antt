use Rattle.fab_settling.specs.Visits.{IsPassed}
use Rattle.fab_settling.specs.Scenes.{scene_of, AreSharedOver}
use Rattle.fab_settling.proofs.passes.pass_over.Given as goal

abbrev pub invariant-loop-place : goal.invariant-loop-place
invariant-loop-place l = record {
  passed : IsPassed (scene_of l.scene) l.place l.initial.terns l.terns l.pass.changed l.pass.unsettled;
  shared : AreSharedOver l.scene l.terns l.shared;
}
