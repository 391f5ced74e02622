use Rattle.fab_settling.specs.Visits.{IsFurther}
use Rattle.fab_settling.specs.Scenes.{scene_of, AreSharedOver, IsSpreadOver}
use Rattle.fab_settling.proofs.passes.look_at_waiting.Given as goal

abbrev pub invariant-loop-step : goal.invariant-loop-step
invariant-loop-step l = record {
  further : IsFurther (scene_of l.scene) l.initial.terns l.terns;
  shared : AreSharedOver l.scene l.terns l.shared;
  spread : IsSpreadOver l.scene l.terns l.spread;
}
