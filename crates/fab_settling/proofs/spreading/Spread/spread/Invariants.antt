use Rattle.fab_settling.specs.Visits.{IsFurther}
use Rattle.fab_settling.specs.Scenes.{scene_of, IsSpreadOver}
use Rattle.fab_settling.proofs.spreading.Spread.spread.Given as goal

abbrev pub invariant-loop-copy : goal.invariant-loop-copy
invariant-loop-copy l = record {
  further : IsFurther (scene_of l.scene) l.initial.terns l.terns;
  spread : IsSpreadOver l.scene l.terns l.self;
}
