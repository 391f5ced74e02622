use Rattle.fab_settling.specs.Visits.{IsFurther}
use Rattle.fab_settling.specs.Scenes.{scene_of, IsSpreadOver}
use Rattle.fab_settling.proofs.spreading.Spread.begin.Given as goal

abbrev pub invariant-loop-number : goal.invariant-loop-number
invariant-loop-number l = record {
  further : IsFurther (scene_of l.scene) l.initial.terns l.terns;
  spread : IsSpreadOver l.scene l.terns l.self;
}
