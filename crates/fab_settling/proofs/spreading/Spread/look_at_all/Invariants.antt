use Rattle.fab_settling.specs.Visits.{IsFurther}
use Rattle.fab_settling.specs.Scenes.{scene_of, IsSpreadOver}
use Rattle.fab_settling.proofs.spreading.Spread.look_at_all.Given as goal

abbrev pub invariant-loop-nth : goal.invariant-loop-nth
invariant-loop-nth l = record {
  further : IsFurther (scene_of l.scene) l.initial.terns l.terns;
  spread : IsSpreadOver l.scene l.terns l.self;
}
