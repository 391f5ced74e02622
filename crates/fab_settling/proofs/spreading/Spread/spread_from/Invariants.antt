use Rattle.fab_settling.specs.Visits.{IsFurther}
use Rattle.fab_settling.specs.Scenes.{scene_of, IsSpreadOver}
use Rattle.fab_settling.proofs.spreading.Spread.spread_from.Given as goal

abbrev pub invariant-loop-note : goal.invariant-loop-note
invariant-loop-note l = record {
  further : IsFurther (scene_of l.scene) l.initial.terns l.terns;
  spread : IsSpreadOver l.scene l.terns l.self;
}
