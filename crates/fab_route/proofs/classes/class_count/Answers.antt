use Rattle.std.proofs.Common.{◌<◌, List, subst, arith}
use Rattle.std.specs.List.{All}
use Rattle.std.proofs.lemmas.List.{take_all}
use Rattle.std.proofs.lemmas.List.Elements.{All-more, All-weaker}
use Rattle.std.proofs.Common.{take}
use Rattle.fab_route.specs.declared.classes.Place.{Place}
use Rattle.fab_route.specs.inner.Guided.{no_place}
use Rattle.fab_route.proofs.classes.class_count.Goals as goal

pub loop-place-preserved : goal.loop-place-preserved
loop-place-preserved c = record {
  classes = All-more (λ (place : Place). place.class < c.past-count.result) c.args.places.now c.loop-place.place-index no_place c.loop-place-test.true
      (All-weaker (λ (place : Place). place.class < c.loop-place.count) (λ (place : Place). place.class < c.past-count.result) (λ place low. omega (arith, low, c.past-count.ensures.kept)) (take c.loop-place.place-index c.args.places.now)
      c.loop-place.invariant.classes) c.past-count.ensures.above;
  few = c.past-count.ensures.few;
}

pub returns-clause-classes : goal.returns-clause-classes
returns-clause-classes c =
    subst (λ (ps : List Place). All (λ (place : Place). place.class < c.loop-place.count) ps) (take_all c.loop-place.place-index c.args.places.now c.loop-place-test.false) c.loop-place.invariant.classes
