use Rattle.std.proofs.Common.{take}
use Rattle.fab_fabric.specs.Bits.{AreBitsOf, plain_bits}
use Rattle.fab_legal.specs.Turns.{FirstAreRight}
use Rattle.fab_features.specs.Wrong.{IsRightFeature}
use Rattle.fab_features.specs.inner.Adding.{Adds, SomeOf}
use Rattle.fab_features.specs.inner.Lines.{HoldsChoices, IsLineOne}
use Rattle.fab_features.proofs.reading.set_lines.Given as goal

-- the lines so far
abbrev pub invariant-loop-feature : goal.invariant-loop-feature
invariant-loop-feature l = record {
  are : AreBitsOf l.fabric l.bits;
  adds : Adds (plain_bits l.fn.bits) (plain_bits l.bits) (SomeOf (IsLineOne l.fabric) (take l.feature-index l.features));
  holds : HoldsChoices l.fabric (take l.feature-index l.features) l.table;
  right : FirstAreRight (IsRightFeature l.fabric) l.features l.feature-index;
}
