use Rattle.fab_fabric.specs.Bits.{AreBitsOf, plain_bits}
use Rattle.fab_features.specs.inner.Adding.{Adds, IsOneOf}
use Rattle.fab_features.proofs.Added.{first_ones}
use Rattle.fab_features.proofs.ones.set_ones.Given as goal

-- the bits of the places so far
abbrev pub invariant-loop-place : goal.invariant-loop-place
invariant-loop-place l = record {
  are : AreBitsOf l.fabric l.bits;
  adds : Adds (plain_bits l.fn.bits) (plain_bits l.bits) (IsOneOf (first_ones l.ones l.place));
}
