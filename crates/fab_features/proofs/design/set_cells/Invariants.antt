use Rattle.std.proofs.Common.{take}
use Rattle.fab_fabric.specs.Bits.{AreBitsOf, plain_bits}
use Rattle.fab_features.specs.inner.Adding.{Adds, SomeOf, IsCellOne}
use Rattle.fab_features.proofs.design.set_cells.Given as goal

-- the cells of the lines so far
abbrev pub invariant-loop-line : goal.invariant-loop-line
invariant-loop-line l = record {
  are : AreBitsOf l.fabric l.bits;
  adds : Adds (plain_bits l.fn.bits) (plain_bits l.bits) (SomeOf (IsCellOne l.fabric l.packed) (take l.line-index l.cells));
}
