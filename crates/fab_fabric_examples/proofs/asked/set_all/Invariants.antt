use Rattle.fab_fabric.specs.Bits.{AreBitsOf}
use Rattle.fab_fabric_examples.proofs.asked.set_all.Given as goal

-- they stay bits of the fabric
abbrev pub invariant-loop-number : goal.invariant-loop-number
invariant-loop-number l = AreBitsOf l.fabric l.bits
