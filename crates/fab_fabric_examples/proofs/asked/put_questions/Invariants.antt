use Rattle.fab_fabric.specs.Bits.{AreBitsOf}
use Rattle.fab_fabric_examples.proofs.asked.put_questions.Given as goal

-- they stay bits of the fabric
abbrev pub invariant-loop-question : goal.invariant-loop-question
invariant-loop-question l = AreBitsOf l.fabric l.bits
