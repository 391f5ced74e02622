use Rattle.std.proofs.Common.{◌≡◌, ◌⊎◌, sym, subst}
use Rattle.fab_base.specs.declared.fault.Fault.{Fault}
use Rattle.fab_base.specs.declared.fault.Fault.TheVariants as faults
use Rattle.fab_flow.specs.Bits.{RefusesBits}
use Rattle.fab_flow.proofs.BitsMade.{features_refused}
use Rattle.fab_flow.proofs.bits.right_bits.Goals as goal

pub returns-in-Err-clause-refused : goal.returns-in-Err-clause-refused
returns-in-Err-clause-refused c =
    subst (λ (f : Fault). (f ≡ faults.Memory) ⊎ RefusesBits c.args.fabric.now c.args.features.now f) (sym c.from.ensures)
    (features_refused c.args.fabric.now c.args.features.now c.in-Err.fault c.in-Err.ensures.err)
