use Rattle.std.proofs.Common.{List, subst, sym}
use Rattle.fab_fabric.specs.Bits.{plain_bits}
use Rattle.fab_features.specs.inner.Matrices.{AreMatricesOf}
use Rattle.fab_features.specs.declared.matrices.Matrix.{Matrix}
use Rattle.fab_features.proofs.BitMaps.{bit_map, right_agree}
use Rattle.fab_features.proofs.reading.bits_of_features.Goals as goal

pub set_lines-requires-clause-matrices : goal.set_lines-requires-clause-matrices
set_lines-requires-clause-matrices c = subst (λ (m : List Matrix). AreMatricesOf c.args.fabric.now.types m) (sym c.deref.ensures.value) c.in_ok-matrices.ensures.matrices

pub returns-clause-bits : goal.returns-clause-bits
returns-clause-bits c =
    bit_map c.args.fabric.now c.args.features.now (plain_bits c.in_ok-bits.bits) (plain_bits c.set_lines.new.bits) c.in_ok-bits.ensures.blank c.in_ok-set_lines.ensures.adds
    (right_agree c.args.fabric.now c.args.features.now c.in_ok-set_lines.ensures.right)
