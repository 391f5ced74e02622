use Rattle.std.proofs.Common.{List, subst, sym}
use Rattle.fab_features.specs.inner.Matrices.{AreMatricesOf}
use Rattle.fab_features.specs.declared.matrices.Matrix.{Matrix}
use Rattle.fab_features.proofs.spelled.features_of_bits.Goals as goal

pub push_columns-requires-clause-matrices : goal.push_columns-requires-clause-matrices
push_columns-requires-clause-matrices c = subst (λ (m : List Matrix). AreMatricesOf c.args.fabric.now.types m) (sym c.deref.ensures.value) c.in_ok-matrices.ensures.matrices
