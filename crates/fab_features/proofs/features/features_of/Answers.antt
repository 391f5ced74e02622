use Rattle.std.proofs.Common.{List, sym, subst, All}
use Rattle.fab_model.specs.Grid.{PlainFabric}
use Rattle.fab_implementation.specs.Plain.{PlainTree, PlainImplementation}
use Rattle.fab_implementation.specs.OnFabric.{HasWires}
use Rattle.fab_features.specs.inner.Matrices.{AreMatricesOf}
use Rattle.fab_features.specs.inner.Adding.{IsCellLine}
use Rattle.fab_features.specs.declared.matrices.Matrix.{Matrix}
use Rattle.fab_features.proofs.Configured.{lines_known, wires_known}
use Rattle.fab_features.proofs.features.features_of.Goals as goal

pub of-requires-clause-lines : goal.of-requires-clause-lines
of-requires-clause-lines c =
    let fabric = c.args.fabric.now in
    let packed = c.args.packed.now in
    subst (λ (p : PlainImplementation). All (IsCellLine fabric packed) p.cells) (sym c.get-implementation.ensures)
    (lines_known fabric packed c.requires.legal.0 c.args.legal.now c.requires.legal.1 c.in_ok-matrices.ensures.are_tiles)

pub of-requires-clause-wires : goal.of-requires-clause-wires
of-requires-clause-wires c =
    let fabric = c.args.fabric.now in
    let packed = c.args.packed.now in
    subst (λ (p : PlainImplementation). All (λ (tree : PlainTree). All (HasWires fabric) tree.edges) p.trees) (sym c.get-implementation.ensures)
    (wires_known fabric packed c.requires.legal.0 c.args.legal.now c.requires.legal.1 c.in_ok-matrices.ensures.are_tiles)

pub push_columns-requires-clause-matrices : goal.push_columns-requires-clause-matrices
push_columns-requires-clause-matrices c =
    let matrices = subst (λ (m : List Matrix). AreMatricesOf c.args.fabric.now.types m) (sym c.deref.ensures.value) c.in_ok-matrices.ensures.matrices in
    subst (λ (f : PlainFabric). AreMatricesOf f.types c.deref.result.now) (sym c.in_ok-lookup.ensures.fabric) matrices
