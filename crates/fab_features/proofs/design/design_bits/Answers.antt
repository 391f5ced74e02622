use Rattle.std.proofs.Common.{◌≡◌, ℕ, List, ap, ◌∙◌, sym, subst, All}
use Rattle.fab_fabric.specs.Bits.{plain_bits}
use Rattle.fab_fabric.specs.declared.wire.Site.{Site}
use Rattle.fab_implementation.specs.Plain.{PlainTree, PlainImplementation}
use Rattle.fab_implementation.specs.OnFabric.{HasWires}
use Rattle.fab_features.specs.inner.Matrices.{AreMatricesOf}
use Rattle.fab_features.specs.inner.Adding.{Adds, SomeOf, IsCellOne, IsCellLine, IsTreeOne}
use Rattle.fab_features.specs.declared.matrices.Matrix.{Matrix}
use Rattle.fab_features.proofs.Configured.{lines_known, wires_known, configured}
use Rattle.fab_features.proofs.DesignMap.{design_map}
use Rattle.fab_features.proofs.design.design_bits.Goals as goal

pub set_cells-requires-clause-matrices : goal.set_cells-requires-clause-matrices
set_cells-requires-clause-matrices c = subst (λ (m : List Matrix). AreMatricesOf c.args.fabric.now.types m) (sym c.deref.ensures.value) c.in_ok-matrices.ensures.matrices

pub set_cells-requires-clause-lines : goal.set_cells-requires-clause-lines
set_cells-requires-clause-lines c =
    let i = c.args.legal.now in
    let cells_are : c.deref-2.result.now ≡ i.cells =
    c.deref-2.ensures.value ∙ ap (λ (p : PlainImplementation). p.cells) c.implementation.view_is ∙ ap (λ (p : PlainImplementation). p.cells) c.get-implementation.ensures in
    subst (λ (lines : List (ℕ × Site)). All (IsCellLine c.args.fabric.now c.args.packed.now) lines) (sym cells_are)
    (lines_known c.args.fabric.now c.args.packed.now c.requires.legal.0 i c.requires.legal.1 c.in_ok-matrices.ensures.are_tiles)

pub set_trees-requires-clause-matrices : goal.set_trees-requires-clause-matrices
set_trees-requires-clause-matrices c = subst (λ (m : List Matrix). AreMatricesOf c.args.fabric.now.types m) (sym c.deref-3.ensures.value) c.in_ok-matrices.ensures.matrices

pub set_trees-requires-clause-wires : goal.set_trees-requires-clause-wires
set_trees-requires-clause-wires c =
    let i = c.args.legal.now in
    let trees_are : c.deref-4.result.now ≡ i.trees =
    c.deref-4.ensures.value ∙ ap (λ (p : PlainImplementation). p.trees) c.implementation.view_is ∙ ap (λ (p : PlainImplementation). p.trees) c.get-implementation.ensures in
    subst (λ (trees : List PlainTree). All (λ (tree : PlainTree). All (HasWires c.args.fabric.now) tree.edges) trees) (sym trees_are)
    (wires_known c.args.fabric.now c.args.packed.now c.requires.legal.0 i c.requires.legal.1 c.in_ok-matrices.ensures.are_tiles)

pub returns-clause-configures : goal.returns-clause-configures
returns-clause-configures c =
    let fabric = c.args.fabric.now in
    let packed = c.args.packed.now in
    let i = c.args.legal.now in
    let blank = plain_bits c.in_ok-bits.bits in
    let cells = plain_bits c.set_cells.new.bits in
    let bits = plain_bits c.set_trees.new.bits in
    let cells_are : c.deref-2.result.now ≡ i.cells =
    c.deref-2.ensures.value ∙ ap (λ (p : PlainImplementation). p.cells) c.implementation.view_is ∙ ap (λ (p : PlainImplementation). p.cells) c.get-implementation.ensures in
    let trees_are : c.deref-4.result.now ≡ i.trees =
    c.deref-4.ensures.value ∙ ap (λ (p : PlainImplementation). p.trees) c.implementation.view_is ∙ ap (λ (p : PlainImplementation). p.trees) c.get-implementation.ensures in
    configured fabric packed c.requires.legal.0 i c.requires.legal.1 c.in_ok-matrices.ensures.are_tiles blank cells bits c.in_ok-bits.ensures.blank
    (subst (λ (lines : List (ℕ × Site)). Adds blank cells (SomeOf (IsCellOne fabric packed) lines)) cells_are c.set_cells.ensures.adds)
    (subst (λ (trees : List PlainTree). Adds cells bits (SomeOf (IsTreeOne fabric) trees)) trees_are c.set_trees.ensures.adds)

pub returns-clause-map : goal.returns-clause-map
returns-clause-map c =
    let fabric = c.args.fabric.now in
    let packed = c.args.packed.now in
    let i = c.args.legal.now in
    let blank = plain_bits c.in_ok-bits.bits in
    let cells = plain_bits c.set_cells.new.bits in
    let bits = plain_bits c.set_trees.new.bits in
    let cells_are : c.deref-2.result.now ≡ i.cells =
    c.deref-2.ensures.value ∙ ap (λ (p : PlainImplementation). p.cells) c.implementation.view_is ∙ ap (λ (p : PlainImplementation). p.cells) c.get-implementation.ensures in
    let trees_are : c.deref-4.result.now ≡ i.trees =
    c.deref-4.ensures.value ∙ ap (λ (p : PlainImplementation). p.trees) c.implementation.view_is ∙ ap (λ (p : PlainImplementation). p.trees) c.get-implementation.ensures in
    λ named prefixed.
    design_map fabric packed c.requires.legal.0 i c.requires.legal.1 c.in_ok-matrices.ensures.is_fabric c.in_ok-matrices.ensures.are_tiles named prefixed blank cells bits c.in_ok-bits.ensures.blank
    (subst (λ (lines : List (ℕ × Site)). Adds blank cells (SomeOf (IsCellOne fabric packed) lines)) cells_are c.set_cells.ensures.adds)
    (subst (λ (trees : List PlainTree). Adds cells bits (SomeOf (IsTreeOne fabric) trees)) trees_are c.set_trees.ensures.adds)
