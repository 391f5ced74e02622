use Rattle.std.proofs.Common.{◌≡◌, ◌<◌, ◌∙◌, ℕ, Bool, List, All, MatchOption, Option, ap, false, get_or, length, subst, arith}
use Rattle.fab_implementation.specs.fab_fabric.specs.declared.wire.Site.{Site}
use Rattle.fab_implementation.specs.fab_fabric.specs.declared.wire.Wire.{Wire}
use Rattle.fab_implementation.specs.Plain.{Edge, PlainImplementation, PlainTree}
use Rattle.fab_partial.specs.Columns.{lies_within}
use Rattle.fab_partial.specs.Use.{IsUsedEdge}
use Rattle.fab_partial.specs.inner.Firsts.{EntersFirst, IsFirstCell}
use Rattle.fab_partial.proofs.Firsts.{all_done}
use Rattle.fab_partial.proofs.Finding.{cell_is_use, cells_free, trees_free, wire_is_use}
use Rattle.fab_partial.proofs.uses.used.Goals as goal

-- ---- what the callees say of the cells and of the edges

cells_found : (there : ℕ → Bool) (given cells : List (ℕ × Site)) (found : Option Site) → given ≡ cells → MatchOption found (All (λ (line : ℕ × Site). there line.1.x ≡ false) given) (IsFirstCell given there)
    → MatchOption found (All (λ (line : ℕ × Site). there line.1.x ≡ false) cells) (IsFirstCell cells there)
cells_found there given cells found is finds =
    subst (λ (cells : List (ℕ × Site)). MatchOption found (All (λ (line : ℕ × Site). there line.1.x ≡ false) cells) (IsFirstCell cells there)) is finds

edges_found : (Holds : Edge → Type 0) (given edges : List Edge) (found : Option Wire) → given ≡ edges → MatchOption found (All (λ edge. Holds edge → ⊥) given) (EntersFirst Holds given)
    → MatchOption found (All (λ edge. Holds edge → ⊥) edges) (EntersFirst Holds edges)
edges_found Holds given edges found is finds =
    subst (λ (edges : List Edge). MatchOption found (All (λ edge. Holds edge → ⊥) edges) (EntersFirst Holds edges)) is finds

pub returns-in-Some : goal.returns-in-Some
returns-in-Some c =
    let there = lies_within c.args.first c.args.last in
    let implementation : PlainImplementation = c.args.implementation.now in
    let cells_are : c.deref.result.now ≡ implementation.cells = c.deref.ensures.value ∙ ap (λ (it : PlainImplementation). it.cells) c.implementation.view_is in
    cell_is_use c.args.fabric.now implementation there c.used_cell.result c.in-Some.site
    (cells_found there c.deref.result.now implementation.cells c.used_cell.result cells_are c.used_cell.ensures) c.in-Some.is

pub returns-in-Some-used_wire : goal.returns-in-Some-used_wire
returns-in-Some-used_wire c =
    let there = lies_within c.args.first c.args.last in
    let fabric = c.args.fabric.now in
    let implementation : PlainImplementation = c.args.implementation.now in
    let tree : PlainTree = c.tree-item.result in
    let cells_are : c.deref.result.now ≡ implementation.cells = c.deref.ensures.value ∙ ap (λ (it : PlainImplementation). it.cells) c.implementation.view_is in
    let cells = cells_free fabric implementation there c.used_cell.result (cells_found there c.deref.result.now implementation.cells c.used_cell.result cells_are c.used_cell.ensures) c.in_default.not-Some in
    let edges_are : c.deref-in-loop-tree.result.now ≡ tree.edges = c.deref-in-loop-tree.ensures.value ∙ ap (λ (t : PlainTree). t.edges) c.tree.view_is in
    let trees_are : c.deref-tree-items.result.now ≡ implementation.trees = c.deref-tree-items.ensures.value ∙ ap (λ (it : PlainImplementation). it.trees) c.implementation.view_is in
    let inside = subst (λ (trees : List PlainTree). c.loop-tree.tree-index < length trees) trees_are c.loop-tree-test.true in
    let tree_is = subst (λ (trees : List PlainTree). tree ≡ get_or trees c.loop-tree.tree-index tree) trees_are c.tree-item.is in
    wire_is_use fabric implementation there c.loop-tree.tree-index tree inside tree_is c.used_wire.result c.in-Some-used_wire.wire
    (edges_found (IsUsedEdge fabric there) c.deref-in-loop-tree.result.now tree.edges c.used_wire.result edges_are c.used_wire.ensures) c.in-Some-used_wire.is cells c.loop-tree.invariant

pub loop-tree-preserved : goal.loop-tree-preserved
loop-tree-preserved c =
    let there = lies_within c.args.first c.args.last in
    let fabric = c.args.fabric.now in
    let implementation : PlainImplementation = c.args.implementation.now in
    let tree : PlainTree = c.tree-item.result in
    let edges_are : c.deref-in-loop-tree.result.now ≡ tree.edges = c.deref-in-loop-tree.ensures.value ∙ ap (λ (t : PlainTree). t.edges) c.tree.view_is in
    let trees_are : c.deref-tree-items.result.now ≡ implementation.trees = c.deref-tree-items.ensures.value ∙ ap (λ (it : PlainImplementation). it.trees) c.implementation.view_is in
    let inside = subst (λ (trees : List PlainTree). c.loop-tree.tree-index < length trees) trees_are c.loop-tree-test.true in
    let tree_is = subst (λ (trees : List PlainTree). tree ≡ get_or trees c.loop-tree.tree-index tree) trees_are c.tree-item.is in
    trees_free fabric implementation there c.loop-tree.tree-index tree inside tree_is c.used_wire.result
    (edges_found (IsUsedEdge fabric there) c.deref-in-loop-tree.result.now tree.edges c.used_wire.result edges_are c.used_wire.ensures) c.in_default-used_wire.not-Some c.loop-tree.invariant

pub returns : goal.returns
returns c =
    let there = lies_within c.args.first c.args.last in
    let fabric = c.args.fabric.now in
    let implementation : PlainImplementation = c.args.implementation.now in
    let cells_are : c.deref.result.now ≡ implementation.cells = c.deref.ensures.value ∙ ap (λ (it : PlainImplementation). it.cells) c.implementation.view_is in
    let trees_are : c.deref-tree-items.result.now ≡ implementation.trees = c.deref-tree-items.ensures.value ∙ ap (λ (it : PlainImplementation). it.trees) c.implementation.view_is in
    let long = ap length trees_are in
    record {
      cells = cells_free fabric implementation there c.used_cell.result (cells_found there c.deref.result.now implementation.cells c.used_cell.result cells_are c.used_cell.ensures) c.in_default.not-Some;
      edges =
          all_done (λ (tree : PlainTree). All (λ edge. IsUsedEdge fabric there edge → ⊥) tree.edges) implementation.trees c.loop-tree.tree-index (omega (arith, c.loop-tree-test.false, long))
          c.loop-tree.invariant;
    }
