use Rattle.std.proofs.Common.{◌≡◌, List, ap, ◌∙◌, subst}
use Rattle.fab_fabric.specs.Bits.{plain_bits}
use Rattle.fab_implementation.specs.Plain.{Edge, PlainTree}
use Rattle.fab_legal.proofs.Lists.{at_read}
use Rattle.fab_features.specs.inner.Adding.{Adds, SomeOf, IsEdgeOne, IsTreeOne}
use Rattle.fab_features.proofs.Added.{more_of}
use Rattle.fab_features.proofs.design.set_trees.Goals as goal

pub loop-tree-preserved : goal.loop-tree-preserved
loop-tree-preserved c =
    let l = c.loop-tree in
    let tree = c.tree-item.result in
    let edges_are : c.deref.result.now ≡ tree.edges = c.deref.ensures.value ∙ ap (λ (t : PlainTree). t.edges) c.tree.view_is in
    record {
      are = c.set_edges.ensures.are;
      adds =
          more_of (IsTreeOne c.args.fabric.now) c.args.trees.now l.tree-index tree (plain_bits c.args.bits.now) (plain_bits l.bits) (plain_bits c.set_edges.new.bits)
          (at_read c.args.trees.now l.tree-index tree c.loop-tree-test.true c.tree-item.is) l.invariant.adds
          (subst (λ (edges : List Edge). Adds (plain_bits l.bits) (plain_bits c.set_edges.new.bits) (SomeOf (IsEdgeOne c.args.fabric.now) edges)) edges_are c.set_edges.ensures.adds);
    }
