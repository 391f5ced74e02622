use Rattle.std.proofs.Common.{◌≡◌, ◌∙◌, List, ap, refl, subst}
use Rattle.fab_implementation.specs.Plain.{Edge, PlainTree}
use Rattle.fab_legal.proofs.Lists.{at_read}
use Rattle.fab_timing.specs.inner.Adding.{Adds, AddedBy}
use Rattle.fab_timing.specs.inner.Passes.{HasStep, IsEdgeStep, IsTreeStep}
use Rattle.fab_timing.proofs.Added.{none_added, item_added, all_added}
use Rattle.fab_timing.proofs.steps.put_trees.Goals as goal

pub loop-tree-init : goal.loop-tree-init
loop-tree-init c = record { len = refl; added = none_added (IsTreeStep c.args.fabric.now) c.args.trees.now (HasStep c.args.before.now.items) }

pub loop-tree-preserved : goal.loop-tree-preserved
loop-tree-preserved c =
    let tree : PlainTree = c.tree-item.result in
    let at = at_read c.args.trees.now c.loop-tree.tree-index tree c.loop-tree-test.true c.tree-item.is in
    let edges_are : c.deref.result.now ≡ tree.edges = c.deref.ensures.value ∙ ap (λ (t : PlainTree). t.edges) c.tree.view_is in
    record {
      len = c.in_ok-put_edges.ensures.len ∙ c.loop-tree.invariant.len;
      added = item_added (IsTreeStep c.args.fabric.now) c.args.trees.now c.loop-tree.tree-index tree (HasStep c.args.before.now.items) (HasStep c.loop-tree.before.items) (HasStep c.put_edges.new.before.items)
          at.0 at.1 c.loop-tree.invariant.added
          (subst (λ (edges : List Edge). Adds (AddedBy (IsEdgeStep c.args.fabric.now) edges) (HasStep c.loop-tree.before.items) (HasStep c.put_edges.new.before.items)) edges_are c.in_ok-put_edges.ensures.added);
    }

pub returns-clause-added : goal.returns-clause-added
returns-clause-added c =
    all_added (IsTreeStep c.args.fabric.now) c.args.trees.now c.loop-tree.tree-index (HasStep c.args.before.now.items) (HasStep c.loop-tree.before.items) c.loop-tree-test.false c.loop-tree.invariant.added
