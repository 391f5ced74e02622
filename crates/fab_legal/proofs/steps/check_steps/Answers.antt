use Rattle.std.proofs.Common.{◌≡◌, List, MatchOption, get_or, refl, ap, ◌∙◌, subst}
use Rattle.fab_implementation.specs.Plain.{Edge, PlainTree}
use Rattle.fab_legal.specs.Turns.{AreRight, IsFirstWrongAt}
use Rattle.fab_legal.specs.Nets.{IsRightStep}
use Rattle.fab_legal.specs.Legal.{HasRightSteps}
use Rattle.fab_legal.specs.Broken.{IsEdgeItem}
use Rattle.fab_legal.proofs.Lists.{at_read}
use Rattle.fab_legal.proofs.Cells.{breaks_by}
use Rattle.fab_legal.proofs.EdgeItems.{tree_more, edge_item}
use Rattle.fab_legal.proofs.steps.check_steps.Goals as goal

pub returns-in-Some-clause-err : goal.returns-in-Some-clause-err
returns-in-Some-clause-err c =
    let f = c.args.fabric.now in
    let tree : PlainTree = c.tree-item.result in
    let at = at_read c.args.trees.now c.loop-tree.tree-index tree c.loop-tree-test.true c.tree-item.is in
    let edges_are : c.deref.result.now ≡ tree.edges = c.deref.ensures.value ∙ ap (λ (t : PlainTree). t.edges) c.tree.view_is in
    let found = subst (λ (es : List Edge). MatchOption c.wrong_step.result (AreRight (IsRightStep f) es) (IsFirstWrongAt (IsRightStep f) es)) edges_are c.wrong_step.ensures in
    let edge : Edge = c.index.result.now in
    let read : edge ≡ get_or tree.edges c.in-Some.place edge = c.index.ensures ∙ ap (λ (t : PlainTree). get_or t.edges c.in-Some.place edge) c.tree.view_is in
    breaks_by 5 (IsEdgeItem f (HasRightSteps f) (λ (t : PlainTree). IsRightStep f) c.args.trees.now) c.broken_by.result c.in_ok-wire_text.field-0 c.in_ok-wire_text.field-0 c.broken_by.ensures refl
    (edge_item f (λ (t : PlainTree). IsRightStep f) c.args.trees.now c.loop-tree.tree-index tree at c.wrong_step.result c.in-Some.place edge c.in_ok-wire_text.field-0 found c.in-Some.is c.loop-tree.invariant read c.in_ok-wire_text.ensures)

pub loop-tree-preserved : goal.loop-tree-preserved
loop-tree-preserved c =
    let f = c.args.fabric.now in
    let tree : PlainTree = c.tree-item.result in
    let at = at_read c.args.trees.now c.loop-tree.tree-index tree c.loop-tree-test.true c.tree-item.is in
    let edges_are : c.deref.result.now ≡ tree.edges = c.deref.ensures.value ∙ ap (λ (t : PlainTree). t.edges) c.tree.view_is in
    let found = subst (λ (es : List Edge). MatchOption c.wrong_step.result (AreRight (IsRightStep f) es) (IsFirstWrongAt (IsRightStep f) es)) edges_are c.wrong_step.ensures in
    tree_more f (λ (t : PlainTree). IsRightStep f) c.args.trees.now c.loop-tree.tree-index tree at c.wrong_step.result found c.in_default.not-Some c.loop-tree.invariant
