use Rattle.std.proofs.Common.{◌≡◌, List, All, sym, ap, ◌∙◌, subst}
use Rattle.std.proofs.lemmas.Result.{err_from_is_err_and, on_ok_weaker, IfErr-weaker}
use Rattle.fab_implementation.specs.Plain.{PlainTree, PlainImplementation}
use Rattle.fab_implementation.specs.OnFabric.{HasWires}
use Rattle.fab_legal.specs.Turns.{AreRight}
use Rattle.fab_legal.specs.Nets.{IsRightStep, IsRightEntry}
use Rattle.fab_legal.specs.Legal.{HasRightSteps, HasRightEntries}
use Rattle.fab_legal.specs.Broken.{IsEdgeItem, IsStepItem, IsEntryItem, IsNetItem, IsSinkItem, IsSharedItem, Explains, rule_5, rule_6, rule_7, rule_8, rule_9}
use Rattle.fab_legal.specs.inner.Answers.{Breaks}
use Rattle.fab_legal.proofs.Cells.{explained}
use Rattle.fab_legal.proofs.trees.check_trees.Goals as goal

pub returns-in_err-check_steps-clause-err : goal.returns-in_err-check_steps-clause-err
returns-in_err-check_steps-clause-err c = λ x constraints.
    let told = err_from_is_err_and c.from_residual.result c.from_residual.ensures.1 in
    let f = c.args.fabric.now in
    let p = c.args.packed.now in
    let i = c.args.implementation.now in
    let trees_are : c.deref.result.now ≡ i.trees = c.deref.ensures.value ∙ ap (λ (m : PlainImplementation). m.trees) c.implementation.view_is in
    let breaks = subst (λ (trees : List PlainTree). Breaks 5 (IsEdgeItem f (HasRightSteps f) (λ (t : PlainTree). IsRightStep f) trees) c.in_err-check_steps.field-0.0) trees_are c.in_err-check_steps.ensures.err in
    rw (told.1, told.2) (explained f p x i 5 (IsStepItem f i) c.in_err-check_steps.field-0.0 (λ item broken. rule_5 c.requires.sites constraints broken) breaks)

pub check_entries-requires : goal.check_entries-requires
check_entries-requires c =
    let trees_are : c.deref-2.result.now ≡ c.args.implementation.now.trees = c.deref-2.ensures.value ∙ ap (λ (m : PlainImplementation). m.trees) c.implementation.view_is in
    subst (λ (trees : List PlainTree). All (λ (tree : PlainTree). All (HasWires c.args.fabric.now) tree.edges) trees) (sym trees_are) c.requires.on_fabric.wires

pub returns-in_err-check_entries-clause-err : goal.returns-in_err-check_entries-clause-err
returns-in_err-check_entries-clause-err c = λ x constraints.
    let told = err_from_is_err_and c.from_residual-in_err-check_entries.result c.from_residual-in_err-check_entries.ensures.1 in
    let f = c.args.fabric.now in
    let p = c.args.packed.now in
    let i = c.args.implementation.now in
    let first : c.deref.result.now ≡ i.trees = c.deref.ensures.value ∙ ap (λ (m : PlainImplementation). m.trees) c.implementation.view_is in
    let trees_are : c.deref-2.result.now ≡ i.trees = c.deref-2.ensures.value ∙ ap (λ (m : PlainImplementation). m.trees) c.implementation.view_is in
    let steps = subst (λ (trees : List PlainTree). AreRight (HasRightSteps f) trees) first c.in_ok-check_steps.ensures.ok in
    let breaks = subst (λ (trees : List PlainTree). Breaks 6 (IsEdgeItem f HasRightEntries (λ (t : PlainTree). IsRightEntry t.edges) trees) c.in_err-check_entries.field-0.0) trees_are c.in_err-check_entries.ensures.err in
    rw (told.1, told.2) (explained f p x i 6 (IsEntryItem f i) c.in_err-check_entries.field-0.0 (λ item broken. rule_6 c.requires.sites constraints steps broken) breaks)

pub returns-in_err-numbers-clause-err : goal.returns-in_err-numbers-clause-err
returns-in_err-numbers-clause-err c = λ x constraints.
    let told = err_from_is_err_and c.from_residual-in_err-numbers.result c.from_residual-in_err-numbers.ensures.1 in
    let f = c.args.fabric.now in
    let p = c.args.packed.now in
    let i = c.args.implementation.now in
    let first : c.deref.result.now ≡ i.trees = c.deref.ensures.value ∙ ap (λ (m : PlainImplementation). m.trees) c.implementation.view_is in
    let trees_are : c.deref-2.result.now ≡ i.trees = c.deref-2.ensures.value ∙ ap (λ (m : PlainImplementation). m.trees) c.implementation.view_is in
    let steps = subst (λ (trees : List PlainTree). AreRight (HasRightSteps f) trees) first c.in_ok-check_steps.ensures.ok in
    let reached = subst (λ (trees : List PlainTree). AreRight HasRightEntries trees) trees_are c.in_ok-check_entries.ensures.ok in
    rw (told.1, told.2) (explained f p x i 7 (IsNetItem f p i) c.in_err-numbers.field-0.0 (λ item broken. rule_7 c.requires.sites constraints steps reached broken) c.in_err-numbers.ensures.err)

pub returns-in_err-sets-clause-err : goal.returns-in_err-sets-clause-err
returns-in_err-sets-clause-err c = λ x constraints.
    let told = err_from_is_err_and c.from_residual-in_err-sets.result c.from_residual-in_err-sets.ensures.1 in
    let f = c.args.fabric.now in
    let p = c.args.packed.now in
    let i = c.args.implementation.now in
    let first : c.deref.result.now ≡ i.trees = c.deref.ensures.value ∙ ap (λ (m : PlainImplementation). m.trees) c.implementation.view_is in
    let trees_are : c.deref-2.result.now ≡ i.trees = c.deref-2.ensures.value ∙ ap (λ (m : PlainImplementation). m.trees) c.implementation.view_is in
    let steps = subst (λ (trees : List PlainTree). AreRight (HasRightSteps f) trees) first c.in_ok-check_steps.ensures.ok in
    let reached = subst (λ (trees : List PlainTree). AreRight HasRightEntries trees) trees_are c.in_ok-check_entries.ensures.ok in
    rw (told.1, told.2) (explained f p x i 8 (IsSinkItem f p i) c.in_err-sets.field-0.0 (λ item broken. rule_8 c.requires.sites constraints steps reached c.in_ok-numbers.ensures.ok broken) c.in_err-sets.ensures.err)

pub returns-clause-legal : goal.returns-clause-legal
returns-clause-legal c = λ x constraints.
    let i = c.args.implementation.now in
    let first : c.deref.result.now ≡ i.trees = c.deref.ensures.value ∙ ap (λ (m : PlainImplementation). m.trees) c.implementation.view_is in
    let trees_are : c.deref-2.result.now ≡ i.trees = c.deref-2.ensures.value ∙ ap (λ (m : PlainImplementation). m.trees) c.implementation.view_is in
    let steps = subst (λ (trees : List PlainTree). AreRight (HasRightSteps c.args.fabric.now) trees) first c.in_ok-check_steps.ensures.ok in
    let reached = subst (λ (trees : List PlainTree). AreRight HasRightEntries trees) trees_are c.in_ok-check_entries.ensures.ok in
    on_ok_weaker c.check_apart.result
    (λ apart. record { placed = c.requires.sites; constraints = constraints; steps = steps; reached = reached; nets = c.in_ok-numbers.ensures.ok; sinks = c.in_ok-sets.ensures.ok; apart = apart }) c.check_apart.ensures.ok

pub returns-clause-err : goal.returns-clause-err
returns-clause-err c = λ x constraints.
    let f = c.args.fabric.now in
    let p = c.args.packed.now in
    let i = c.args.implementation.now in
    let first : c.deref.result.now ≡ i.trees = c.deref.ensures.value ∙ ap (λ (m : PlainImplementation). m.trees) c.implementation.view_is in
    let trees_are : c.deref-2.result.now ≡ i.trees = c.deref-2.ensures.value ∙ ap (λ (m : PlainImplementation). m.trees) c.implementation.view_is in
    let steps = subst (λ (trees : List PlainTree). AreRight (HasRightSteps f) trees) first c.in_ok-check_steps.ensures.ok in
    let reached = subst (λ (trees : List PlainTree). AreRight HasRightEntries trees) trees_are c.in_ok-check_entries.ensures.ok in
    IfErr-weaker c.check_apart.result (Breaks 9 (IsSharedItem f i)) (Explains f p x i)
    (λ fault breaks. explained f p x i 9 (IsSharedItem f i) fault (λ item broken. rule_9 c.requires.sites constraints steps reached c.in_ok-numbers.ensures.ok c.in_ok-sets.ensures.ok broken) breaks) c.check_apart.ensures.err
