use Rattle.fab_syntax.specs.Plain.{plain_expr, plain_text}
use Rattle.fab_equations.specs.Instances.{instances}
use Rattle.fab_equations.proofs.Numbering.{some_there}
use Rattle.fab_wiring.proofs.Known.{added_serves, are_trees, compiled_as, found_serves, ok_all, ok_each}
use Rattle.fab_wiring.proofs.trees.Trees.tree.Goals as goal

pub returns-in-Some-clause-tree : goal.returns-in-Some-clause-tree
returns-in-Some-clause-tree c =
    found_serves (plain_text c.args.equations.now) c.args.self.now c.requires.trees c.args.instance c.module_of-module.result c.args.expr c.in-Some.tree
    c.module_of-module.ensures c.in-Some.ensures.found

pub returns-clause-trees : goal.returns-clause-trees
returns-clause-trees c =
    let text = plain_text c.args.equations.now in
    let there = some_there (instances text) c.args.instance c.requires.instance in
    let made = c.in_ok-tree.field-0 in
    let tree = c.into_inner.result in
    ok_all _ _ _ _ c.add.result c.add.ensures.known c.add.ensures.trees c.add.ensures.number
    (λ number known added last.
    are_trees text c.text_is_sound.ensures.sound c.args.self.now c.add.new.self c.args.instance c.module_of-module.result c.args.expr number tree known added last
    there.0 there.1 (c.module_of-module.ensures there.0 there.1)
    (compiled_as text there.0 c.args.expr (plain_expr c.expr.result.now) made.tree.value tree made.width c.expr.ensures c.into_inner.ensures (c.in_ok-tree.ensures there.0 there.1))
    c.requires.trees)

pub returns-clause-tree : goal.returns-clause-tree
returns-clause-tree c =
    let text = plain_text c.args.equations.now in
    let there = some_there (instances text) c.args.instance c.requires.instance in
    let made = c.in_ok-tree.field-0 in
    let tree = c.into_inner.result in
    ok_each _ _ _ _ c.add.result c.add.ensures.known c.add.ensures.trees c.add.ensures.number
    (λ number known added last.
    added_serves text c.text_is_sound.ensures.sound c.args.self.now c.add.new.self c.args.instance c.module_of-module.result c.args.expr number tree known added last
    there.0 there.1 (c.module_of-module.ensures there.0 there.1)
    (compiled_as text there.0 c.args.expr (plain_expr c.expr.result.now) made.tree.value tree made.width c.expr.ensures c.into_inner.ensures (c.in_ok-tree.ensures there.0 there.1)))
