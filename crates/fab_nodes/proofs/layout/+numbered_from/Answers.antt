use Rattle.std.proofs.Common.{ap, ◌∙◌}
use Rattle.fab_nodes.specs.inner.Operands.{handed}
use Rattle.fab_nodes.proofs.layout.+numbered_from.Goals as goal

pub returns-in_ok-operand-in-One : goal.returns-in_ok-operand-in-One
returns-in_ok-operand-in-One t c =
    c.over_one.ensures c.args.tree.now c.in-One.operand.now (c.operands_of.ensures ∙ ap handed c.in-One.is) c.in_ok-operand-in-One.ensures

pub returns-in_ok-right-in-Two : goal.returns-in_ok-right-in-Two
returns-in_ok-right-in-Two t c =
    c.over_two.ensures c.args.tree.now c.in-Two.left.now c.in-Two.right.now (c.operands_of.ensures ∙ ap handed c.in-Two.is) c.requires.made
    c.in_ok-left-in-Two.ensures c.in_ok-right-in-Two.ensures

pub returns-in_ok-no-in-Three : goal.returns-in_ok-no-in-Three
returns-in_ok-no-in-Three t c =
    c.over_three.ensures c.args.tree.now c.in-Three.test.now c.in-Three.yes.now c.in-Three.no.now (c.operands_of.ensures ∙ ap handed c.in-Three.is)
    c.in_ok-test-in-Three.ensures c.in_ok-yes-in-Three.ensures c.in_ok-no-in-Three.ensures
