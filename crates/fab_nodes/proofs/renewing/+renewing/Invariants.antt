use Rattle.std.proofs.Common.{◌+◌, ◌*◌}
use Rattle.fab_compiled.proofs.Sizes.{tree_size}
use Rattle.fab_nodes.proofs.renewing.+renewing.Given as goal

-- a call for an operand is for a smaller expression, and others go on within the same one
abbrev pub decreases-renew : goal.decreases-renew
decreases-renew l = 5 * tree_size l.tree.now + 4

abbrev pub decreases-renew_operator : goal.decreases-renew_operator
decreases-renew_operator l = 5 * tree_size l.tree.now + 3

abbrev pub decreases-renew_operands : goal.decreases-renew_operands
decreases-renew_operands l = 5 * tree_size l.tree.now + 2

abbrev pub decreases-renew_cond : goal.decreases-renew_cond
decreases-renew_cond l = 5 * (1 + (tree_size l.test.tree.now + (tree_size l.yes.tree.now + tree_size l.no.tree.now))) + 1

abbrev pub decreases-renew_two : goal.decreases-renew_two
decreases-renew_two l = 5 * (1 + (tree_size l.left.tree.now + tree_size l.right.tree.now))
