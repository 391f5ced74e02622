use Rattle.std.proofs.Common.{◌+◌, ◌*◌}
use Rattle.fab_compiled.proofs.Sizes.{tree_size}
use Rattle.fab_compiled.proofs.whole_values.+adding.Given as goal

abbrev pub decreases-add_whole : goal.decreases-add_whole
decreases-add_whole l = 2 * tree_size l.tree.now

abbrev pub decreases-add_both : goal.decreases-add_both
decreases-add_both l = 2 * (tree_size l.left.now + tree_size l.right.now) + 1
