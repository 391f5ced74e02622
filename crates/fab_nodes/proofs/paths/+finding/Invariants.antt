use Rattle.std.proofs.Common.{◌+◌, ◌*◌}
use Rattle.fab_compiled.proofs.Sizes.{tree_size}
use Rattle.fab_nodes.proofs.paths.+finding.Given as goal

abbrev pub decreases-find_paths : goal.decreases-find_paths
decreases-find_paths l = 2 * tree_size l.tree.now + 1

abbrev pub decreases-find_below : goal.decreases-find_below
decreases-find_below l = 2 * tree_size l.tree.now
