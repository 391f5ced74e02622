use Rattle.std.proofs.Common.{◌≡◌, ◌++◌, take}
use Rattle.std.specs.List.{flat_map}
use Rattle.fab_texts.specs.Printed.{rows_text}
use Rattle.fab_impl.specs.Spelled.{tree_lines}
use Rattle.fab_impl.proofs.writer.put_trees.Given as goal

abbrev pub invariant-loop-tree : goal.invariant-loop-tree
invariant-loop-tree l = l.out.items ≡ l.fn.out.items ++ rows_text (flat_map (tree_lines l.fabric l.ins) (take l.tree-index l.trees))
