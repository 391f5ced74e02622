-- How many operators an expression has.
use Rattle.std.proofs.Common.{ℕ, ◌+◌}
use Rattle.fab_compiled.specs.declared.tree.Tree.{Tree, Const, Bits, Pick', Cat', Not', And', Or', Xor', Equal', Minus', Cond'}

abbrev pub tree_size : Tree → ℕ
tree_size (Const bits) = 0
tree_size (Bits first count) = 0
tree_size (Pick' first width p index) = 1 + tree_size index
tree_size (Cat' p low width q high) = 1 + (tree_size low + tree_size high)
tree_size (Not' p e) = 1 + tree_size e
tree_size (And' p a q b) = 1 + (tree_size a + tree_size b)
tree_size (Or' p a q b) = 1 + (tree_size a + tree_size b)
tree_size (Xor' p a q b) = 1 + (tree_size a + tree_size b)
tree_size (Equal' width p a q b) = 1 + (tree_size a + tree_size b)
tree_size (Minus' width p a q b) = 1 + (tree_size a + tree_size b)
tree_size (Cond' p c q a r b) = 1 + (tree_size c + (tree_size a + tree_size b))
