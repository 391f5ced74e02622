-- Values of the nodes of an expression in one list: those of an operator first, and behind them those of its operands. Names, parts of names and constants have
-- none there, since their bits are found at once.
use Rattle.std.specs.Prelude.{◌≡◌, ℕ, ◌+◌, List, length, take, drop, map}
use Rattle.fab_systems_laws.specs.Ternary.{Tern as PlainTern}
use Rattle.fab_solutions_laws.specs.Laws.{AreUnder}
use Rattle.fab_ternary.specs.Terns.{plain_tern}
use Rattle.fab_compiled.specs.declared.tree.Tree.{Tree, Const, Bits, Pick', Cat', Not', And', Or', Xor', Equal', Minus', Cond'}
use Rattle.fab_compiled.specs.Trees.{tree_width, tree_value}
use Rattle.fab_nodes.specs.declared.layout.Node.{Node}
use Rattle.fab_nodes.specs.declared.layout.Layout.{Layout, Leaf, One', Two', Three'}
use Rattle.fab_nodes.specs.declared.values.NodeValues.{NodeValues}

-- how many bits the nodes of an expression have together
abbrev pub room : Tree → ℕ
room (Const bits) = 0
room (Bits first count) = 0
room (Pick' first width p index) = 1 + room index
room (Cat' p low width q high) = (width + tree_width high) + (room low + room high)
room (Not' p e) = tree_width e + room e
room (And' p a q b) = tree_width a + (room a + room b)
room (Or' p a q b) = tree_width a + (room a + room b)
room (Xor' p a q b) = tree_width a + (room a + room b)
room (Equal' width p a q b) = 1 + (room a + room b)
room (Minus' width p a q b) = width + (room a + room b)
room (Cond' p c q a r b) = tree_width a + (room c + (room a + room b))

-- What is kept of each node knows no more than its value does, where places have these.
abbrev pub AreNodes : (at : ℕ → PlainTern) → Tree → List PlainTern → Type 0
AreNodes at (Const bits) ts = Unit {0}
AreNodes at (Bits first count) ts = Unit {0}
AreNodes at (Pick' first width p index) ts = AreUnder (take 1 ts) (tree_value at (Pick' first width p index)) × AreNodes at index (drop 1 ts)
AreNodes at (Cat' p low width q high) ts =
    AreUnder (take (width + tree_width high) ts) (tree_value at (Cat' p low width q high))
    × AreNodes at low (take (room low) (drop (width + tree_width high) ts)) × AreNodes at high (drop (room low) (drop (width + tree_width high) ts))
AreNodes at (Not' p e) ts = AreUnder (take (tree_width e) ts) (tree_value at (Not' p e)) × AreNodes at e (drop (tree_width e) ts)
AreNodes at (And' p a q b) ts =
    AreUnder (take (tree_width a) ts) (tree_value at (And' p a q b))
    × AreNodes at a (take (room a) (drop (tree_width a) ts)) × AreNodes at b (drop (room a) (drop (tree_width a) ts))
AreNodes at (Or' p a q b) ts =
    AreUnder (take (tree_width a) ts) (tree_value at (Or' p a q b))
    × AreNodes at a (take (room a) (drop (tree_width a) ts)) × AreNodes at b (drop (room a) (drop (tree_width a) ts))
AreNodes at (Xor' p a q b) ts =
    AreUnder (take (tree_width a) ts) (tree_value at (Xor' p a q b))
    × AreNodes at a (take (room a) (drop (tree_width a) ts)) × AreNodes at b (drop (room a) (drop (tree_width a) ts))
AreNodes at (Equal' width p a q b) ts =
    AreUnder (take 1 ts) (tree_value at (Equal' width p a q b)) × AreNodes at a (take (room a) (drop 1 ts)) × AreNodes at b (drop (room a) (drop 1 ts))
AreNodes at (Minus' width p a q b) ts =
    AreUnder (take width ts) (tree_value at (Minus' width p a q b)) × AreNodes at a (take (room a) (drop width ts)) × AreNodes at b (drop (room a) (drop width ts))
AreNodes at (Cond' p c q a r b) ts =
    AreUnder (take (tree_width a) ts) (tree_value at (Cond' p c q a r b))
    × AreNodes at c (take (room c) (drop (tree_width a) ts)) × AreNodes at a (take (room a) (drop (room c) (drop (tree_width a) ts)))
    × AreNodes at b (drop (room a) (drop (room c) (drop (tree_width a) ts)))

-- the same of the operands of an expression, whose values follow one another
abbrev pub AreOperands : (at : ℕ → PlainTern) → Tree → List PlainTern → Type 0
AreOperands at (Const bits) ts = Unit {0}
AreOperands at (Bits first count) ts = Unit {0}
AreOperands at (Pick' first width p index) ts = AreNodes at index ts
AreOperands at (Cat' p low width q high) ts = AreNodes at low (take (room low) ts) × AreNodes at high (drop (room low) ts)
AreOperands at (Not' p e) ts = AreNodes at e ts
AreOperands at (And' p a q b) ts = AreNodes at a (take (room a) ts) × AreNodes at b (drop (room a) ts)
AreOperands at (Or' p a q b) ts = AreNodes at a (take (room a) ts) × AreNodes at b (drop (room a) ts)
AreOperands at (Xor' p a q b) ts = AreNodes at a (take (room a) ts) × AreNodes at b (drop (room a) ts)
AreOperands at (Equal' width p a q b) ts = AreNodes at a (take (room a) ts) × AreNodes at b (drop (room a) ts)
AreOperands at (Minus' width p a q b) ts = AreNodes at a (take (room a) ts) × AreNodes at b (drop (room a) ts)
AreOperands at (Cond' p c q a r b) ts =
    AreNodes at c (take (room c) ts) × AreNodes at a (take (room a) (drop (room c) ts)) × AreNodes at b (drop (room a) (drop (room c) ts))

-- A node has as many bits as the expression, and its room is that of the expression.
pub record IsNodeOf (tree : Tree) (node : Node) : Type 0 where
  pub width : node.width ≡ tree_width tree
  pub room : node.room ≡ room tree

-- A layout has the form of its expression.
abbrev pub IsLaidOut : Tree → Layout → Type 0
IsLaidOut (Const bits) (Leaf node) = IsNodeOf (Const bits) node
IsLaidOut (Bits first count) (Leaf node) = IsNodeOf (Bits first count) node
IsLaidOut (Pick' first width p index) (One' node x l) = IsNodeOf (Pick' first width p index) node × IsLaidOut index l
IsLaidOut (Not' p e) (One' node x l) = IsNodeOf (Not' p e) node × IsLaidOut e l
IsLaidOut (Cat' p low width q high) (Two' node x l y m) = IsNodeOf (Cat' p low width q high) node × IsLaidOut low l × IsLaidOut high m
IsLaidOut (And' p a q b) (Two' node x l y m) = IsNodeOf (And' p a q b) node × IsLaidOut a l × IsLaidOut b m
IsLaidOut (Or' p a q b) (Two' node x l y m) = IsNodeOf (Or' p a q b) node × IsLaidOut a l × IsLaidOut b m
IsLaidOut (Xor' p a q b) (Two' node x l y m) = IsNodeOf (Xor' p a q b) node × IsLaidOut a l × IsLaidOut b m
IsLaidOut (Equal' width p a q b) (Two' node x l y m) = IsNodeOf (Equal' width p a q b) node × IsLaidOut a l × IsLaidOut b m
IsLaidOut (Minus' width p a q b) (Two' node x l y m) = IsNodeOf (Minus' width p a q b) node × IsLaidOut a l × IsLaidOut b m
IsLaidOut (Cond' p c q a r b) (Three' node x l y m z n) = IsNodeOf (Cond' p c q a r b) node × IsLaidOut c l × IsLaidOut a m × IsLaidOut b n
IsLaidOut _ _ = ⊥

-- What is kept of an expression is right where places have these values.
pub record AreKept (at : ℕ → PlainTern) (tree : Tree) (values : NodeValues) : Type 0 where
  pub layout : IsLaidOut tree values.layout.value
  pub long : length values.bits.items ≡ room tree
  pub nodes : AreNodes at tree (map plain_tern values.bits.items)
