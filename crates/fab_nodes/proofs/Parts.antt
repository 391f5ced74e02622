-- What holds of an expression by its operator and operands: eleven forms are four.
use Rattle.std.proofs.Common.{◌≡◌, ℕ, ◌+◌, ◌<◌, ◌≤◌, false, List, take, drop, refl, sym, ◌∙◌, subst, arith}
use Rattle.std.proofs.lemmas.Bool.{false≢true}
use Rattle.fab_systems_laws.specs.Ternary.{Tern as PlainTern}
use Rattle.fab_solutions_laws.specs.fab_ternary_laws_Operators.{one_of, tern_at}
use Rattle.fab_solutions_laws.specs.Laws.{AreUnder}
use Rattle.fab_compiled.specs.declared.tree.Tree.{Tree, Const, Bits, Pick', Cat', Not', And', Or', Xor', Equal', Minus', Cond'}
use Rattle.fab_compiled.specs.Trees.{tree_value, tree_width, IsMade, IsBelowPlace}
use Rattle.fab_compiled.proofs.Sizes.{tree_size}
use Rattle.fab_nodes.specs.declared.layout.Node.{Node}
use Rattle.fab_nodes.specs.declared.layout.Layout.{Layout, Leaf, One', Two', Three'}
use Rattle.fab_nodes.specs.declared.operands.Unary.{Unary}
use Rattle.fab_nodes.specs.declared.operands.Binary.{Binary}
use Rattle.fab_nodes.specs.Nodes.{room, AreNodes, AreOperands, IsLaidOut, IsNodeOf}
use Rattle.fab_nodes.specs.inner.Operands.{is_plain, joined, joined_width, made_of, made_width, none, one, parts, three, two, AreWide, IsWide, Parts}

-- what holds where an expression has one operand
pub record HasOne (tree : Tree) (operator : Unary) (a : Tree) : Type 0 where
  pub smaller : tree_size a < tree_size tree
  pub made : IsMade tree → IsMade a
  pub wide : IsMade tree → IsWide operator (tree_width a)
  pub width : tree_width tree ≡ made_width operator (tree_width a)
  pub rooms : room tree ≡ tree_width tree + room a
  pub below : (bound : ℕ) → IsBelowPlace bound tree → IsBelowPlace bound a
  pub value : (at : ℕ → PlainTern) → tree_value at tree ≡ made_of at operator (tree_value at a)
  pub operands : (at : ℕ → PlainTern) (ts : List PlainTern) → AreNodes at a ts → AreOperands at tree ts
  pub operand : (at : ℕ → PlainTern) (ts : List PlainTern) → AreOperands at tree ts → AreNodes at a ts

-- where it has two
pub record HasTwo (tree : Tree) (operator : Binary) (a b : Tree) : Type 0 where
  pub smaller : tree_size a + tree_size b < tree_size tree
  pub made : IsMade tree → IsMade a × IsMade b
  pub wide : IsMade tree → AreWide operator (tree_width a) (tree_width b)
  pub width : IsMade tree → tree_width tree ≡ joined_width operator (tree_width a) (tree_width b)
  pub rooms : room tree ≡ tree_width tree + (room a + room b)
  pub below : (bound : ℕ) → IsBelowPlace bound tree → IsBelowPlace bound a × IsBelowPlace bound b
  pub value : (at : ℕ → PlainTern) → tree_value at tree ≡ joined operator (tree_value at a) (tree_value at b)
  pub operands : (at : ℕ → PlainTern) (ts : List PlainTern) → AreNodes at a (take (room a) ts) × AreNodes at b (drop (room a) ts) → AreOperands at tree ts
  pub operand : (at : ℕ → PlainTern) (ts : List PlainTern) → AreOperands at tree ts → AreNodes at a (take (room a) ts) × AreNodes at b (drop (room a) ts)

-- the bits of three nodes, one behind the other
abbrev pub AreThree : (at : ℕ → PlainTern) → (c a b : Tree) → List PlainTern → Type 0
AreThree at c a b ts = AreNodes at c (take (room c) ts) × AreNodes at a (take (room a) (drop (room c) ts)) × AreNodes at b (drop (room a) (drop (room c) ts))

-- where it has three
pub record HasThree (tree c a b : Tree) : Type 0 where
  pub smaller : tree_size c + (tree_size a + tree_size b) < tree_size tree
  pub made : IsMade tree → IsMade c × IsMade a × IsMade b
  pub wide : IsMade tree → (tree_width c ≡ 1) × (tree_width a ≡ tree_width b)
  pub width : tree_width tree ≡ tree_width a
  pub rooms : room tree ≡ tree_width tree + (room c + (room a + room b))
  pub below : (bound : ℕ) → IsBelowPlace bound tree → IsBelowPlace bound c × IsBelowPlace bound a × IsBelowPlace bound b
  pub value : (at : ℕ → PlainTern) → tree_value at tree ≡ one_of (tern_at (tree_value at c) 0) (tree_value at a) (tree_value at b)
  pub operands : (at : ℕ → PlainTern) (ts : List PlainTern) → AreThree at c a b ts → AreOperands at tree ts
  pub operand : (at : ℕ → PlainTern) (ts : List PlainTern) → AreOperands at tree ts → AreThree at c a b ts

abbrev Has : Tree → Parts → Type 0
Has tree none = Unit {0}
Has tree (one operator a) = HasOne tree operator a
Has tree (two operator a b) = HasTwo tree operator a b
Has tree (three c a b) = HasThree tree c a b

has : (tree : Tree) → Has tree (parts tree)
has (Const bits) = tt
has (Bits first count) = tt
has (Pick' first width p index) = record {
  smaller = omega arith;
  made = λ m. m.2;
  wide = λ m. (m.0, m.1);
  width = refl;
  rooms = refl;
  below = λ bound h. h.1;
  value = λ at. refl;
  operands = λ at ts h. h;
  operand = λ at ts h. h;
}
has (Not' p e) = record {
  smaller = omega arith;
  made = λ m. m;
  wide = λ m. tt;
  width = refl;
  rooms = refl;
  below = λ bound h. h;
  value = λ at. refl;
  operands = λ at ts h. h;
  operand = λ at ts h. h;
}
has (Cat' p low width q high) = record {
  smaller = omega arith;
  made = λ m. (m.1, m.2);
  wide = λ m. tt;
  width = λ m. omega (arith, m.0);
  rooms = refl;
  below = λ bound h. h;
  value = λ at. refl;
  operands = λ at ts h. h;
  operand = λ at ts h. h;
}
has (And' p a q b) = record {
  smaller = omega arith;
  made = λ m. (m.1, m.2);
  wide = λ m. m.0;
  width = λ m. refl;
  rooms = refl;
  below = λ bound h. h;
  value = λ at. refl;
  operands = λ at ts h. h;
  operand = λ at ts h. h;
}
has (Or' p a q b) = record {
  smaller = omega arith;
  made = λ m. (m.1, m.2);
  wide = λ m. m.0;
  width = λ m. refl;
  rooms = refl;
  below = λ bound h. h;
  value = λ at. refl;
  operands = λ at ts h. h;
  operand = λ at ts h. h;
}
has (Xor' p a q b) = record {
  smaller = omega arith;
  made = λ m. (m.1, m.2);
  wide = λ m. m.0;
  width = λ m. refl;
  rooms = refl;
  below = λ bound h. h;
  value = λ at. refl;
  operands = λ at ts h. h;
  operand = λ at ts h. h;
}
has (Equal' width p a q b) = record {
  smaller = omega arith;
  made = λ m. (m.2, m.3);
  wide = λ m. m.0 ∙ sym m.1;
  width = λ m. refl;
  rooms = refl;
  below = λ bound h. h;
  value = λ at. refl;
  operands = λ at ts h. h;
  operand = λ at ts h. h;
}
has (Minus' width p a q b) = record {
  smaller = omega arith;
  made = λ m. (m.2, m.3);
  wide = λ m. m.0 ∙ sym m.1;
  width = λ m. sym m.0;
  rooms = refl;
  below = λ bound h. h;
  value = λ at. refl;
  operands = λ at ts h. h;
  operand = λ at ts h. h;
}
has (Cond' p c q a r b) = record {
  smaller = omega arith;
  made = λ m. (m.2, m.3, m.4);
  wide = λ m. (m.0, m.1);
  width = refl;
  rooms = refl;
  below = λ bound h. h;
  value = λ at. refl;
  operands = λ at ts h. h;
  operand = λ at ts h. h;
}

pub has_one : (tree : Tree) (operator : Unary) (a : Tree) → parts tree ≡ one operator a → HasOne tree operator a
has_one tree operator a is = subst (Has tree) is (has tree)

pub has_two : (tree : Tree) (operator : Binary) (a b : Tree) → parts tree ≡ two operator a b → HasTwo tree operator a b
has_two tree operator a b is = subst (Has tree) is (has tree)

pub has_three : (tree c a b : Tree) → parts tree ≡ three c a b → HasThree tree c a b
has_three tree c a b is = subst (Has tree) is (has tree)

-- ---- layouts

-- a layout has the form of the operands
abbrev pub IsLaid : Tree → Parts → Layout → Type 0
IsLaid tree none (Leaf node) = IsNodeOf tree node
IsLaid tree (one operator a) (One' node x l) = IsNodeOf tree node × IsLaidOut a l
IsLaid tree (two operator a b) (Two' node x l y m) = IsNodeOf tree node × IsLaidOut a l × IsLaidOut b m
IsLaid tree (three c a b) (Three' node x l y m z n) = IsNodeOf tree node × IsLaidOut c l × IsLaidOut a m × IsLaidOut b n
IsLaid tree operands layout = ⊥

laid_out : (tree : Tree) (layout : Layout) → IsLaid tree (parts tree) layout ≡ IsLaidOut tree layout
laid_out (Const bits) (Leaf node) = refl
laid_out (Const bits) (One' node x l) = refl
laid_out (Const bits) (Two' node x l y m) = refl
laid_out (Const bits) (Three' node x l y m z n) = refl
laid_out (Bits first count) (Leaf node) = refl
laid_out (Bits first count) (One' node x l) = refl
laid_out (Bits first count) (Two' node x l y m) = refl
laid_out (Bits first count) (Three' node x l y m z n) = refl
laid_out (Pick' first width p index) (Leaf node) = refl
laid_out (Pick' first width p index) (One' node x l) = refl
laid_out (Pick' first width p index) (Two' node x l y m) = refl
laid_out (Pick' first width p index) (Three' node x l y m z n) = refl
laid_out (Not' p e) (Leaf node) = refl
laid_out (Not' p e) (One' node x l) = refl
laid_out (Not' p e) (Two' node x l y m) = refl
laid_out (Not' p e) (Three' node x l y m z n) = refl
laid_out (Cat' p low width q high) (Leaf node) = refl
laid_out (Cat' p low width q high) (One' node x l) = refl
laid_out (Cat' p low width q high) (Two' node x l y m) = refl
laid_out (Cat' p low width q high) (Three' node x l y m z n) = refl
laid_out (And' p a q b) (Leaf node) = refl
laid_out (And' p a q b) (One' node x l) = refl
laid_out (And' p a q b) (Two' node x l y m) = refl
laid_out (And' p a q b) (Three' node x l y m z n) = refl
laid_out (Or' p a q b) (Leaf node) = refl
laid_out (Or' p a q b) (One' node x l) = refl
laid_out (Or' p a q b) (Two' node x l y m) = refl
laid_out (Or' p a q b) (Three' node x l y m z n) = refl
laid_out (Xor' p a q b) (Leaf node) = refl
laid_out (Xor' p a q b) (One' node x l) = refl
laid_out (Xor' p a q b) (Two' node x l y m) = refl
laid_out (Xor' p a q b) (Three' node x l y m z n) = refl
laid_out (Equal' width p a q b) (Leaf node) = refl
laid_out (Equal' width p a q b) (One' node x l) = refl
laid_out (Equal' width p a q b) (Two' node x l y m) = refl
laid_out (Equal' width p a q b) (Three' node x l y m z n) = refl
laid_out (Minus' width p a q b) (Leaf node) = refl
laid_out (Minus' width p a q b) (One' node x l) = refl
laid_out (Minus' width p a q b) (Two' node x l y m) = refl
laid_out (Minus' width p a q b) (Three' node x l y m z n) = refl
laid_out (Cond' p c q a r b) (Leaf node) = refl
laid_out (Cond' p c q a r b) (One' node x l) = refl
laid_out (Cond' p c q a r b) (Two' node x l y m) = refl
laid_out (Cond' p c q a r b) (Three' node x l y m z n) = refl

pub laid_as : (tree : Tree) (operands : Parts) (layout : Layout) → parts tree ≡ operands → IsLaidOut tree layout → IsLaid tree operands layout
laid_as tree operands layout is h = subst (λ (p : Parts). IsLaid tree p layout) is (subst (λ X. X) (sym (laid_out tree layout)) h)

-- the same where the form of the layout is known
pub laid_form : (tree : Tree) (operands : Parts) (layout form : Layout) → parts tree ≡ operands → layout ≡ form → IsLaidOut tree layout → IsLaid tree operands form
laid_form tree operands layout form is e h = subst (IsLaid tree operands) e (laid_as tree operands layout is h)

-- what is told of a layout as a whole
abbrev pub node_in : Layout → Node
node_in (Leaf node) = node
node_in (One' node x l) = node
node_in (Two' node x l y m) = node
node_in (Three' node x l y m z n) = node

laid_node : (tree : Tree) (operands : Parts) (layout : Layout) → IsLaid tree operands layout → IsNodeOf tree (node_in layout)
laid_node tree none (Leaf node) h = h
laid_node tree none (One' node x l) h = absurd h
laid_node tree none (Two' node x l y m) h = absurd h
laid_node tree none (Three' node x l y m z n) h = absurd h
laid_node tree (one operator a) (Leaf node) h = absurd h
laid_node tree (one operator a) (One' node x l) h = h.0
laid_node tree (one operator a) (Two' node x l y m) h = absurd h
laid_node tree (one operator a) (Three' node x l y m z n) h = absurd h
laid_node tree (two operator a b) (Leaf node) h = absurd h
laid_node tree (two operator a b) (One' node x l) h = absurd h
laid_node tree (two operator a b) (Two' node x l y m) h = h.0
laid_node tree (two operator a b) (Three' node x l y m z n) h = absurd h
laid_node tree (three c a b) (Leaf node) h = absurd h
laid_node tree (three c a b) (One' node x l) h = absurd h
laid_node tree (three c a b) (Two' node x l y m) h = absurd h
laid_node tree (three c a b) (Three' node x l y m z n) h = h.0

pub node_of : (tree : Tree) (layout : Layout) → IsLaidOut tree layout → IsNodeOf tree (node_in layout)
node_of tree layout h = laid_node tree (parts tree) layout (laid_as tree (parts tree) layout refl h)

-- ---- the values of a node are the first ones, and behind them are those of its operands

module _ (at : ℕ → PlainTern) where
  pub nodes_from : (tree : Tree) (ts : List PlainTern) → is_plain tree ≡ false → AreUnder (take (tree_width tree) ts) (tree_value at tree) →
      AreOperands at tree (drop (tree_width tree) ts) → AreNodes at tree ts
  nodes_from (Const bits) ts h own rest = tt
  nodes_from (Bits first count) ts h own rest = tt
  nodes_from (Pick' first width p index) ts h own rest = (own, rest)
  nodes_from (Not' p e) ts h own rest = (own, rest)
  nodes_from (Cat' p low width q high) ts h own rest = (own, rest.0, rest.1)
  nodes_from (And' p a q b) ts h own rest = (own, rest.0, rest.1)
  nodes_from (Or' p a q b) ts h own rest = (own, rest.0, rest.1)
  nodes_from (Xor' p a q b) ts h own rest = (own, rest.0, rest.1)
  nodes_from (Equal' width p a q b) ts h own rest = (own, rest.0, rest.1)
  nodes_from (Minus' width p a q b) ts h own rest = (own, rest.0, rest.1)
  nodes_from (Cond' p c q a r b) ts h own rest = (own, rest.0, rest.1, rest.2)

  pub nodes_own : (tree : Tree) (ts : List PlainTern) → is_plain tree ≡ false → AreNodes at tree ts → AreUnder (take (tree_width tree) ts) (tree_value at tree)
  nodes_own (Const bits) ts h nodes = absurd (false≢true (sym h))
  nodes_own (Bits first count) ts h nodes = absurd (false≢true (sym h))
  nodes_own (Pick' first width p index) ts h nodes = nodes.0
  nodes_own (Not' p e) ts h nodes = nodes.0
  nodes_own (Cat' p low width q high) ts h nodes = nodes.0
  nodes_own (And' p a q b) ts h nodes = nodes.0
  nodes_own (Or' p a q b) ts h nodes = nodes.0
  nodes_own (Xor' p a q b) ts h nodes = nodes.0
  nodes_own (Equal' width p a q b) ts h nodes = nodes.0
  nodes_own (Minus' width p a q b) ts h nodes = nodes.0
  nodes_own (Cond' p c q a r b) ts h nodes = nodes.0

  pub nodes_operands : (tree : Tree) (ts : List PlainTern) → is_plain tree ≡ false → AreNodes at tree ts → AreOperands at tree (drop (tree_width tree) ts)
  nodes_operands (Const bits) ts h nodes = tt
  nodes_operands (Bits first count) ts h nodes = tt
  nodes_operands (Pick' first width p index) ts h nodes = nodes.1
  nodes_operands (Not' p e) ts h nodes = nodes.1
  nodes_operands (Cat' p low width q high) ts h nodes = (nodes.1, nodes.2)
  nodes_operands (And' p a q b) ts h nodes = (nodes.1, nodes.2)
  nodes_operands (Or' p a q b) ts h nodes = (nodes.1, nodes.2)
  nodes_operands (Xor' p a q b) ts h nodes = (nodes.1, nodes.2)
  nodes_operands (Equal' width p a q b) ts h nodes = (nodes.1, nodes.2)
  nodes_operands (Minus' width p a q b) ts h nodes = (nodes.1, nodes.2)
  nodes_operands (Cond' p c q a r b) ts h nodes = (nodes.1, nodes.2, nodes.3)

-- there is room for them
pub room_width : (tree : Tree) → is_plain tree ≡ false → tree_width tree ≤ room tree
room_width (Const bits) h = absurd (false≢true (sym h))
room_width (Bits first count) h = absurd (false≢true (sym h))
room_width (Pick' first width p index) h = omega arith
room_width (Not' p e) h = omega arith
room_width (Cat' p low width q high) h = omega arith
room_width (And' p a q b) h = omega arith
room_width (Or' p a q b) h = omega arith
room_width (Xor' p a q b) h = omega arith
room_width (Equal' width p a q b) h = omega arith
room_width (Minus' width p a q b) h = omega arith
room_width (Cond' p c q a r b) h = omega arith
