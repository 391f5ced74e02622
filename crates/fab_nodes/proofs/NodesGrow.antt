-- What is kept of the nodes of an expression stays right where more is known of its places.
use Rattle.std.proofs.Common.{ℕ, ◌+◌, ◌<◌, List, [], ◌∷◌, take, drop, map}
use Rattle.fab_systems_laws.specs.Ternary.{Tern, IsBelow}
use Rattle.fab_systems_laws.proofs.Order.{below_trans}
use Rattle.fab_solutions_laws.specs.Laws.{AreUnder}
use Rattle.fab_ternary.specs.Terns.{plain_tern}
use Rattle.fab_compiled.specs.declared.tree.Tree.{Tree, Const, Bits, Pick', Cat', Not', And', Or', Xor', Equal', Minus', Cond'}
use Rattle.fab_compiled.specs.Trees.{tree_value, tree_width, IsMade, IsBelowPlace}
use Rattle.fab_compiled.proofs.TreesGrow.{tree_grows}
use Rattle.fab_nodes.specs.declared.values.NodeValues.{NodeValues}
use Rattle.fab_nodes.specs.Nodes.{room, AreKept, AreNodes}

pub under_trans : (ts us vs : List Tern) → AreUnder ts us → AreUnder us vs → AreUnder ts vs
under_trans [] [] vs h k = k
under_trans [] (u ∷ us) vs h k = absurd h
under_trans (t ∷ ts) [] vs h k = absurd h
under_trans (t ∷ ts) (u ∷ us) [] h k = absurd k
under_trans (t ∷ ts) (u ∷ us) (v ∷ vs) h k = (below_trans t u v h.0 k.0, under_trans ts us vs h.1 k.1)

module _ (bound : ℕ) (at later : ℕ → Tern) (grow : (k : ℕ) → k < bound → IsBelow (at k) (later k)) where
  -- the values of a node itself
  own_grows : (tree : Tree) (ts : List Tern) → IsMade tree → IsBelowPlace bound tree → AreUnder ts (tree_value at tree) → AreUnder ts (tree_value later tree)
  own_grows tree ts made below h = under_trans ts (tree_value at tree) (tree_value later tree) h (tree_grows bound at later grow tree made below)

  pub nodes_grow : (tree : Tree) (ts : List Tern) → IsMade tree → IsBelowPlace bound tree → AreNodes at tree ts → AreNodes later tree ts
  nodes_grow (Const bits) ts made below h = tt
  nodes_grow (Bits first count) ts made below h = tt
  nodes_grow (Pick' first width p index) ts made below h =
      (own_grows (Pick' first width p index) (take 1 ts) made below h.0, nodes_grow index (drop 1 ts) made.2 below.1 h.1)
  nodes_grow (Cat' p low width q high) ts made below h = (
    own_grows (Cat' p low width q high) (take (width + tree_width high) ts) made below h.0,
    nodes_grow low (take (room low) (drop (width + tree_width high) ts)) made.1 below.0 h.1,
    nodes_grow high (drop (room low) (drop (width + tree_width high) ts)) made.2 below.1 h.2,
  )
  nodes_grow (Not' p e) ts made below h = (own_grows (Not' p e) (take (tree_width e) ts) made below h.0, nodes_grow e (drop (tree_width e) ts) made below h.1)
  nodes_grow (And' p a q b) ts made below h = (
    own_grows (And' p a q b) (take (tree_width a) ts) made below h.0,
    nodes_grow a (take (room a) (drop (tree_width a) ts)) made.1 below.0 h.1,
    nodes_grow b (drop (room a) (drop (tree_width a) ts)) made.2 below.1 h.2,
  )
  nodes_grow (Or' p a q b) ts made below h = (
    own_grows (Or' p a q b) (take (tree_width a) ts) made below h.0,
    nodes_grow a (take (room a) (drop (tree_width a) ts)) made.1 below.0 h.1,
    nodes_grow b (drop (room a) (drop (tree_width a) ts)) made.2 below.1 h.2,
  )
  nodes_grow (Xor' p a q b) ts made below h = (
    own_grows (Xor' p a q b) (take (tree_width a) ts) made below h.0,
    nodes_grow a (take (room a) (drop (tree_width a) ts)) made.1 below.0 h.1,
    nodes_grow b (drop (room a) (drop (tree_width a) ts)) made.2 below.1 h.2,
  )
  nodes_grow (Equal' width p a q b) ts made below h = (
    own_grows (Equal' width p a q b) (take 1 ts) made below h.0,
    nodes_grow a (take (room a) (drop 1 ts)) made.2 below.0 h.1,
    nodes_grow b (drop (room a) (drop 1 ts)) made.3 below.1 h.2,
  )
  nodes_grow (Minus' width p a q b) ts made below h = (
    own_grows (Minus' width p a q b) (take width ts) made below h.0,
    nodes_grow a (take (room a) (drop width ts)) made.2 below.0 h.1,
    nodes_grow b (drop (room a) (drop width ts)) made.3 below.1 h.2,
  )
  nodes_grow (Cond' p c q a r b) ts made below h = (
    own_grows (Cond' p c q a r b) (take (tree_width a) ts) made below h.0,
    nodes_grow c (take (room c) (drop (tree_width a) ts)) made.2 below.0 h.1,
    nodes_grow a (take (room a) (drop (room c) (drop (tree_width a) ts))) made.3 below.1 h.2,
    nodes_grow b (drop (room a) (drop (room c) (drop (tree_width a) ts))) made.4 below.2 h.3,
  )

  pub kept_grows : (tree : Tree) (values : NodeValues) → IsMade tree → IsBelowPlace bound tree → AreKept at tree values → AreKept later tree values
  kept_grows tree values made below kept = record {
    layout = kept.layout;
    long = kept.long;
    nodes = nodes_grow tree (map plain_tern values.bits.items) made below kept.nodes;
  }
