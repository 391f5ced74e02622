-- What is known of the value of a compiled expression stays known where more is known of its places, and it depends on these places alone.
use Rattle.std.proofs.Common.{◌≡◌, ℕ, zero, suc, ◌+◌, ◌^◌, ◌<◌, [], ◌∷◌, ◌++◌, map, refl, sym, ap, ap₂, ◌∙◌, arith}
use Rattle.fab_syntax.specs.declared.tree.Op.TheVariants as ops
use Rattle.fab_systems_laws.specs.Ternary.{Tern, known, IsBelow}
use Rattle.fab_solutions_laws.specs.fab_ternary_laws_Operators.{tern_at, inverse, tern_operated, one_of, entry}
use Rattle.fab_solutions_laws.specs.fab_ternary_laws_Shown.{first_terns}
use Rattle.fab_solutions_laws.specs.Laws.{AreUnder}
use Rattle.fab_solutions_laws.proofs.Orders.{under_self, under_at, under_inverse, under_append, under_first, operated_grows, one_grows, entry_grows}
use Rattle.fab_compiled.specs.declared.tree.Tree.{Tree, Const, Bits, Pick', Cat', Not', And', Or', Xor', Equal', Minus', Cond'}
use Rattle.fab_compiled.specs.Trees.{tree_value, IsMade, IsBelowPlace, EachPlace}
use Rattle.fab_compiled.proofs.Lengths.{value_length}

module _ (bound : ℕ) (at later : ℕ → Tern) (grow : (k : ℕ) → k < bound → IsBelow (at k) (later k)) where
  pub tree_grows : (tree : Tree) → IsMade tree → IsBelowPlace bound tree → AreUnder (tree_value at tree) (tree_value later tree)
  tree_grows (Const bits) made below = under_self (map known bits.items)
  tree_grows (Bits first count) made below = under_first count (λ k. at (first + k)) (λ k. later (first + k)) (λ k l. grow (first + k) (omega (arith, below)))
  tree_grows (Pick' first width p index) made below = (
    entry_grows (first_terns (2 ^ width) (λ k. at (first + k))) (first_terns (2 ^ width) (λ k. later (first + k))) (tree_value at index) (tree_value later index)
        (under_first (2 ^ width) (λ k. at (first + k)) (λ k. later (first + k)) (λ k l. grow (first + k) (omega (arith, below.0))))
        (tree_grows index made.2 below.1),
    tt,
  )
  tree_grows (Cat' p low width q high) made below =
      under_append (tree_value at low) (tree_value at high) (tree_value later low) (tree_value later high) (tree_grows low made.1 below.0) (tree_grows high made.2 below.1)
  tree_grows (Not' p e) made below = under_inverse (tree_value at e) (tree_value later e) (tree_grows e made below)
  tree_grows (And' p a q b) made below =
      operated_grows ops.And (tree_value at a) (tree_value at b) (tree_value later a) (tree_value later b) (tree_grows a made.1 below.0) (tree_grows b made.2 below.1)
  tree_grows (Or' p a q b) made below =
      operated_grows ops.Or (tree_value at a) (tree_value at b) (tree_value later a) (tree_value later b) (tree_grows a made.1 below.0) (tree_grows b made.2 below.1)
  tree_grows (Xor' p a q b) made below =
      operated_grows ops.Xor (tree_value at a) (tree_value at b) (tree_value later a) (tree_value later b) (tree_grows a made.1 below.0) (tree_grows b made.2 below.1)
  tree_grows (Equal' width p a q b) made below =
      operated_grows ops.Equal (tree_value at a) (tree_value at b) (tree_value later a) (tree_value later b) (tree_grows a made.2 below.0) (tree_grows b made.3 below.1)
  tree_grows (Minus' width p a q b) made below =
      operated_grows ops.Minus (tree_value at a) (tree_value at b) (tree_value later a) (tree_value later b) (tree_grows a made.2 below.0) (tree_grows b made.3 below.1)
  tree_grows (Cond' p c q a r b) made below =
      one_grows (tern_at (tree_value at c) 0) (tern_at (tree_value later c) 0) (tree_value at a) (tree_value at b) (tree_value later a) (tree_value later b)
      (value_length at a made.3 ∙ made.1 ∙ sym (value_length at b made.4))
      (under_at (tree_value at c) (tree_value later c) (tree_grows c made.2 below.0) 0) (tree_grows a made.3 below.1) (tree_grows b made.4 below.2)

pub same_first : (n : ℕ) (f g : ℕ → Tern) → ((k : ℕ) → k < n → f k ≡ g k) → first_terns n f ≡ first_terns n g
same_first zero f g h = refl
same_first (suc n) f g h = ap₂ (λ t ts. t ∷ ts) (h 0 (omega arith)) (same_first n (λ k. f (suc k)) (λ k. g (suc k)) (λ k l. h (suc k) (omega arith)))

module _ (Has : ℕ → Type 0) (at other : ℕ → Tern) (same : (k : ℕ) → Has k → at k ≡ other k) where
  pub tree_same : (tree : Tree) → EachPlace Has tree → tree_value at tree ≡ tree_value other tree
  tree_same (Const bits) each = refl
  tree_same (Bits first count) each = same_first count (λ k. at (first + k)) (λ k. other (first + k)) (λ k l. same (first + k) (each k l))
  tree_same (Pick' first width p index) each =
      ap₂ (λ ts us. entry ts us ∷ []) (same_first (2 ^ width) (λ k. at (first + k)) (λ k. other (first + k)) (λ k l. same (first + k) (each.0 k l))) (tree_same index each.1)
  tree_same (Cat' p low width q high) each = ap₂ (λ ts us. ts ++ us) (tree_same low each.0) (tree_same high each.1)
  tree_same (Not' p e) each = ap (map inverse) (tree_same e each)
  tree_same (And' p a q b) each = ap₂ (tern_operated ops.And) (tree_same a each.0) (tree_same b each.1)
  tree_same (Or' p a q b) each = ap₂ (tern_operated ops.Or) (tree_same a each.0) (tree_same b each.1)
  tree_same (Xor' p a q b) each = ap₂ (tern_operated ops.Xor) (tree_same a each.0) (tree_same b each.1)
  tree_same (Equal' width p a q b) each = ap₂ (tern_operated ops.Equal) (tree_same a each.0) (tree_same b each.1)
  tree_same (Minus' width p a q b) each = ap₂ (tern_operated ops.Minus) (tree_same a each.0) (tree_same b each.1)
  tree_same (Cond' p c q a r b) each =
      (λ j. one_of (tern_at (tree_same c each.0 j) 0) (tree_same a each.1 j) (tree_same b each.2 j))
