-- What an operator makes of bits that are below others is below what it makes of these.
use Rattle.std.proofs.Common.{◌≡◌, ℕ, ◌+◌, ◌^◌, List, length, sym, subst}
use Rattle.fab_syntax.specs.declared.tree.Op.TheVariants as ops
use Rattle.fab_systems_laws.specs.Ternary.{Tern as PlainTern}
use Rattle.fab_systems_laws.specs.Ternary.{unknown}
use Rattle.fab_solutions_laws.specs.Laws.{AreUnder}
use Rattle.fab_solutions_laws.specs.fab_ternary_laws_Operators.{agreed, both, differs, each_tern, either}
use Rattle.fab_solutions_laws.specs.fab_ternary_laws_Shown.{first_terns}
use Rattle.fab_solutions_laws.proofs.Orders.{agreed_grows, both_grows, differs_grows, either_grows, entry_grows, one_grows, operated_grows, under_append, under_each, under_inverse, under_self}
use Rattle.fab_compiled.specs.declared.whole_values.Pairing.TheVariants.{Both, Either, Differs, Agreed}
use Rattle.fab_compiled.specs.declared.tree.Tree.{Tree}
use Rattle.fab_compiled.specs.Trees.{tree_value}
use Rattle.fab_nodes.specs.declared.operands.Unary.{Unary}
use Rattle.fab_nodes.specs.declared.operands.Unary.TheVariants.{Inverse, Pick}
use Rattle.fab_nodes.specs.declared.operands.Binary.{Binary}
use Rattle.fab_nodes.specs.declared.operands.Binary.TheVariants.{Cat, Pair, Equal, Minus}
use Rattle.fab_nodes.specs.inner.Operands.{joined, made_of, one, parts, three, two}
use Rattle.fab_nodes.proofs.Parts.{has_one, has_three, has_two}

made_grows : (at : ℕ → PlainTern) (operator : Unary) (ts us : List PlainTern) → AreUnder ts us → AreUnder (made_of at operator ts) (made_of at operator us)
made_grows at Inverse ts us h = under_inverse ts us h
made_grows at (Pick first width) ts us h =
    let table = first_terns (2 ^ width) (λ k. at (first + k)) in (entry_grows table table ts us (under_self table) h, tt)

joined_grows : (operator : Binary) (ts us vs ws : List PlainTern) → AreUnder ts vs → AreUnder us ws → AreUnder (joined operator ts us) (joined operator vs ws)
joined_grows Cat ts us vs ws h k = under_append ts us vs ws h k
joined_grows (Pair Both) ts us vs ws h k = under_each both both_grows ts us vs ws h k
joined_grows (Pair Either) ts us vs ws h k = under_each either either_grows ts us vs ws h k
joined_grows (Pair Differs) ts us vs ws h k = under_each differs differs_grows ts us vs ws h k
joined_grows (Pair Agreed) ts us vs ws h k = under_each agreed agreed_grows ts us vs ws h k
joined_grows Equal ts us vs ws h k = operated_grows ops.Equal ts us vs ws h k
joined_grows Minus ts us vs ws h k = operated_grows ops.Minus ts us vs ws h k

-- the same of the value of an expression
module _ (at : ℕ → PlainTern) (tree : Tree) (own : List PlainTern) where
  pub one_under : (operator : Unary) (a : Tree) (ts : List PlainTern) → parts tree ≡ one operator a → AreUnder ts (tree_value at a) → own ≡ made_of at operator ts →
      AreUnder own (tree_value at tree)
  one_under operator a ts is h e =
      subst (λ (xs : List PlainTern). AreUnder xs (tree_value at tree)) (sym e)
      (subst (AreUnder (made_of at operator ts)) (sym ((has_one tree operator a is).value at)) (made_grows at operator ts (tree_value at a) h))

  pub two_under : (operator : Binary) (a b : Tree) (ts us : List PlainTern) → parts tree ≡ two operator a b → AreUnder ts (tree_value at a) →
      AreUnder us (tree_value at b) → own ≡ joined operator ts us → AreUnder own (tree_value at tree)
  two_under operator a b ts us is h k e =
      subst (λ (xs : List PlainTern). AreUnder xs (tree_value at tree)) (sym e)
      (subst (AreUnder (joined operator ts us)) (sym ((has_two tree operator a b is).value at)) (joined_grows operator ts us (tree_value at a) (tree_value at b) h k))

  -- of branches of which it is not known which is taken
  pub three_under : (c a b : Tree) (ts us : List PlainTern) → parts tree ≡ three c a b → length ts ≡ length us → AreUnder ts (tree_value at a) →
      AreUnder us (tree_value at b) → own ≡ each_tern agreed ts us → AreUnder own (tree_value at tree)
  three_under c a b ts us is long h k e =
      subst (λ (xs : List PlainTern). AreUnder xs (tree_value at tree)) (sym e)
      (subst (AreUnder (each_tern agreed ts us)) (sym ((has_three tree c a b is).value at))
      (one_grows unknown _ ts us (tree_value at a) (tree_value at b) long tt h k))
