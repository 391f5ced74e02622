-- How a walk through the nodes of an expression keeps what is right.
use Rattle.std.proofs.Common.{◌≡◌, ℕ, zero, suc, ◌+◌, ◌-◌, ◌<◌, ◌≤◌, false, List, [], ◌∷◌, ◌++◌, length, map, take, drop, set, refl, sym, ap, ◌∙◌, subst, arith}
use Rattle.std.proofs.lemmas.List.{take-map, drop-map}
use Rattle.fab_systems_laws.specs.Ternary.{no, yes, unknown, IsBelow}
use Rattle.fab_systems_laws.specs.Ternary.{Tern as PlainTern}
use Rattle.fab_solutions_laws.specs.Laws.{AreUnder}
use Rattle.fab_solutions_laws.specs.fab_ternary_laws_Operators.{tern_at, inverse, agreed, each_tern, one_of}
use Rattle.fab_solutions_laws.specs.fab_ternary_laws_Shown.{through}
use Rattle.fab_solutions_laws.proofs.Orders.{Grows, both_grows, either_grows, differs_grows, agreed_grows, inverse_grows, through_grows}
use Rattle.fab_ternary.specs.declared.Tern.{Tern}
use Rattle.fab_ternary.specs.Terns.{plain_tern}
use Rattle.fab_compiled.specs.declared.tree.Tree.{Tree}
use Rattle.fab_compiled.specs.declared.whole_values.Pairing.{Pairing}
use Rattle.fab_compiled.specs.declared.whole_values.Pairing.TheVariants.{Both, Either, Differs, Agreed}
use Rattle.fab_compiled.specs.Pairs.{by}
use Rattle.fab_compiled.specs.Terns.{seen}
use Rattle.fab_compiled.specs.Trees.{tree_value, tree_width, IsMade}
use Rattle.fab_compiled.specs.Evaluation.{value_seen}
use Rattle.fab_compiled.proofs.Bits.{each_at, inverse_at, low_at, high_at}
use Rattle.fab_compiled.proofs.Evaluated.{wide_at}
use Rattle.fab_nodes.specs.declared.layout.Node.{Node}
use Rattle.fab_nodes.specs.declared.layout.Layout.{Layout, One', Two', Three'}
use Rattle.fab_nodes.specs.declared.operands.Unary.{Unary}
use Rattle.fab_nodes.specs.declared.operands.Unary.TheVariants.{Inverse}
use Rattle.fab_nodes.specs.declared.operands.Binary.{Binary}
use Rattle.fab_nodes.specs.declared.operands.Binary.TheVariants.{Pair}
use Rattle.fab_nodes.specs.Nodes.{room, AreNodes, AreOperands, IsLaidOut, IsNodeOf}
use Rattle.fab_nodes.specs.inner.Operands.{is_plain, one, parts, three, two}
use Rattle.fab_nodes.specs.inner.Renewing.{AreBoth, IsRead}
use Rattle.fab_nodes.proofs.Behind.{behind_plain, front_plain}
use Rattle.fab_nodes.proofs.Kept.{under_wide}
use Rattle.fab_nodes.proofs.Parts.{has_one, has_two, has_three, laid_as, nodes_from, nodes_own, nodes_operands, HasOne, HasTwo, HasThree}

abbrev plain : List Tern → List PlainTern
plain bits = map plain_tern bits

-- ---- a bit that is written

pub under_set : (bits : List Tern) (place : ℕ) (bit : Tern) (ts : List PlainTern) → AreUnder (plain bits) ts → IsBelow (plain_tern bit) (tern_at ts place) →
    AreUnder (plain (set bits place bit)) ts
under_set [] place bit ts under below = under
under_set (b ∷ bits) place bit [] under below = absurd under
under_set (b ∷ bits) zero bit (t ∷ ts) under below = (below, under.1)
under_set (b ∷ bits) (suc place) bit (t ∷ ts) under below = (under.0, under_set bits place bit ts under.1 below)

-- ---- bits of operators

pub by_grows : (pairing : Pairing) → Grows (by pairing)
by_grows Both = both_grows
by_grows Either = either_grows
by_grows Differs = differs_grows
by_grows Agreed = agreed_grows

-- a bit of one of two lists by a test
one_at : (s : PlainTern) (ts us : List PlainTern) (bit : ℕ) → bit < length ts → length ts ≡ length us →
    tern_at (one_of s ts us) bit ≡ through s (tern_at ts bit) (tern_at us bit)
one_at yes ts us bit l e = refl
one_at no ts us bit l e = refl
one_at unknown ts us bit l e = each_at agreed ts us bit l e

-- the same bits under other names
below_as : (r s : PlainTern) (ts us : List PlainTern) (bit : ℕ) → r ≡ s → us ≡ ts → IsBelow s (tern_at ts bit) → IsBelow r (tern_at us bit)
below_as r s ts us bit e is h =
    subst (λ (x : PlainTern). IsBelow x (tern_at us bit)) (sym e) (subst (λ (xs : List PlainTern). IsBelow s (tern_at xs bit)) (sym is) h)

pub low_below : (t : PlainTern) (ts us : List PlainTern) (bit : ℕ) → bit < length ts → IsBelow t (tern_at ts bit) → IsBelow t (tern_at (ts ++ us) bit)
low_below t ts us bit l h = subst (λ (x : PlainTern). IsBelow t x) (sym (low_at ts us bit l)) h

pub high_below : (t : PlainTern) (ts us : List PlainTern) (bit width : ℕ) → length ts ≡ width → width ≤ bit → IsBelow t (tern_at us (bit - width)) →
    IsBelow t (tern_at (ts ++ us) bit)
high_below t ts us bit width long past h =
    let e : length ts + (bit - width) ≡ bit = omega (arith, long, past) in
    subst (λ (x : PlainTern). IsBelow t x) (sym (high_at ts us (bit - width)) ∙ ap (tern_at (ts ++ us)) e) h

module _ (terns : List Tern) (leads : List ℕ) (first : ℕ) where
  -- an operand as it is lent
  lent_below : (t : PlainTern) (lent tree : Tree) (bit : ℕ) → lent ≡ tree → IsBelow t (tern_at (value_seen terns leads first lent) bit) →
      IsBelow t (tern_at (value_seen terns leads first tree) bit)
  lent_below t lent tree bit is h = subst (λ (x : Tree). IsBelow t (tern_at (value_seen terns leads first x) bit)) is h

  pub inverse_below : (tree a : Tree) (t r : PlainTern) (bit : ℕ) → HasOne tree Inverse a → IsMade tree → bit < tree_width tree → r ≡ inverse t →
      IsBelow t (tern_at (value_seen terns leads first a) bit) → IsBelow r (tern_at (value_seen terns leads first tree) bit)
  inverse_below tree a t r bit has made within is h =
      let ts = value_seen terns leads first a in
      let long : bit < length ts = omega (arith, within, has.width, wide_at terns leads first a (has.made made)) in
      below_as r (inverse t) (map inverse ts) (value_seen terns leads first tree) bit is (has.value (λ place. seen terns leads (first + place)))
      (subst (λ (x : PlainTern). IsBelow (inverse t) x) (sym (inverse_at ts bit long)) (inverse_grows t (tern_at ts bit) h))

  pub pair_below : (pairing : Pairing) (tree a b left right : Tree) (t u r : PlainTern) (bit : ℕ) → HasTwo tree (Pair pairing) a b → IsMade tree →
      bit < tree_width tree → left ≡ a → right ≡ b → r ≡ by pairing t u → IsBelow t (tern_at (value_seen terns leads first left) bit) →
      IsBelow u (tern_at (value_seen terns leads first right) bit) → IsBelow r (tern_at (value_seen terns leads first tree) bit)
  pair_below pairing tree a b left right t u r bit has made within of_left of_right is h k =
      let ts = value_seen terns leads first a in
      let us = value_seen terns leads first b in
      let long : length ts ≡ tree_width a = wide_at terns leads first a (has.made made).0 in
      let same : length ts ≡ length us = long ∙ has.wide made ∙ sym (wide_at terns leads first b (has.made made).1) in
      below_as r (by pairing t u) (each_tern (by pairing) ts us) (value_seen terns leads first tree) bit is
      (has.value (λ place. seen terns leads (first + place)))
      (subst (λ (x : PlainTern). IsBelow (by pairing t u) x) (sym (each_at (by pairing) ts us bit (omega (arith, within, has.width made, long)) same))
      (by_grows pairing t u (tern_at ts bit) (tern_at us bit) (lent_below t left a bit of_left h) (lent_below u right b bit of_right k)))

  pub cond_below : (tree test a b left right : Tree) (s t u r : PlainTern) (bit : ℕ) → HasThree tree test a b → IsMade tree →
      bit < tree_width tree → left ≡ a → right ≡ b → r ≡ through s t u → IsBelow s (tern_at (value_seen terns leads first test) 0) →
      IsBelow t (tern_at (value_seen terns leads first left) bit) → IsBelow u (tern_at (value_seen terns leads first right) bit) →
      IsBelow r (tern_at (value_seen terns leads first tree) bit)
  cond_below tree test a b left right s t u r bit has made within of_yes of_no is g h k =
      let tested = tern_at (value_seen terns leads first test) 0 in
      let ts = value_seen terns leads first a in
      let us = value_seen terns leads first b in
      let long : length ts ≡ tree_width a = wide_at terns leads first a (has.made made).1 in
      let same : length ts ≡ length us = long ∙ (has.wide made).1 ∙ sym (wide_at terns leads first b (has.made made).2) in
      below_as r (through s t u) (one_of tested ts us) (value_seen terns leads first tree) bit is (has.value (λ place. seen terns leads (first + place)))
      (subst (λ (x : PlainTern). IsBelow (through s t u) x) (sym (one_at tested ts us bit (omega (arith, within, has.width, long)) same))
      (through_grows s t u tested (tern_at ts bit) (tern_at us bit) g (lent_below t left a bit of_yes h) (lent_below u right b bit of_no k)))

  -- ---- operands of an expression that is looked at

  pub one_read : {tree : Tree} {layout : Layout} {node : Node} {x : _} {l : Layout} (operator : Unary) (a : Tree) → parts tree ≡ one operator a →
      layout ≡ One' node x l → IsRead terns leads first tree layout → IsRead terns leads first a l
  one_read {tree} {layout} {node} {x} {l} operator a is of read =
      let has = has_one tree operator a is in
      let laid : IsNodeOf tree node × IsLaidOut a l = laid_as tree (one operator a) (One' node x l) is (subst (IsLaidOut tree) of read.laid) in
      record {
        made = has.made read.made;
        view = read.view;
        few = read.few;
        begins = read.begins;
        inside = has.below (length leads - first) read.inside;
        laid = laid.1;
      }

  pub two_read : {tree : Tree} {layout : Layout} {node : Node} {x y : _} {l m : Layout} (operator : Binary) (a b : Tree) → parts tree ≡ two operator a b →
      layout ≡ Two' node x l y m → IsRead terns leads first tree layout → IsRead terns leads first a l × IsRead terns leads first b m
  two_read {tree} {layout} {node} {x} {y} {l} {m} operator a b is of read =
      let has = has_two tree operator a b is in
      let laid : IsNodeOf tree node × IsLaidOut a l × IsLaidOut b m =
      laid_as tree (two operator a b) (Two' node x l y m) is (subst (IsLaidOut tree) of read.laid) in (
        record {
          made = (has.made read.made).0;
          view = read.view;
          few = read.few;
          begins = read.begins;
          inside = (has.below (length leads - first) read.inside).0;
          laid = laid.1;
        },
        record {
          made = (has.made read.made).1;
          view = read.view;
          few = read.few;
          begins = read.begins;
          inside = (has.below (length leads - first) read.inside).1;
          laid = laid.2;
        },
      )

  pub three_read : {tree : Tree} {layout : Layout} {node : Node} {x y z : _} {l m n : Layout} (test a b : Tree) → parts tree ≡ three test a b →
      layout ≡ Three' node x l y m z n → IsRead terns leads first tree layout →
      IsRead terns leads first test l × IsRead terns leads first a m × IsRead terns leads first b n
  three_read {tree} {layout} {node} {x} {y} {z} {l} {m} {n} test a b is of read =
      let has = has_three tree test a b is in
      let laid : IsNodeOf tree node × IsLaidOut test l × IsLaidOut a m × IsLaidOut b n =
      laid_as tree (three test a b) (Three' node x l y m z n) is (subst (IsLaidOut tree) of read.laid) in (
        record {
          made = (has.made read.made).0;
          view = read.view;
          few = read.few;
          begins = read.begins;
          inside = (has.below (length leads - first) read.inside).0;
          laid = laid.1;
        },
        record {
          made = (has.made read.made).1;
          view = read.view;
          few = read.few;
          begins = read.begins;
          inside = (has.below (length leads - first) read.inside).1;
          laid = laid.2;
        },
        record {
          made = (has.made read.made).2;
          view = read.view;
          few = read.few;
          begins = read.begins;
          inside = (has.below (length leads - first) read.inside).2;
          laid = laid.3;
        },
      )

  -- an operand as it is lent
  pub lent_read : {lent tree : Tree} {of layout : Layout} → lent ≡ tree → of ≡ layout → IsRead terns leads first tree layout → IsRead terns leads first lent of
  lent_read {lent} {tree} {of} {layout} is same read =
      subst (λ (x : Layout). IsRead terns leads first lent x) (sym same) (subst (λ (x : Tree). IsRead terns leads first x layout) (sym is) read)

-- ---- values that stand one behind the other

module _ (at : ℕ → PlainTern) where
  -- the first ones of bits that are split, and the others
  pub first_of : (tree : Tree) (n : ℕ) (bits xs : List Tern) → n ≡ room tree → xs ≡ take n bits → AreNodes at tree (take (room tree) (plain bits)) →
      AreNodes at tree (plain xs)
  first_of tree n bits xs long is h =
      subst (AreNodes at tree) (take-map plain_tern (room tree) bits ∙ ap plain (ap (λ k. take k bits) (sym long) ∙ sym is)) h

  pub rest_of : (P : List PlainTern → Type 0) (tree : Tree) (n : ℕ) (bits ys : List Tern) → n ≡ room tree → ys ≡ drop n bits →
      P (drop (room tree) (plain bits)) → P (plain ys)
  rest_of P tree n bits ys long is h = subst P (drop-map plain_tern (room tree) bits ∙ ap plain (ap (λ k. drop k bits) (sym long) ∙ sym is)) h

  -- of a node, and of its operands
  pub own_of : (tree : Tree) (n : ℕ) (bits xs : List Tern) → is_plain tree ≡ false → n ≡ tree_width tree → xs ≡ take n bits → AreNodes at tree (plain bits) →
      AreUnder (plain xs) (tree_value at tree)
  own_of tree n bits xs inner wide is h =
      subst (λ (ts : List PlainTern). AreUnder ts (tree_value at tree))
      (take-map plain_tern (tree_width tree) bits ∙ ap plain (ap (λ k. take k bits) (sym wide) ∙ sym is)) (nodes_own at tree (plain bits) inner h)

  pub operands_of : (tree : Tree) (n : ℕ) (bits ys : List Tern) → is_plain tree ≡ false → n ≡ tree_width tree → ys ≡ drop n bits →
      AreNodes at tree (plain bits) → AreOperands at tree (plain ys)
  operands_of tree n bits ys inner wide is h =
      subst (AreOperands at tree)
      (drop-map plain_tern (tree_width tree) bits ∙ ap plain (ap (λ k. drop k bits) (sym wide) ∙ sym is)) (nodes_operands at tree (plain bits) inner h)

  pub node_from : (tree : Tree) (own operands : List Tern) → is_plain tree ≡ false → IsMade tree → AreUnder (plain own) (tree_value at tree) →
      AreOperands at tree (plain operands) → AreNodes at tree (plain (own ++ operands))
  node_from tree own operands inner made h k =
      let wide = under_wide at tree own made h in
      nodes_from at tree (plain (own ++ operands)) inner
      (subst (λ (ts : List PlainTern). AreUnder ts (tree_value at tree)) (front_plain (tree_width tree) own operands wide) h)
      (subst (AreOperands at tree) (behind_plain (tree_width tree) own operands wide) k)

  -- ---- operands as they are lent, and back

  pub two_lent : (tree : Tree) {left right : Tree} (operator : Binary) (a b : Tree) (ts : List PlainTern) → parts tree ≡ two operator a b → left ≡ a →
      right ≡ b → AreOperands at tree ts → AreBoth at left right ts
  two_lent tree {left} {right} operator a b ts is e f h =
      subst (λ (x : Tree). AreBoth at x right ts) (sym e) (subst (λ (x : Tree). AreBoth at a x ts) (sym f) ((has_two tree operator a b is).operand at ts h))

  pub two_back : (tree : Tree) {left right : Tree} (operator : Binary) (a b : Tree) (ts : List PlainTern) → parts tree ≡ two operator a b → left ≡ a →
      right ≡ b → AreBoth at left right ts → AreOperands at tree ts
  two_back tree {left} {right} operator a b ts is e f h =
      (has_two tree operator a b is).operands at ts (subst (λ (x : Tree). AreBoth at x b ts) e (subst (λ (x : Tree). AreBoth at left x ts) f h))

  -- a test, and the branches behind it
  abbrev AreBehind : (test left right : Tree) → List PlainTern → Type 0
  AreBehind test left right ts = AreNodes at test (take (room test) ts) × (AreBoth at left right (drop (room test) ts))

  pub three_lent : (tree : Tree) {test left right : Tree} (c a b : Tree) (ts : List PlainTern) → parts tree ≡ three c a b → test ≡ c → left ≡ a → right ≡ b →
      AreOperands at tree ts → AreNodes at test (take (room test) ts) × (AreBoth at left right (drop (room test) ts))
  three_lent tree {test} {left} {right} c a b ts is d e f h =
      let of = (has_three tree c a b is).operand at ts h in
      let behind : AreBehind c a b ts = (of.0, (of.1, of.2)) in
      subst (λ (x : Tree). AreBehind x left right ts) (sym d) (subst (λ (x : Tree). AreBehind c x right ts) (sym e)
      (subst (λ (x : Tree). AreBehind c a x ts) (sym f) behind))

  pub three_back : (tree : Tree) {test left right : Tree} (c a b : Tree) (ts : List PlainTern) → parts tree ≡ three c a b → test ≡ c → left ≡ a → right ≡ b →
      AreNodes at test (take (room test) ts) → AreBoth at left right (drop (room test) ts) → AreOperands at tree ts
  three_back tree {test} {left} {right} c a b ts is d e f h k =
      let lent : AreBehind test left right ts = (h, k) in
      let behind : AreBehind c a b ts =
      subst (λ (x : Tree). AreBehind x a b ts) d (subst (λ (x : Tree). AreBehind test x b ts) e (subst (λ (x : Tree). AreBehind test left x ts) f lent)) in
      (has_three tree c a b is).operands at ts (behind.0, behind.1.0, behind.1.1)
