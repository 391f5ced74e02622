-- Bits of equalities and differences of known operands, by the last place at which these differ.
use Rattle.std.proofs.Common.{◌≡◌, ◌≢◌, ℕ, zero, suc, ◌+◌, ◌-◌, ◌<◌, ◌≤◌, Bool, true, false, not, ◌&&◌, ◌||◌, List, length, Option, Some, None, is_some, refl, sym, ap, ◌∙◌, subst, inl, inr, arith}
use mathlib.Core.Bool.{beq}
use Rattle.std.proofs.lemmas.Bool.{cases_eq, false≢true}
use Rattle.std.proofs.lemmas.List.{length-map}
use Rattle.fab_bits.specs.Bits.{other_bit, same_bits}
use Rattle.fab_syntax.specs.declared.tree.Op.TheVariants as ops
use Rattle.fab_meaning.specs.Value.{bit_at}
use Rattle.fab_values.proofs.Evaluated.{agree, borrow_at, borrow_more, borrowed, differ}
use Rattle.fab_systems_laws.specs.Ternary.{known}
use Rattle.fab_ternary.specs.declared.Tern.{Tern}
use Rattle.fab_ternary.specs.Terns.{is_known, is_one}
use Rattle.fab_ternary_laws.specs.Operators.{tern_at, inverse, both, either, differs, same_terns, tern_operated}
use Rattle.fab_ternary_laws.proofs.Known.{known_same}
use Rattle.fab_compiled.specs.declared.tree.Tree.{Tree}
use Rattle.fab_compiled.specs.Terns.{seen}
use Rattle.fab_compiled.specs.Trees.{IsMade, tree_width}
use Rattle.fab_compiled.specs.Evaluation.{all_known, value_seen, IsWithin}
use Rattle.fab_compiled.proofs.Bits.{one_at}
use Rattle.fab_compiled.proofs.Evaluated.{minus_known, wide_at}
use Rattle.fab_stepping.specs.Boards.{LeadToThemselves}
use Rattle.fab_stepping.specs.inner.Known.{bits_seen, AgreeFrom, AreAllKnown, IsLastApart}
use Rattle.fab_stepping.proofs.KnownValues.{at_known, known_is, same_is, tree_known}
use Rattle.fab_stepping.proofs.Reading.{leads_seen}

-- ---- operators of known bits

pub inverse_is : (b : Bool) → known (not b) ≡ inverse (known b)
inverse_is true = refl
inverse_is false = refl

pub both_is : (a b : Bool) → known (a && b) ≡ both (known a) (known b)
both_is true b = refl
both_is false b = refl

pub either_is : (a b : Bool) → known (a || b) ≡ either (known a) (known b)
either_is true b = refl
either_is false b = refl

pub differs_is : (a b : Bool) → known (not (beq a b)) ≡ differs (known a) (known b)
differs_is true true = refl
differs_is true false = refl
differs_is false true = refl
differs_is false false = refl

-- ---- what is borrowed

-- bits that agree borrow nothing of their own
borrowed_same : (x y borrow : Bool) → x ≡ y → borrowed x y borrow ≡ borrow
borrowed_same true true borrow e = refl
borrowed_same true false borrow e = cc
borrowed_same false true borrow e = cc
borrowed_same false false borrow e = refl

borrowed_apart : (x y borrow : Bool) → x ≢ y → borrowed x y borrow ≡ y
borrowed_apart true true borrow n = absurd (n refl)
borrowed_apart true false borrow n = refl
borrowed_apart false true borrow n = refl
borrowed_apart false false borrow n = absurd (n refl)

module _ (xs ys : List Bool) (same : length xs ≡ length ys) where
  -- above a place the borrow stays where the bits agree
  borrow_stays : (place end : ℕ) → place ≤ end → end ≤ length xs → AgreeFrom xs ys place end → borrow_at false xs ys end ≡ borrow_at false xs ys place
  borrow_stays place zero low l h = let e : 0 ≡ place = omega (arith, low) in ap (borrow_at false xs ys) e
  borrow_stays place (suc end) low l h =
      elim (cases_eq place (suc end)) [
        | inl e ↦ ap (borrow_at false xs ys) (sym e)
        | inr n ↦
            let below : place ≤ end = omega (arith, low, n) in
            let next : suc end ≡ end + 1 = omega arith in
            ap (borrow_at false xs ys) next ∙ borrow_more false xs ys end (omega (arith, l)) same
            ∙ borrowed_same (bit_at xs end) (bit_at ys end) (borrow_at false xs ys end) (h end below (omega arith))
            ∙ borrow_stays place end below (omega (arith, l)) (λ k low_k l_k. h k low_k (omega (arith, l_k)))
      ]

  pub borrow_none : (end : ℕ) → end ≤ length xs → IsLastApart xs ys end None → borrow_at false xs ys end ≡ false
  borrow_none end l h = borrow_stays 0 end (omega arith) l h

  pub borrow_apart : (end place : ℕ) → end ≤ length xs → IsLastApart xs ys end (Some place) → borrow_at false xs ys end ≡ bit_at ys place
  borrow_apart end place l h =
      borrow_stays (place + 1) end (omega (arith, h.0)) l h.2
      ∙ borrow_more false xs ys place (omega (arith, h.0, l)) same
      ∙ borrowed_apart (bit_at xs place) (bit_at ys place) (borrow_at false xs ys place) h.1

  -- ---- equality

  pub same_of : (last : Option ℕ) → IsLastApart xs ys (length xs) last → (none : Bool) → is_some last ≡ not none → none ≡ same_bits xs ys
  same_of None h true tells = agree xs ys same (λ k l. h k (omega arith) l)
  same_of None h false tells = absurd (false≢true tells)
  same_of (Some place) h true tells = absurd (false≢true (sym tells))
  same_of (Some place) h false tells = differ xs ys place same h.0 h.1

-- ---- what is seen of an expression

module _ (terns : List Tern) (leads : List ℕ) (own : LeadToThemselves (length terns) leads) (are : AreAllKnown terns) (first : ℕ) (begins : first ≤ length leads) where
  pub value_known : (tree : Tree) → IsWithin tree first (length leads) → all_known (value_seen terns leads first tree) ≡ true
  value_known tree inside =
      tree_known (λ place. seen terns leads (first + place)) (length leads - first)
      (λ place l.
      let less : first + place < length terns = omega (arith, l, begins, own.long) in
      ap is_known (leads_seen (length terns) leads terns own (first + place) less) ∙ are (first + place) less) tree inside

  -- a bit as it is known
  pub bit_is : (tree : Tree) → IsWithin tree first (length leads) → (bit : ℕ) (b : Bool) → b ≡ bit_at (bits_seen terns leads first tree) bit →
      known b ≡ tern_at (value_seen terns leads first tree) bit
  bit_is tree inside bit b is =
      let value = value_seen terns leads first tree in
      ap known (is ∙ sym (one_at value bit)) ∙ known_is (tern_at value bit) (at_known value bit (value_known tree inside))

  module _ (left right : Tree) (width : ℕ) (left_made : IsMade left) (right_made : IsMade right) (left_wide : tree_width left ≡ width) (right_wide : tree_width right ≡ width)
      (left_inside : IsWithin left first (length leads)) (right_inside : IsWithin right first (length leads)) where
    abbrev xs : List Bool
    xs = bits_seen terns leads first left

    abbrev ys : List Bool
    ys = bits_seen terns leads first right

    long : length xs ≡ width
    long = length-map (value_seen terns leads first left) is_one ∙ wide_at terns leads first left left_made ∙ left_wide

    other_long : length ys ≡ width
    other_long = length-map (value_seen terns leads first right) is_one ∙ wide_at terns leads first right right_made ∙ right_wide

    pub equality_is : (last : Option ℕ) → IsLastApart xs ys width last → (none : Bool) → is_some last ≡ not none →
        known none ≡ same_terns (value_seen terns leads first left) (value_seen terns leads first right)
    equality_is last apart none tells =
        ap known (same_of xs ys (long ∙ sym other_long) last (subst (λ (n : ℕ). IsLastApart xs ys n last) (sym long) apart) none tells)
        ∙ sym (known_same xs ys)
        ∙ sym (same_is (value_seen terns leads first left) (value_seen terns leads first right) (value_known left left_inside) (value_known right right_inside))

    pub difference_is : (bit : ℕ) → bit < width → (borrow x y : Bool) → borrow ≡ borrow_at false xs ys bit → x ≡ bit_at xs bit → y ≡ bit_at ys bit →
        known (other_bit (other_bit x y) borrow) ≡ tern_at (tern_operated ops.Minus (value_seen terns leads first left) (value_seen terns leads first right)) bit
    difference_is bit within borrow x y borrow_is x_is y_is =
        let ts = value_seen terns leads first left in
        let us = value_seen terns leads first right in
        (λ j. known (other_bit (other_bit (x_is j) (y_is j)) (borrow_is j)))
        ∙ minus_known ts us bit (omega (arith, within, sym left_wide, wide_at terns leads first left left_made))
        (wide_at terns leads first left left_made ∙ left_wide ∙ sym right_wide ∙ sym (wide_at terns leads first right right_made))
        (value_known left left_inside) (value_known right right_inside)
