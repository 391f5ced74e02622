-- Bits of an expression that are copies of points.
use Rattle.std.proofs.Common.{◌≡◌, ℕ, ◌+◌, ◌-◌, ◌<◌, ◌≤◌, List, ◌++◌, Option, None, Some, length, refl, sym, ap, ◌∙◌, subst, arith}
use Rattle.std.specs.Prelude.{IfSome, slice_get}
use Rattle.fab_systems_laws.specs.Ternary.{no, yes}
use Rattle.fab_systems_laws.specs.Ternary.{Tern as PlainTern}
use Rattle.fab_ternary_laws.specs.Operators.{tern_at, one_of}
use Rattle.fab_ternary.specs.declared.Tern.{Tern}
use Rattle.fab_compiled.specs.declared.tree.Tree.{Tree, Bits}
use Rattle.fab_compiled.specs.Trees.{tree_value, tree_width, IsMade}
use Rattle.fab_compiled.specs.Evaluation.{value_seen, IsWithin}
use Rattle.fab_compiled.specs.Leading.{PointTerns, AreAbove, bit_under}
use Rattle.fab_compiled.proofs.Bits.{first_at}
use Rattle.fab_compiled.proofs.Evaluated.{low_of, high_of}
use Rattle.fab_compiled.proofs.Leading.{yes_leads, no_leads}
use Rattle.fab_compiled.proofs.Lengths.{value_length}
use Rattle.fab_network.specs.declared.network.Source.{Source}
use Rattle.fab_network.specs.Leading.{bits_of_source}
use Rattle.fab_network.specs.Network.{tern_in}
use Rattle.fab_demand.specs.declared.copies.Copied.{Copied}
use Rattle.fab_demand.specs.inner.Copies.{CopiesPoints}

pub some_both : {A : Type 0} (r : Option A) (P Q R : A → Type 0) → IfSome r P → IfSome r Q → ((v : A) → P v → Q v → R v) → IfSome r R
some_both None P Q R p q f = tt
some_both (Some v) P Q R p q f = f v p q

module _ (terns : List Tern) (leads : List ℕ) where
  -- the same of other bits that have the same values
  pub copies_of : (value other : PointTerns → (bit : ℕ) → PlainTern) (old new : Copied) → new.count ≡ old.count → new.point ≡ old.point →
      ((t : PointTerns) → AreAbove terns leads t → (k : ℕ) → k < old.count → value t (new.low + k) ≡ other t (old.low + k)) →
      CopiesPoints terns leads other old → CopiesPoints terns leads value new
  copies_of value other old new count point same copies = record {
    within = omega (arith, copies.within, count, point);
    same = λ k l t above.
        let inside : k < old.count = omega (arith, l, count) in
        let at : old.point + k ≡ new.point + k = omega (arith, point) in
        same t above k inside ∙ copies.same k inside t above ∙ ap t at;
  }

  module _ (first : ℕ) where
    abbrev bits_under : Tree → PointTerns → (bit : ℕ) → PlainTern
    bits_under tree t bit = bit_under t first tree bit

    -- a name, or a part of one
    pub name_copies : (tree : Tree) (place count : ℕ) (copied : Copied) → tree ≡ Bits place count → first ≤ length leads → IsWithin tree first (length leads) →
        copied.low ≡ 0 → copied.count ≡ count → copied.point ≡ first + place → CopiesPoints terns leads (bits_under tree) copied
    name_copies tree place count copied is begins inside low long point = record {
      within =
          let below : place + count ≤ length leads - first = subst (λ (x : Tree). IsWithin x first (length leads)) is inside in
          omega (arith, below, begins, long, point);
      same = λ k l t above.
          let bit : copied.low + k ≡ k = omega (arith, low) in
          let at : first + (place + k) ≡ copied.point + k = omega (arith, point) in
          ap (bit_under t first tree) bit ∙ ap (λ (x : Tree). bit_under t first x k) is
          ∙ first_at count (λ n. t (first + (place + n))) k (omega (arith, l, long)) ∙ ap t at;
    }

    -- an operand of a concatenation
    pub low_copies : (tree low high : Tree) (copied : Copied) → ((at : ℕ → PlainTern) → tree_value at tree ≡ tree_value at low ++ tree_value at high) →
        IsMade low → copied.low + copied.count ≤ tree_width low → CopiesPoints terns leads (bits_under low) copied →
        CopiesPoints terns leads (bits_under tree) copied
    low_copies tree low high copied is made within copies =
        copies_of (bits_under tree) (bits_under low) copied copied refl refl
        (λ t above k l.
        let at : ℕ → PlainTern = λ place. t (first + place) in
        sym (low_of (tree_value at low) (tree_value at high) (tree_value at tree) (copied.low + k) (is at) (omega (arith, l, within, value_length at low made))))
        copies

    pub high_copies : (tree low high : Tree) (width : ℕ) (copied new : Copied) →
        ((at : ℕ → PlainTern) → tree_value at tree ≡ tree_value at low ++ tree_value at high) → tree_width low ≡ width → IsMade low →
        new.low ≡ copied.low + width → new.count ≡ copied.count → new.point ≡ copied.point →
        CopiesPoints terns leads (bits_under high) copied → CopiesPoints terns leads (bits_under tree) new
    high_copies tree low high width copied new is wide made from count point copies =
        copies_of (bits_under tree) (bits_under high) copied new count point
        (λ t above k l.
        let at : ℕ → PlainTern = λ place. t (first + place) in
        let place : new.low + k - width ≡ copied.low + k = omega (arith, from) in
        sym (high_of (tree_value at low) (tree_value at high) (tree_value at tree) (new.low + k) width (is at) (value_length at low made ∙ wide) (omega (arith, from)))
        ∙ ap (bits_under high t) place)
        copies

    -- the branch that a known test picks
    pub yes_copies : (tree test a b : Tree) (copied : Copied) →
        ((at : ℕ → PlainTern) → tree_value at tree ≡ one_of (tern_at (tree_value at test) 0) (tree_value at a) (tree_value at b)) →
        IsMade test → first ≤ length leads → IsWithin test first (length leads) → tern_at (value_seen terns leads first test) 0 ≡ yes →
        CopiesPoints terns leads (bits_under a) copied → CopiesPoints terns leads (bits_under tree) copied
    yes_copies tree test a b copied is made begins inside e copies =
        copies_of (bits_under tree) (bits_under a) copied copied refl refl
        (λ t above k l. ap (λ ts. tern_at ts (copied.low + k)) (is (λ place. t (first + place)))
        ∙ yes_leads terns leads first test a b (copied.low + k) made begins inside e t above)
        copies

    pub no_copies : (tree test a b : Tree) (copied : Copied) →
        ((at : ℕ → PlainTern) → tree_value at tree ≡ one_of (tern_at (tree_value at test) 0) (tree_value at a) (tree_value at b)) →
        IsMade test → first ≤ length leads → IsWithin test first (length leads) → tern_at (value_seen terns leads first test) 0 ≡ no →
        CopiesPoints terns leads (bits_under b) copied → CopiesPoints terns leads (bits_under tree) copied
    no_copies tree test a b copied is made begins inside e copies =
        copies_of (bits_under tree) (bits_under b) copied copied refl refl
        (λ t above k l. ap (λ ts. tern_at ts (copied.low + k)) (is (λ place. t (first + place)))
        ∙ no_leads terns leads first test a b (copied.low + k) made begins inside e t above)
        copies

pub source_copies : (terns : List Tern) (leads : List ℕ) (trees : List Tree) (source : Source) (tree : Tree) (copied : Copied) →
    slice_get trees source.tree ≡ Some tree → CopiesPoints terns leads (λ t place. bit_under t source.first tree place) copied →
    CopiesPoints terns leads (bits_of_source trees source) copied
source_copies terns leads trees source tree copied there copies = record {
  within = copies.within;
  same = λ k l t above. ap (λ (o : Option Tree). tern_in o t source.first (copied.low + k)) there ∙ copies.same k l t above;
}
