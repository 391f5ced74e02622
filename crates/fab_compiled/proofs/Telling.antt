-- What is told of bits that follow one another, from what is told of an operand.
use Rattle.std.proofs.Common.{◌≡◌, ℕ, zero, suc, ◌+◌, ◌-◌, ◌<◌, ◌≤◌, Bool, true, List, [], ◌∷◌, ◌++◌, length, map, slice_get, Some, refl, sym, ap, ◌∙◌, subst, arith}
use Rattle.std.proofs.lemmas.List.{length-map}
use Rattle.fab_systems_laws.specs.Ternary.{no, yes, IsBelow}
use Rattle.fab_systems_laws.specs.Ternary.{Tern as PlainTern}
use Rattle.fab_solutions_laws.specs.fab_ternary_laws_Operators.{tern_at, one_of}
use Rattle.fab_ternary.specs.declared.Tern.{Tern}
use Rattle.fab_ternary.specs.Terns.{plain_tern}
use Rattle.fab_compiled.specs.declared.leads.Lead.TheVariants.{Own}
use Rattle.fab_compiled.specs.declared.parts.Part.{Part}
use Rattle.fab_compiled.specs.declared.tree.Tree.{Tree}
use Rattle.fab_compiled.specs.Terns.{seen}
use Rattle.fab_compiled.specs.Trees.{tree_value, tree_width, IsMade}
use Rattle.fab_compiled.specs.Evaluation.{value_seen, IsWithin}
use Rattle.fab_compiled.specs.Leading.{PointTerns, AreAbove, AreMarked, bit_under}
use Rattle.fab_compiled.specs.Parts.{TellsBits}
use Rattle.fab_compiled.proofs.Evaluated.{low_of, high_of}
use Rattle.fab_compiled.proofs.Leading.{bit_stays, own_leads, yes_leads, no_leads}
use Rattle.fab_compiled.proofs.Lengths.{value_length}

pub plain_at : (bits : List Tern) (k : ℕ) (bit : Tern) → slice_get bits k ≡ Some bit → plain_tern bit ≡ tern_at (map plain_tern bits) k
plain_at [] k bit e = cc
plain_at (b ∷ bits) zero bit e = let same : b ≡ bit = cc in ap plain_tern (sym same)
plain_at (b ∷ bits) (suc k) bit e = plain_at bits k bit e

there : (bits : List Tern) (k : ℕ) (bit : Tern) → slice_get bits k ≡ Some bit → k < length bits
there [] k bit e = cc
there (b ∷ bits) zero bit e = omega arith
there (b ∷ bits) (suc k) bit e = let l : k < length bits = there bits k bit e in omega arith

module _ (terns : List Tern) (leads : List ℕ) (marks : List Bool) where
  -- the same of other bits that have the same values
  pub tells_of : (value other : PointTerns → (bit : ℕ) → PlainTern) (old new : Part) → new.bits.items ≡ old.bits.items → new.marked ≡ old.marked →
      ((t : PointTerns) → AreAbove terns leads t → (k : ℕ) → k < length old.bits.items → value t (new.low + k) ≡ other t (old.low + k)) →
      TellsBits terns leads marks other old → TellsBits terns leads marks value new
  tells_of value other old new bits marked same tells = record {
    below = λ k bit e t above.
        let here : slice_get old.bits.items k ≡ Some bit = ap (λ (xs : List Tern). slice_get xs k) (sym bits) ∙ e in
        subst (λ (x : PlainTern). IsBelow (plain_tern bit) x) (sym (same t above k (there old.bits.items k bit here))) (tells.below k bit here t above);
    depends = λ m k l t u above over agree.
        let within : k < length old.bits.items = subst (λ (xs : List Tern). k < length xs) bits l in
        same t above k within ∙ tells.depends (sym marked ∙ m) k within t u above over agree ∙ sym (same u over k within);
  }

  module _ (first : ℕ) where
    abbrev bits_under : Tree → PointTerns → (bit : ℕ) → PlainTern
    bits_under tree t bit = bit_under t first tree bit

    -- all bits of an expression
    pub whole_tells : (tree : Tree) (part : Part) → IsMade tree → first ≤ length leads → IsWithin tree first (length leads) →
        map plain_tern part.bits.items ≡ value_seen terns leads first tree → part.low ≡ 0 → (part.marked ≡ true → AreMarked marks first tree) →
        TellsBits terns leads marks (bits_under tree) part
    whole_tells tree part made begins inside bits low marked = record {
      below = λ k bit e t above.
          let at : part.low + k ≡ k = omega (arith, low) in
          let is : plain_tern bit ≡ tern_at (value_seen terns leads first tree) k = plain_at part.bits.items k bit e ∙ ap (λ (ts : List PlainTern). tern_at ts k) bits in
          subst (λ (n : ℕ). IsBelow (plain_tern bit) (bit_under t first tree n)) (sym at)
          (subst (λ (x : PlainTern). IsBelow x (bit_under t first tree k)) (sym is) (bit_stays terns leads first tree k made begins inside t above));
      depends = λ m k l t u above over agree. own_leads terns leads marks first tree (part.low + k) Own (marked m) t u above over agree;
    }

    pub whole_length : (tree : Tree) (part : Part) → IsMade tree → map plain_tern part.bits.items ≡ value_seen terns leads first tree →
        length part.bits.items ≡ tree_width tree
    whole_length tree part made bits =
        sym (length-map part.bits.items plain_tern) ∙ ap length bits ∙ value_length (λ place. seen terns leads (first + place)) tree made

    -- an operand of a concatenation
    pub low_tells : (tree low high : Tree) (part : Part) →
        ((at : ℕ → PlainTern) → tree_value at tree ≡ tree_value at low ++ tree_value at high) → IsMade low →
        part.low + length part.bits.items ≤ tree_width low → TellsBits terns leads marks (bits_under low) part → TellsBits terns leads marks (bits_under tree) part
    low_tells tree low high part is made within tells =
        tells_of (bits_under tree) (bits_under low) part part refl refl
        (λ t above k l.
        sym (low_of (tree_value (λ place. t (first + place)) low) (tree_value (λ place. t (first + place)) high) (tree_value (λ place. t (first + place)) tree) (part.low + k)
        (is (λ place. t (first + place))) (omega (arith, l, within, value_length (λ place. t (first + place)) low made))))
        tells

    pub high_tells : (tree low high : Tree) (width : ℕ) (part new : Part) →
        ((at : ℕ → PlainTern) → tree_value at tree ≡ tree_value at low ++ tree_value at high) → tree_width low ≡ width → IsMade low →
        new.low ≡ part.low + width → new.bits.items ≡ part.bits.items → new.marked ≡ part.marked →
        TellsBits terns leads marks (bits_under high) part → TellsBits terns leads marks (bits_under tree) new
    high_tells tree low high width part new is wide made at bits marked tells =
        tells_of (bits_under tree) (bits_under high) part new bits marked
        (λ t above k l.
        let place : new.low + k - width ≡ part.low + k = omega (arith, at) in
        sym (high_of (tree_value (λ place. t (first + place)) low) (tree_value (λ place. t (first + place)) high) (tree_value (λ place. t (first + place)) tree) (new.low + k) width
        (is (λ place. t (first + place))) (value_length (λ place. t (first + place)) low made ∙ wide) (omega (arith, at)))
        ∙ ap (bits_under high t) place)
        tells

    -- the branch that a known test picks
    pub yes_tells : (tree test a b : Tree) (part : Part) →
        ((at : ℕ → PlainTern) → tree_value at tree ≡ one_of (tern_at (tree_value at test) 0) (tree_value at a) (tree_value at b)) →
        IsMade test → first ≤ length leads → IsWithin test first (length leads) → tern_at (value_seen terns leads first test) 0 ≡ yes →
        TellsBits terns leads marks (bits_under a) part → TellsBits terns leads marks (bits_under tree) part
    yes_tells tree test a b part is made begins inside e tells =
        tells_of (bits_under tree) (bits_under a) part part refl refl
        (λ t above k l. ap (λ ts. tern_at ts (part.low + k)) (is (λ place. t (first + place)))
        ∙ yes_leads terns leads first test a b (part.low + k) made begins inside e t above)
        tells

    pub no_tells : (tree test a b : Tree) (part : Part) →
        ((at : ℕ → PlainTern) → tree_value at tree ≡ one_of (tern_at (tree_value at test) 0) (tree_value at a) (tree_value at b)) →
        IsMade test → first ≤ length leads → IsWithin test first (length leads) → tern_at (value_seen terns leads first test) 0 ≡ no →
        TellsBits terns leads marks (bits_under b) part → TellsBits terns leads marks (bits_under tree) part
    no_tells tree test a b part is made begins inside e tells =
        tells_of (bits_under tree) (bits_under b) part part refl refl
        (λ t above k l. ap (λ ts. tern_at ts (part.low + k)) (is (λ place. t (first + place)))
        ∙ no_leads terns leads first test a b (part.low + k) made begins inside e t above)
        tells
