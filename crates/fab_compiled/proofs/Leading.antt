-- What is told of a bit of an expression, from what is told of its parts.
use Rattle.std.proofs.Common.{◌≡◌, ℕ, zero, suc, ◌+◌, ◌-◌, ◌<◌, ◌≤◌, Bool, true, false, List, [], ◌∷◌, ◌++◌, length, slice_get, slice_index, Some, sym, ap, ◌∙◌, subst, arith}
use Rattle.fab_systems_laws.specs.Ternary.{no, yes, known, IsBelow}
use Rattle.fab_systems_laws.specs.Ternary.{Tern as PlainTern}
use Rattle.fab_solutions_laws.specs.fab_ternary_laws_Operators.{tern_at, one_of}
use Rattle.fab_ternary.specs.declared.Tern.{Tern}
use Rattle.fab_solutions_laws.proofs.Orders.{under_at}
use Rattle.fab_compiled.specs.declared.leads.Lead.{Lead}
use Rattle.fab_compiled.specs.declared.leads.Lead.TheVariants.{Known, Point, Own, Unmarked}
use Rattle.fab_compiled.specs.declared.tree.Tree.{Tree, Bits}
use Rattle.fab_compiled.specs.Terns.{seen}
use Rattle.fab_compiled.specs.Trees.{tree_value, tree_width, IsMade}
use Rattle.fab_compiled.specs.Evaluation.{value_seen, IsWithin}
use Rattle.fab_compiled.specs.Leading.{PointTerns, AreAbove, IsMarked, bit_under, TellsBit, PointLeads, OwnLeads}
use Rattle.fab_compiled.proofs.Lengths.{value_length}
use Rattle.fab_compiled.proofs.Bits.{first_at}
use Rattle.fab_compiled.proofs.Evaluated.{low_of, high_of}
use Rattle.fab_compiled.proofs.TreesGrow.{tree_grows, tree_same}

-- a known bit has its value under all assignments that know no less
pub bit_stays : (terns : List Tern) (leads : List ℕ) (first : ℕ) (tree : Tree) (bit : ℕ) → IsMade tree → first ≤ length leads → IsWithin tree first (length leads) →
    (t : PointTerns) → AreAbove terns leads t → IsBelow (tern_at (value_seen terns leads first tree) bit) (bit_under t first tree bit)
bit_stays terns leads first tree bit made begins inside t above =
    under_at (value_seen terns leads first tree) (tree_value (λ place. t (first + place)) tree)
    (tree_grows (length leads - first) (λ place. seen terns leads (first + place)) (λ place. t (first + place)) (λ k l. above (first + k) (omega arith)) tree made inside) bit

pub known_leads : (terns : List Tern) (leads : List ℕ) (marks : List Bool) (first : ℕ) (tree : Tree) (bit : ℕ) → IsMade tree → first ≤ length leads → IsWithin tree first (length leads) →
    (b : Bool) → tern_at (value_seen terns leads first tree) bit ≡ known b → TellsBit terns leads marks first tree bit (Known b)
known_leads terns leads marks first tree bit made begins inside true e t above = sym (subst (λ (x : PlainTern). IsBelow x (bit_under t first tree bit)) e (bit_stays terns leads first tree bit made begins inside t above))
known_leads terns leads marks first tree bit made begins inside false e t above = sym (subst (λ (x : PlainTern). IsBelow x (bit_under t first tree bit)) e (bit_stays terns leads first tree bit made begins inside t above))

-- where two bits are the same under all assignments that know no less, what is told of one is true of the other
pub same_leads : (terns : List Tern) (leads : List ℕ) (marks : List Bool) (first : ℕ) (tree part : Tree) (bit place : ℕ) (lead : Lead) →
    ((t : PointTerns) → AreAbove terns leads t → bit_under t first tree bit ≡ bit_under t first part place) →
    TellsBit terns leads marks first part place lead → TellsBit terns leads marks first tree bit lead
same_leads terns leads marks first tree part bit place (Known b) same h = λ t above. same t above ∙ h t above
same_leads terns leads marks first tree part bit place (Point lead) same h = (λ t above follow. same t above ∙ h.0 t above follow, h.1)
same_leads terns leads marks first tree part bit place Own same h = λ t u above over agree. same t above ∙ h t u above over agree ∙ sym (same u over)
same_leads terns leads marks first tree part bit place (Unmarked point) same h = h

-- an expression all of whose points are marked
pub own_leads : (terns : List Tern) (leads : List ℕ) (marks : List Bool) (first : ℕ) (tree : Tree) (bit : ℕ) (lead : Lead) →
    OwnLeads marks first tree lead → TellsBit terns leads marks first tree bit lead
own_leads terns leads marks first tree bit (Known b) h = absurd h
own_leads terns leads marks first tree bit (Point lead) h = absurd h
own_leads terns leads marks first tree bit Own h = λ t u above over agree.
    ap (λ ts. tern_at ts bit)
    (tree_same (λ place. IsMarked marks (first + place)) (λ place. t (first + place)) (λ place. u (first + place)) (λ k m. agree (first + k) m) tree h)
own_leads terns leads marks first tree bit (Unmarked point) h = h

-- the branch that a known test picks
pub yes_leads : (terns : List Tern) (leads : List ℕ) (first : ℕ) (c a b : Tree) (bit : ℕ) → IsMade c → first ≤ length leads → IsWithin c first (length leads) →
    tern_at (value_seen terns leads first c) 0 ≡ yes → (t : PointTerns) → AreAbove terns leads t →
    tern_at (one_of (bit_under t first c 0) (tree_value (λ place. t (first + place)) a) (tree_value (λ place. t (first + place)) b)) bit ≡ bit_under t first a bit
yes_leads terns leads first c a b bit made begins inside e t above =
    ap (λ s. tern_at (one_of s (tree_value (λ place. t (first + place)) a) (tree_value (λ place. t (first + place)) b)) bit)
    (sym (subst (λ (x : PlainTern). IsBelow x (bit_under t first c 0)) e (bit_stays terns leads first c 0 made begins inside t above)))

pub no_leads : (terns : List Tern) (leads : List ℕ) (first : ℕ) (c a b : Tree) (bit : ℕ) → IsMade c → first ≤ length leads → IsWithin c first (length leads) →
    tern_at (value_seen terns leads first c) 0 ≡ no → (t : PointTerns) → AreAbove terns leads t →
    tern_at (one_of (bit_under t first c 0) (tree_value (λ place. t (first + place)) a) (tree_value (λ place. t (first + place)) b)) bit ≡ bit_under t first b bit
no_leads terns leads first c a b bit made begins inside e t above =
    ap (λ s. tern_at (one_of s (tree_value (λ place. t (first + place)) a) (tree_value (λ place. t (first + place)) b)) bit)
    (sym (subst (λ (x : PlainTern). IsBelow x (bit_under t first c 0)) e (bit_stays terns leads first c 0 made begins inside t above)))

-- ---- the forms of an expression

pub index_is : (xs : List ℕ) (k r : ℕ) → slice_get xs k ≡ Some r → slice_index xs k ≡ r
index_is [] k r e = cc
index_is (x ∷ xs) zero r e = cc
index_is (x ∷ xs) (suc k) r e = index_is xs k r e

module _ (terns : List Tern) (leads : List ℕ) (marks : List Bool) (first : ℕ) where
  pub point_leads : (tree : Tree) (place count bit : ℕ) → tree ≡ Bits place count → bit < count → (lead : Lead) → PointLeads leads marks (first + place + bit) lead →
      TellsBit terns leads marks first tree bit lead
  point_leads tree place count bit is l (Known b) h = absurd h
  point_leads tree place count bit is l Own h = absurd h
  point_leads tree place count bit is l (Unmarked point) h = h
  point_leads tree place count bit is l (Point lead) h = (
    λ t above follow.
        let value : bit_under t first tree bit ≡ t (first + place + bit) =
        ap (λ (x : Tree). bit_under t first x bit) is ∙ first_at count (λ k. t (first + (place + k))) bit l ∙ ap t (omega arith) in
        value ∙ follow (first + place + bit) h.0 ∙ ap t (index_is leads (first + place + bit) lead h.1),
    (first + place + bit, h.0, index_is leads (first + place + bit) lead h.1),
  )

  pub low_leads : (tree low high : Tree) (bit width : ℕ) → ((at : ℕ → PlainTern) → tree_value at tree ≡ tree_value at low ++ tree_value at high) →
      tree_width low ≡ width → IsMade low → bit < width → (lead : Lead) → TellsBit terns leads marks first low bit lead → TellsBit terns leads marks first tree bit lead
  low_leads tree low high bit width is wide made l lead h =
      same_leads terns leads marks first tree low bit bit lead
      (λ t above. sym (low_of (tree_value (λ place. t (first + place)) low) (tree_value (λ place. t (first + place)) high) (tree_value (λ place. t (first + place)) tree) bit
      (is (λ place. t (first + place))) (omega (arith, l, wide, value_length (λ place. t (first + place)) low made)))) h

  pub high_leads : (tree low high : Tree) (bit width : ℕ) → ((at : ℕ → PlainTern) → tree_value at tree ≡ tree_value at low ++ tree_value at high) →
      tree_width low ≡ width → IsMade low → width ≤ bit → (lead : Lead) → TellsBit terns leads marks first high (bit - width) lead → TellsBit terns leads marks first tree bit lead
  high_leads tree low high bit width is wide made l lead h =
      same_leads terns leads marks first tree high bit (bit - width) lead
      (λ t above. sym (high_of (tree_value (λ place. t (first + place)) low) (tree_value (λ place. t (first + place)) high) (tree_value (λ place. t (first + place)) tree) bit width
      (is (λ place. t (first + place))) (value_length (λ place. t (first + place)) low made ∙ wide) l)) h

  pub yes_branch : (tree test a b : Tree) (bit : ℕ) →
      ((at : ℕ → PlainTern) → tree_value at tree ≡ one_of (tern_at (tree_value at test) 0) (tree_value at a) (tree_value at b)) →
      IsMade test → first ≤ length leads → IsWithin test first (length leads) → tern_at (value_seen terns leads first test) 0 ≡ yes →
      (lead : Lead) → TellsBit terns leads marks first a bit lead → TellsBit terns leads marks first tree bit lead
  yes_branch tree test a b bit is made begins inside e lead h =
      same_leads terns leads marks first tree a bit bit lead
      (λ t above. ap (λ ts. tern_at ts bit) (is (λ place. t (first + place))) ∙ yes_leads terns leads first test a b bit made begins inside e t above) h

  pub no_branch : (tree test a b : Tree) (bit : ℕ) →
      ((at : ℕ → PlainTern) → tree_value at tree ≡ one_of (tern_at (tree_value at test) 0) (tree_value at a) (tree_value at b)) →
      IsMade test → first ≤ length leads → IsWithin test first (length leads) → tern_at (value_seen terns leads first test) 0 ≡ no →
      (lead : Lead) → TellsBit terns leads marks first b bit lead → TellsBit terns leads marks first tree bit lead
  no_branch tree test a b bit is made begins inside e lead h =
      same_leads terns leads marks first tree b bit bit lead
      (λ t above. ap (λ ts. tern_at ts bit) (is (λ place. t (first + place))) ∙ no_leads terns leads first test a b bit made begins inside e t above) h
