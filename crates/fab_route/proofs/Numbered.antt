-- Matrix inputs by number, wire by wire.
use Rattle.std.proofs.Common.{◌≡◌, ℕ, ◌+◌, ◌<◌, ◌≤◌, List, [], ◌∷◌, ◌++◌, length, get_or, refl, sym, ap, subst, ◌∙◌, inl, inr, arith}
use Rattle.std.proofs.lemmas.Bool.{cases_lt}
use Rattle.std.proofs.lemmas.List.{length-append, get_or_append_left}
use Rattle.std.proofs.Math.Seq.{get_or-append_seam}
use Rattle.fab_model.specs.Grid.{PlainFabric}
use Rattle.fab_fabric.specs.Wires.{numbered_wire}
use Rattle.fab_nodes_laws.specs.Nodes.{IsMatrixInput}
use Rattle.fab_route.specs.inner.Numbers.{AreNumbered}

-- one item more
pub last_of : (xs : List ℕ) (x k : ℕ) → k ≡ length xs → get_or (xs ++ x ∷ []) k 0 ≡ x
last_of xs x k same = ap (λ n. get_or (xs ++ x ∷ []) n 0) same ∙ get_or-append_seam xs x [] 0

pub before_last : (xs : List ℕ) (x k : ℕ) → k < length xs → get_or (xs ++ x ∷ []) k 0 ≡ get_or xs k 0
before_last xs x k low = get_or_append_left xs (x ∷ []) 0 k low

pub one_longer : (xs : List ℕ) (x : ℕ) → length (xs ++ x ∷ []) ≡ length xs + 1
one_longer xs x = length-append xs (x ∷ [])

module _ (fabric : PlainFabric) where
  abbrev pub IsInput : ℕ → Type 0
  IsInput wire = IsMatrixInput fabric (numbered_wire wire)

  pub none_numbered : AreNumbered fabric 0 [] []
  none_numbered = record {
    long = refl;
    few = omega arith;
    low = λ node small. absurd (omega (arith, small));
    inputs = λ node small. absurd (omega (arith, small));
    back = λ node small. absurd (omega (arith, small));
    inside = λ wire small is. absurd (omega (arith, small));
    there = λ wire small is. absurd (omega (arith, small));
  }

  module _ (n : ℕ) (wires nodes : List ℕ) (before : AreNumbered fabric n wires nodes) where
    abbrev pub new_nodes : List ℕ
    new_nodes = nodes ++ length wires ∷ []

    old_wire : (wire : ℕ) → wire < n → get_or new_nodes wire 0 ≡ get_or nodes wire 0
    old_wire wire low = before_last nodes (length wires) wire (omega (arith, low, before.long))

    own : get_or new_nodes n 0 ≡ length wires
    own = last_of nodes (length wires) n (sym before.long)

    longer : length new_nodes ≡ n + 1
    longer = omega (arith, one_longer nodes (length wires), before.long)

    -- a wire that is none
    pub other_numbered : (IsInput n → ⊥) → AreNumbered fabric (n + 1) wires new_nodes
    other_numbered not_input = record {
      long = longer;
      few = omega (arith, before.few);
      low = λ node small. omega (arith, before.low node small);
      inputs = before.inputs;
      back = λ node small. old_wire (get_or wires node 0) (before.low node small) ∙ before.back node small;
      inside = λ wire low is. let less = older wire low is in subst (λ (k : ℕ). k < length wires) (sym (old_wire wire less)) (before.inside wire less is);
      there = λ wire low is. let less = older wire low is in ap (λ k. get_or wires k 0) (old_wire wire less) ∙ before.there wire less is;
    }
      where
        older : (wire : ℕ) → wire < n + 1 → IsInput wire → wire < n
        older wire low is = elim (cases_lt wire n) [
          | inl less ↦ less
          | inr past ↦ (let same : wire ≡ n = omega (arith, low, past) in absurd (not_input (subst IsInput same is)))
        ]

    -- a matrix input
    pub input_numbered : IsInput n → AreNumbered fabric (n + 1) (wires ++ n ∷ []) new_nodes
    input_numbered input = record {
      long = longer;
      few = omega (arith, before.few, one_longer wires n);
      low = λ node small. elim (cases_lt node (length wires)) [
        | inl less ↦ omega (arith, before_last wires n node less, before.low node less)
        | inr past ↦ omega (arith, last_of wires n node (at_end node small past))
      ];
      inputs = λ node small. elim (cases_lt node (length wires)) [
        | inl less ↦ subst IsInput (sym (before_last wires n node less)) (before.inputs node less)
        | inr past ↦ subst IsInput (sym (last_of wires n node (at_end node small past))) input
      ];
      back = λ node small. elim (cases_lt node (length wires)) [
        | inl less ↦ ap (λ w. get_or new_nodes w 0) (before_last wires n node less) ∙ old_wire (get_or wires node 0) (before.low node less) ∙ before.back node less
        | inr past ↦ (let end = at_end node small past in ap (λ w. get_or new_nodes w 0) (last_of wires n node end) ∙ own ∙ sym end)
      ];
      inside = λ wire low is. elim (cases_lt wire n) [
        | inl less ↦ omega (arith, old_wire wire less, before.inside wire less is, one_longer wires n)
        | inr past ↦ omega (arith, ap (λ w. get_or new_nodes w 0) (last_wire wire low past), own, one_longer wires n)
      ];
      there = λ wire low is. elim (cases_lt wire n) [
        | inl less ↦
            ap (λ k. get_or (wires ++ n ∷ []) k 0) (old_wire wire less) ∙ before_last wires n (get_or nodes wire 0) (before.inside wire less is) ∙ before.there wire less is
        | inr past ↦ (
            let same = last_wire wire low past in
            ap (λ k. get_or (wires ++ n ∷ []) k 0) (ap (λ w. get_or new_nodes w 0) same ∙ own) ∙ last_of wires n (length wires) refl ∙ sym same)
      ];
    }
      where
        at_end : (node : ℕ) → node < length (wires ++ n ∷ []) → length wires ≤ node → node ≡ length wires
        at_end node small past = omega (arith, small, past, one_longer wires n)

        last_wire : (wire : ℕ) → wire < n + 1 → n ≤ wire → wire ≡ n
        last_wire wire low past = omega (arith, low, past)

    pub input_step : (wires2 nodes2 : List ℕ) (k : ℕ) → wires2 ≡ wires ++ n ∷ [] → nodes2 ≡ nodes ++ k ∷ [] → k ≡ length wires → IsInput n → AreNumbered fabric (n + 1) wires2 nodes2
    input_step wires2 nodes2 k ws ns same is = rw (ws, ns, same) (input_numbered is)

    pub other_step : (wires2 nodes2 : List ℕ) (k : ℕ) → wires2 ≡ wires → nodes2 ≡ nodes ++ k ∷ [] → k ≡ length wires → (IsInput n → ⊥) → AreNumbered fabric (n + 1) wires2 nodes2
    other_step wires2 nodes2 k ws ns same none = rw (ws, ns, same) (other_numbered none)
