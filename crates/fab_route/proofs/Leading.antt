-- Where the edges of nodes lead, end by end and node by node.
use Rattle.std.proofs.Common.{◌≡◌, ℕ, zero, suc, All, ◌+◌, ◌-◌, ◌<◌, ◌≤◌, List, [], ◌∷◌, ◌++◌, length, get_or, take, drop, Contains, Option, Some, slice_get, slice_range, refl, sym, ap, subst, ◌∙◌, inl, inr, arith}
use Rattle.std.proofs.lemmas.Bool.{cases_lt}
use Rattle.std.proofs.lemmas.Option.{same_Some, slice_get_within, get_or_from_slice_get}
use Rattle.std.proofs.lemmas.List.{append-nil, append_assoc, length-append, length-drop, drop-append-le, take-append-le, take_all}
use Rattle.std.proofs.Math.Seq.{drop-append_seam}
use Rattle.fab_model.specs.Wires.{PlainWire}
use Rattle.fab_model.specs.Grid.{PlainFabric}
use Rattle.fab_fabric.specs.Fabric.{wire_count}
use Rattle.fab_fabric.specs.Wires.{IsIndexOf, wire_join_to}
use Rattle.fab_fabric.specs.declared.wire.Wire.{Wire}
use Rattle.fab_fabric.proofs.Numbered.{some_wire}
use Rattle.fab_netlist.specs.Plain.{IsAt}
use Rattle.fab_netlist.proofs.Members.{in_none}
use Rattle.fab_legal.specs.Steps.{IsJoined}
use Rattle.fab_legal.proofs.Members.{in_pushed, still_in, last_in, in_taken, stays_taken, last_taken}
use Rattle.fab_ways_laws.specs.Edges.{ends}
use Rattle.fab_route.specs.inner.Numbers.{AreTargets, Adds, AreFlat}
use Rattle.fab_route.proofs.Numbered.{last_of, before_last, one_longer}

module _ (fabric : PlainFabric) (nodes : List ℕ) where
  -- ---- ends of one node

  pub none_added : (targets : List ℕ) → Adds fabric nodes [] targets targets
  none_added targets = record {
    added = [];
    is = sym (append-nil targets);
    targets = record { sound = λ to here. absurd (in_none to here); whole = λ end wire here joined. absurd (in_none end here) };
  }

  module _ (ends : List Wire) (i : ℕ) (end : Wire) (read : slice_get ends i ≡ Some end) where
    at : IsAt ends i end
    at = (slice_get_within ends i end read, get_or_from_slice_get ends i end end read)

    module _ (old now : List ℕ) (before : Adds fabric nodes (take i ends) old now) (found : Option Wire)
        (join : (x y : ℕ) (plain : PlainWire) → IsIndexOf fabric end.0 x y plain → found ≡ wire_join_to fabric x y plain) where
      -- an end that is joined to nothing
      pub unjoined_added : ((wire : Wire) → found ≡ Some wire → ⊥) → Adds fabric nodes (take (i + 1) ends) old now
      unjoined_added none = record {
        added = before.added;
        is = before.is;
        targets = record {
          sound = λ to here. (let s = before.targets.sound to here in (s.0, s.1, stays_taken ends i end s.0 at s.2, s.3, s.4));
          whole = λ from wire here joined. elim (in_taken ends i end from at here) [
            | inl older ↦ before.targets.whole from wire older joined
            | inr same ↦ absurd (not_joined wire (subst (λ (f : Wire). IsJoined fabric f wire) (sym same) joined))
          ];
        };
      }
        where
          not_joined : (wire : Wire) → IsJoined fabric end wire → ⊥
          not_joined wire j = none wire (join j.x j.y j.plain j.from_is ∙ j.joined)

      -- an end that is joined to a wire
      pub joined_added : (to : Wire) → found ≡ Some to → end.0 < wire_count fabric → Adds fabric nodes (take (i + 1) ends) old (now ++ get_or nodes to.0 0 ∷ [])
      joined_added to some inside = record {
        added = before.added ++ target ∷ [];
        is = ap (λ l. l ++ target ∷ []) before.is ∙ append_assoc old before.added (target ∷ []);
        targets = record {
          sound = λ w here. elim (in_pushed before.added target w here) [
            | inl older ↦ (let s = before.targets.sound w older in (s.0, s.1, stays_taken ends i end s.0 at s.2, s.3, s.4))
            | inr same ↦ (end, to, last_taken ends i end at, joined, sym same)
          ];
          whole = λ from wire here own. elim (in_taken ends i end from at here) [
            | inl older ↦ still_in before.added target (get_or nodes wire.0 0) (before.targets.whole from wire older own)
            | inr same ↦ subst (λ (w : Wire). Contains (before.added ++ target ∷ []) (get_or nodes w.0 0)) (one wire (subst (λ (f : Wire). IsJoined fabric f wire) (sym same) own)) (last_in before.added target)
          ];
        };
      }
        where
          target : ℕ
          target = get_or nodes to.0 0

          joined : IsJoined fabric end to
          joined = let w = some_wire fabric end.0 inside in record { x = w.0; y = w.1; plain = w.2; from_is = w.3; joined = sym (join w.0 w.1 w.2 w.3) ∙ some }

          one : (wire : Wire) → IsJoined fabric end wire → to ≡ wire
          one wire j = same_Some to wire (sym some ∙ join j.x j.y j.plain j.from_is ∙ j.joined)

-- ---- nodes one behind the other

range_stays : (xs ys : List ℕ) (i j : ℕ) → i ≤ j → j ≤ length xs → slice_range (xs ++ ys) i j ≡ slice_range xs i j
range_stays xs ys i j order within =
    ap (take (j - i)) (drop-append-le i xs ys (omega (arith, order, within)))
    ∙ take-append-le (j - i) (drop i xs) ys (omega (arith, length-drop i xs, order, within))

last_range : (xs ys : List ℕ) → slice_range (xs ++ ys) (length xs) (length (xs ++ ys)) ≡ ys
last_range xs ys =
    ap (take (length (xs ++ ys) - length xs)) (drop-append_seam xs ys)
    ∙ take_all (length (xs ++ ys) - length xs) ys (omega (arith, length-append xs ys))

module _ (fabric : PlainFabric) (wires nodes : List ℕ) where
  pub none_flat : AreFlat fabric wires nodes 0 (0 ∷ []) []
  none_flat = record {
    long = refl;
    end = refl;
    order = λ node small. absurd (omega (arith, small));
    within = λ node small. at_zero node small;
    each = λ node small. absurd (omega (arith, small));
  }
    where
      at_zero : (node : ℕ) → node ≤ 0 → get_or (0 ∷ []) node 0 ≤ 0
      at_zero zero small = omega arith
      at_zero (suc node) small = absurd (omega (arith, small))

  module _ (n : ℕ) (starts targets new : List ℕ) (before : AreFlat fabric wires nodes n starts targets) (add : Adds fabric nodes (ends fabric (get_or wires n 0)) targets new) where
    abbrev pub new_starts : List ℕ
    new_starts = starts ++ length new ∷ []

    grows : length targets ≤ length new
    grows = omega (arith, ap (λ (l : List ℕ). length l) add.is, length-append targets add.added)

    old_start : (node : ℕ) → node ≤ n → get_or new_starts node 0 ≡ get_or starts node 0
    old_start node low = before_last starts (length new) node (omega (arith, low, before.long))

    last_start : get_or new_starts (n + 1) 0 ≡ length new
    last_start = last_of starts (length new) (n + 1) (sym before.long)

    pub more_flat : AreFlat fabric wires nodes (n + 1) new_starts new
    more_flat = record {
      long = omega (arith, one_longer starts (length new), before.long);
      end = last_start;
      order = λ node low. elim (cases_lt node n) [
        | inl less ↦ omega (arith, old_start node (omega (arith, less)), old_start (node + 1) (omega (arith, less)), before.order node less)
        | inr past ↦ (
            let same : node ≡ n = omega (arith, low, past) in
            subst (λ (k : ℕ). get_or new_starts k 0 ≤ get_or new_starts (k + 1) 0) (sym same) (omega (arith, old_start n (omega arith), last_start, before.end, grows)))
      ];
      within = λ node low. elim (cases_lt n node) [
        | inl last ↦ (let same : node ≡ n + 1 = omega (arith, low, last) in subst (λ (k : ℕ). get_or new_starts k 0 ≤ length new) (sym same) (omega (arith, last_start)))
        | inr older ↦ omega (arith, old_start node older, before.within node older, grows)
      ];
      each = λ node low. elim (cases_lt node n) [
        | inl less ↦ subst (λ (ts : List ℕ). AreTargets fabric nodes (ends fabric (get_or wires node 0)) ts) (sym (older_range node less)) (before.each node less)
        | inr past ↦ (
            let same : node ≡ n = omega (arith, low, past) in
            subst (λ (k : ℕ). AreTargets fabric nodes (ends fabric (get_or wires k 0)) (slice_range new (get_or new_starts k 0) (get_or new_starts (k + 1) 0))) (sym same)
            (subst (λ (ts : List ℕ). AreTargets fabric nodes (ends fabric (get_or wires n 0)) ts) (sym own_range) add.targets))
      ];
    }
      where
        older_range : (node : ℕ) → node < n → slice_range new (get_or new_starts node 0) (get_or new_starts (node + 1) 0) ≡ slice_range targets (get_or starts node 0) (get_or starts (node + 1) 0)
        older_range node less =
            ap (λ k. slice_range new k (get_or new_starts (node + 1) 0)) (old_start node (omega (arith, less)))
            ∙ ap (slice_range new (get_or starts node 0)) (old_start (node + 1) (omega (arith, less)))
            ∙ ap (λ l. slice_range l (get_or starts node 0) (get_or starts (node + 1) 0)) add.is
            ∙ range_stays targets add.added (get_or starts node 0) (get_or starts (node + 1) 0) (before.order node less) (before.within (node + 1) (omega (arith, less)))

        own_range : slice_range new (get_or new_starts n 0) (get_or new_starts (n + 1) 0) ≡ add.added
        own_range =
            ap (λ k. slice_range new k (get_or new_starts (n + 1) 0)) (old_start n (omega arith) ∙ before.end)
            ∙ ap (slice_range new (length targets)) last_start
            ∙ ap (λ l. slice_range l (length targets) (length l)) add.is
            ∙ last_range targets add.added

-- ---- what is read

pub end_within : (ends all : List Wire) (count i : ℕ) (end : Wire) → slice_get ends i ≡ Some end → ends ≡ all → All (λ to. to.0 < count) all → end.0 < count
end_within ends all count i end read same within =
    let there : slice_get all i ≡ Some end = subst (λ (ws : List Wire). slice_get ws i ≡ Some end) same read in
    subst (λ (w : Wire). w.0 < count) (get_or_from_slice_get all i end end there) (within i end (slice_get_within all i end there))

pub flat_step : (fabric : PlainFabric) (wires nodes : List ℕ) (n : ℕ) (starts targets starts2 new : List ℕ) (last : ℕ) → AreFlat fabric wires nodes n starts targets → Adds fabric nodes (ends fabric (get_or wires n 0)) targets new →
    starts2 ≡ starts ++ last ∷ [] → last ≡ length new → AreFlat fabric wires nodes (n + 1) starts2 new
flat_step fabric wires nodes n starts targets starts2 new last before add is same = rw (is, same) (more_flat fabric wires nodes n starts targets new before add)
