-- A cycle of covers from another one of its covers on.
use Rattle.std.proofs.Common.{◌≡◌, ◌⊎◌, ℕ, zero, suc, ◌+◌, ◌<◌, List, [], ◌∷◌, ◌++◌, length, get_or, take, drop, Contains, sym, ap, ◌∙◌, subst, inl, inr, arith}
use Rattle.std.specs.List.{All}
use Rattle.std.proofs.lemmas.List.{append-nil, drop_more, get_or_default, take-append-drop}
use Rattle.fab_netlist.specs.Plain.{PlainNetlist}
use Rattle.fab_netlist.specs.WellMade.{times}
use Rattle.fab_netlist.specs.Cycles.{ReadsOn, IsCycle, IsOneCycle, ComesFirst, IsNamed, cycle_words}
use Rattle.fab_netlist.proofs.Members.{first_or_later, first_in, later_in, in_left, in_right}
use Rattle.fab_netlist.proofs.Counts.{times_joined}
use Rattle.fab_netlist.proofs.Follows.{leads_joined}

-- the covers of a chain are covers of the netlist
leads_small : (netlist : PlainNetlist) (first : ℕ) (rest : List ℕ) (end : ℕ) → ReadsOn netlist first rest end → (index d : ℕ) → index < length (first ∷ rest) → get_or (first ∷ rest) index d < length netlist.covers
leads_small netlist first [] end leads zero d small = leads.0
leads_small netlist first [] end leads (suc index) d small = absurd (omega arith)
leads_small netlist first (second ∷ rest) end leads zero d small = leads.0.0
leads_small netlist first (second ∷ rest) end leads (suc index) d small = leads_small netlist second rest end leads.1 index d (omega (arith, small))

-- the covers of a cycle are covers of the netlist
pub cycle_small : (netlist : PlainNetlist) (round : List ℕ) → IsOneCycle netlist round → All (λ place. place < length netlist.covers) round
cycle_small netlist [] cycle index d small = absurd cycle.0
cycle_small netlist (first ∷ rest) cycle index d small = leads_small netlist first rest first cycle.0 index d small

-- a cycle is not empty
pub cycle_some : (netlist : PlainNetlist) (round : List ℕ) → IsOneCycle netlist round → 0 < length round
cycle_some netlist [] cycle = absurd cycle.0
cycle_some netlist (first ∷ rest) cycle = omega arith

-- the two parts of a chain
leads_parted : (netlist : PlainNetlist) (first : ℕ) (xs : List ℕ) (middle : ℕ) (ys : List ℕ) (end : ℕ) → ReadsOn netlist first (xs ++ middle ∷ ys) end → ReadsOn netlist first xs middle × ReadsOn netlist middle ys end
leads_parted netlist first [] middle ys end leads = leads
leads_parted netlist first (x ∷ xs) middle ys end leads =
    let rest = leads_parted netlist x xs middle ys end leads.1 in
    ((leads.0, rest.0), rest.1)

-- a cycle from another cover on
cycle_turned : (netlist : PlainNetlist) (xs : List ℕ) (y : ℕ) (ys : List ℕ) → IsCycle netlist (xs ++ y ∷ ys) → IsCycle netlist (y ∷ (ys ++ xs))
cycle_turned netlist [] y ys cycle = subst (λ (rest : List ℕ). ReadsOn netlist y rest y) (sym (append-nil ys)) cycle
cycle_turned netlist (x ∷ xs) y ys cycle =
    let parts = leads_parted netlist x xs y ys x cycle in
    leads_joined netlist y ys x xs y parts.1 parts.0

-- a member of joined lists is one of either
in_either : (xs ys : List ℕ) (place : ℕ) → Contains (xs ++ ys) place → Contains xs place ⊎ Contains ys place
in_either [] ys place here = inr here
in_either (x ∷ xs) ys place here =
    elim (first_or_later x (xs ++ ys) place here) [
      | inl same ↦ inl (first_in x xs place same)
      | inr later ↦ elim (in_either xs ys place later) [ inl left ↦ inl (later_in x xs place left) | inr right ↦ inr right ]
    ]

-- what comes before all by index comes before each member
found_first : (netlist : PlainNetlist) (round : List ℕ) (y place : ℕ) → ((index : ℕ) → index < length round → ComesFirst netlist y (get_or round index 0)) → Contains round place → ComesFirst netlist y place
found_first netlist round y place least (index, small, at) =
    subst (λ (other : ℕ). ComesFirst netlist y other) (get_or_default round index 0 place small ∙ at) (least index small)

-- a cycle from a cover on that comes first
named_parts : (netlist : PlainNetlist) (round xs : List ℕ) (y : ℕ) (ys : List ℕ) → round ≡ xs ++ y ∷ ys → IsOneCycle netlist round → ((index : ℕ) → index < length round → ComesFirst netlist y (get_or round index 0)) → IsNamed netlist y (ys ++ xs)
named_parts netlist round xs y ys parts cycle least = record {
  cycle = cycle_turned netlist xs y ys (subst (λ (places : List ℕ). IsCycle netlist places) parts cycle.0);
  once = λ place. omega (arith, cycle.1 place, ap (times place) parts, times_joined place xs (y ∷ ys), times_joined place ys xs);
  starts = λ place here.
      let there : Contains (xs ++ y ∷ ys) place = elim (in_either ys xs place here) [
        | inl behind ↦ in_right xs (y ∷ ys) place (later_in y ys place behind)
        | inr before ↦ in_left xs (y ∷ ys) place before
      ] in
      found_first netlist round y place least (subst (λ (places : List ℕ). Contains places place) (sym parts) there);
}

-- a cycle from the cover at an index on, where that one comes first
pub named_from : (netlist : PlainNetlist) (round : List ℕ) (index : ℕ) → index < length round → IsOneCycle netlist round → ((other : ℕ) → other < length round → ComesFirst netlist (get_or round index 0) (get_or round other 0)) →
    IsNamed netlist (get_or round index 0) (drop (index + 1) round ++ take index round)
named_from netlist round index small cycle least =
    named_parts netlist round (take index round) (get_or round index 0) (drop (index + 1) round)
    (sym (take-append-drop index round) ∙ ap (λ rest. take index round ++ rest) (drop_more round index 0 small)) cycle least

-- its words
pub words_turned : (netlist : PlainNetlist) (round : List ℕ) (index : ℕ) → index < length round → cycle_words netlist (drop index round ++ take index round) ≡ cycle_words netlist (get_or round index 0 ∷ (drop (index + 1) round ++ take index round))
words_turned netlist round index small = ap (λ rest. cycle_words netlist (rest ++ take index round)) (drop_more round index 0 small)
