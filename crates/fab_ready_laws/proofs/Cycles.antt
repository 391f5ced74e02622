-- Covers do not read one another round, or a cycle of them is named.
use Rattle.std.proofs.Common.{◌≡◌, ◌<◌, ◌≤◌, ◌⊎◌, ◌+◌, ℕ, zero, suc, List, [], ◌∷◌, ◌++◌, length, get_or, take, drop, nat_eq, Contains, refl, sym, ◌∙◌, subst, arith, inl, inr, eqb-true}
use Rattle.std.proofs.lemmas.Bool.{cases_Bool, cases_eq, cases_lt}
use Rattle.fab_base.specs.declared.fault.Fault.{Fault}
use Rattle.fab_base.specs.declared.fault.Fault.TheVariants as faults
use Rattle.fab_netlist.specs.Plain.{PlainNetlist, cover_at}
use Rattle.fab_netlist.specs.WellMade.{times}
use Rattle.fab_netlist.specs.Cycles.{Reads, ReadsOn, IsOneCycle, HasNoCycle, ComesFirst, IsNamed, NamesCycle, cycle_words}
use Rattle.fab_netlist.proofs.Ranks.{below_in, places_below}
use Rattle.fab_netlist.proofs.Rounds.{named_from}
use Rattle.fab_ready_laws.proofs.Decisions.{IsDecided, behind, both, decided_as, in_front, listed_decided, some_decided}
use Rattle.fab_ready_laws.proofs.Graphs.{Apart, On, once_each, walk_decided}
use Rattle.fab_ready_laws.proofs.Leasts.{below_decided}

-- ---- what stands once is counted once

none_times : (xs : List ℕ) (place : ℕ) → (Contains xs place → ⊥) → times place xs ≡ 0
none_times [] place out = refl
none_times (x ∷ xs) place out = elim (cases_Bool (nat_eq x place)) [
  | inl same ↦ absurd (out (subst (Contains (x ∷ xs)) (eqb-true x place same) (in_front x xs)))
  | inr other ↦ rw other (omega (arith, none_times xs place (λ there. out (behind x place xs there))))
]

once_times : (xs : List ℕ) → Apart xs → (place : ℕ) → times place xs ≤ 1
once_times [] apart place = omega arith
once_times (x ∷ xs) apart place = elim (cases_Bool (nat_eq x place)) [
  | inl same ↦ rw same (omega (arith, none_times xs place (subst (λ (y : ℕ). Contains xs y → ⊥) (eqb-true x place same) apart.0)))
  | inr other ↦ rw other (omega (arith, once_times xs apart.1 place))
]

module _ (netlist : PlainNetlist) where
  -- ---- the first cover of some

  first_itself : (j : ℕ) → ComesFirst netlist j j
  first_itself j = inr (refl, omega arith)

  either_first : (j k : ℕ) → ComesFirst netlist j k ⊎ ComesFirst netlist k j
  either_first j k = elim (cases_lt (cover_at netlist j).line (cover_at netlist k).line) [
    | inl less ↦ inl (inl less)
    | inr not_less ↦
        elim (cases_lt (cover_at netlist k).line (cover_at netlist j).line) [
          | inl more ↦ inr (inl more)
          | inr not_more ↦ (
              let same : (cover_at netlist j).line ≡ (cover_at netlist k).line = omega (arith, not_less, not_more) in
              elim (cases_lt k j) [ inl lower ↦ inr (inr (sym same, omega (arith, lower))) | inr upper ↦ inl (inr (same, upper)) ])
        ]
  ]

  first_of_three : (j k l : ℕ) → ComesFirst netlist j k → ComesFirst netlist k l → ComesFirst netlist j l
  first_of_three j k l (inl less) (inl lesser) = inl (omega (arith, less, lesser))
  first_of_three j k l (inl less) (inr same) = inl (omega (arith, less, same.0))
  first_of_three j k l (inr same) (inl less) = inl (omega (arith, less, same.0))
  first_of_three j k l (inr same) (inr also) = inr (same.0 ∙ also.0, omega (arith, same.1, also.1))

  abbrev HasFirst : List ℕ → Type 0
  HasFirst round = (index : ℕ) × (index < length round) × ((other : ℕ) → other < length round → ComesFirst netlist (get_or round index 0) (get_or round other 0))

  only_one : (x other : ℕ) → other < length (x ∷ []) → ComesFirst netlist x (get_or (x ∷ []) other 0)
  only_one x zero less = first_itself x
  only_one x (suc other) less = absurd (omega (arith, less))

  with_one_more : (x y : ℕ) (ys : List ℕ) → HasFirst (y ∷ ys) → HasFirst (x ∷ y ∷ ys)
  with_one_more x y ys rest = elim (either_first x (get_or (y ∷ ys) rest.0 0)) [
    | inl first ↦ (0, omega arith, by_first first)
    | inr later ↦ (suc rest.0, omega (arith, rest.1), by_later later)
  ]
    where
      by_first : ComesFirst netlist x (get_or (y ∷ ys) rest.0 0) → (other : ℕ) → other < length (x ∷ y ∷ ys) → ComesFirst netlist x (get_or (x ∷ y ∷ ys) other 0)
      by_first first zero less = first_itself x
      by_first first (suc other) less = first_of_three x (get_or (y ∷ ys) rest.0 0) (get_or (y ∷ ys) other 0) first (rest.2 other (omega (arith, less)))

      by_later : ComesFirst netlist (get_or (y ∷ ys) rest.0 0) x → (other : ℕ) → other < length (x ∷ y ∷ ys) → ComesFirst netlist (get_or (y ∷ ys) rest.0 0) (get_or (x ∷ y ∷ ys) other 0)
      by_later later zero less = later
      by_later later (suc other) less = rest.2 other (omega (arith, less))

  has_first : (x : ℕ) (xs : List ℕ) → HasFirst (x ∷ xs)
  has_first x [] = (0, omega arith, only_one x)
  has_first x (y ∷ ys) = with_one_more x y ys (has_first y ys)

  -- ---- a cycle

  reads_decided : (a b : ℕ) → IsDecided (Reads netlist a b)
  reads_decided a b =
      decided_as (λ parts. (parts.0, parts.1.0, parts.1.1)) (λ reads. (reads.0, (reads.1, reads.2)))
      (both (below_decided a (length netlist.covers))
      (both (below_decided b (length netlist.covers)) (listed_decided (λ x y. cases_eq x y) (cover_at netlist a).inputs (cover_at netlist b).output)))

  reads_on : (first : ℕ) (rest : List ℕ) (end : ℕ) → On (Reads netlist) first rest end → ReadsOn netlist first rest end
  reads_on first [] end on = on
  reads_on first (second ∷ rest) end on = (on.0, reads_on second rest end on.1)

  on_reads : (first : ℕ) (rest : List ℕ) (end : ℕ) → ReadsOn netlist first rest end → On (Reads netlist) first rest end
  on_reads first [] end on = on
  on_reads first (second ∷ rest) end on = (on.0, on_reads second rest end on.1)

  first_within : (first : ℕ) (rest : List ℕ) (end : ℕ) → ReadsOn netlist first rest end → first < length netlist.covers
  first_within first [] end on = on.0
  first_within first (second ∷ rest) end on = on.0.0

  -- the cover at a place reads its own output, if need be through others
  abbrev ReadsItself : ℕ → Type 0
  ReadsItself place = (inner : List ℕ) × On (Reads netlist) place inner place

  named : (file : List ℕ) (first : ℕ) (rest : List ℕ) → IsOneCycle netlist (first ∷ rest) → (fault : Fault) × NamesCycle file netlist fault
  named file first rest cycle =
      let round = first ∷ rest in
      let least = has_first first rest in
      let start = get_or round least.0 0 in
      let others = drop (least.0 + 1) round ++ take least.0 round in
      let is : IsNamed netlist start others = named_from netlist round least.0 least.1 cycle least.2 in
      let fault : Fault = faults.Unsupported (record { file = file; line = (cover_at netlist start).line }) (cycle_words netlist (start ∷ others)) in
      (fault, (start, others, is, refl))

  pub cycles_judged : (file : List ℕ) → HasNoCycle netlist ⊎ ((fault : Fault) × NamesCycle file netlist fault)
  cycles_judged file = elim (some_decided ReadsItself (λ place. walk_decided (Reads netlist) reads_decided (length netlist.covers) (λ a b reads. reads.1) place place) (places_below (length netlist.covers))) [
    | inl found ↦ (
        let once = once_each (Reads netlist) found.0 found.2.0 found.0 found.2.1 in
        inr (named file found.0 once.0 (reads_on found.0 once.0 found.0 once.1, once_times (found.0 ∷ once.0) once.2)))
    | inr none ↦ inl (never none)
  ]
    where
      never : ((place : ℕ) × Contains (places_below (length netlist.covers)) place × ReadsItself place → ⊥) → HasNoCycle netlist
      never none [] cycle = cycle
      never none (first ∷ rest) cycle =
          none (first, below_in (length netlist.covers) first (first_within first rest first cycle), (rest, on_reads first rest first cycle))
