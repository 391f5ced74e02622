-- A netlist with a reset port reads as it does without.
use Rattle.std.proofs.Common.{◌≡◌, ℕ, ◌<◌, ◌≤◌, true, false, List, [], ◌∷◌, ◌++◌, Option, Some, None, length, get_or, map, nat_lt, if◌then◌else◌, refl, sym, ap, ◌∙◌, subst, inl, inr, arith}
use Rattle.std.specs.List.{position_or_len}
use Rattle.std.specs.Str.{bytes_eq}
use Rattle.std.proofs.lemmas.Bool.{cases_Bool, lt-ltb, le-ltb, ltb-true}
use Rattle.std.proofs.lemmas.List.{get_or-map, get_or_default, length-map}
use Rattle.std.proofs.lemmas.List.Sums.{position_or_len_is}
use Rattle.fab_netlist.specs.Plain.{PlainNetlist, name_of}
use Rattle.fab_netlist.specs.WellMade.{IsWired, IsWellMade, cover_outputs, latch_outputs}
use Rattle.fab_netlist.specs.Resets.{reset_place, with_reset, set_at, netlist_with}
use Rattle.fab_netlist.specs.Cycles.{ReadsOn, HasNoCycle}
use Rattle.fab_netlist.specs.inner.Order.{StandBehind, IsOrder}
use Rattle.fab_netlist.proofs.Members.{in_right}
use Rattle.fab_netlist.proofs.Packs.{few_ports, length_joined}

-- ---- the input of a name

module _ (netlist : PlainNetlist) where
  -- inputs are nets, and few
  pub inputs_below : IsWired netlist → (place d : ℕ) → place < length netlist.inputs → get_or netlist.inputs place d < length netlist.nets
  inputs_below wiring place d small =
      let net = get_or netlist.inputs place d in
      wiring.driven_below net (in_right (cover_outputs netlist.covers) (latch_outputs netlist ++ netlist.inputs) net (in_right (latch_outputs netlist) netlist.inputs net
      (place, small, get_or_default netlist.inputs place net d small)))

  pub few_inputs : IsWired netlist → length netlist.inputs ≤ 16384
  few_inputs wiring = omega (arith, few_ports netlist wiring, length_joined netlist.inputs netlist.outputs)

  module _ (port : List ℕ) where
    abbrev names : List (List ℕ)
    names = map (name_of netlist) netlist.inputs

    name_at : (place d : ℕ) → place < length netlist.inputs → get_or names place [] ≡ name_of netlist (get_or netlist.inputs place d)
    name_at place d small = get_or-map (name_of netlist) netlist.inputs place d [] small

    as_many : length names ≡ length netlist.inputs
    as_many = length-map netlist.inputs (name_of netlist)

    abbrev OthersBefore : (place : ℕ) → Type 0
    OthersBefore place = (k : ℕ) → k < place → bytes_eq port (name_of netlist (get_or netlist.inputs k 0)) ≡ false

    others_before : (place : ℕ) → place ≤ length netlist.inputs → OthersBefore place → (k : ℕ) → k < place → bytes_eq port (get_or names k []) ≡ false
    others_before place small others k below = ap (bytes_eq port) (name_at k 0 (omega (arith, small, below))) ∙ others k below

    -- the first input of the name is what is sought
    pub first_named : (place d : ℕ) → place < length netlist.inputs → OthersBefore place → bytes_eq port (name_of netlist (get_or netlist.inputs place d)) ≡ true → Some place ≡ reset_place netlist port
    first_named place d small others here =
        let first : position_or_len (bytes_eq port) names ≡ place =
        position_or_len_is (bytes_eq port) names place [] (omega (arith, small, as_many)) (others_before place (omega (arith, small)) others)
        (λ inside. ap (bytes_eq port) (name_at place d small) ∙ here) in
        rw (first, lt-ltb place (length names) (omega (arith, small, as_many))) refl

    -- where no input has the name, none is
    pub none_named : (place : ℕ) → length netlist.inputs ≤ place → OthersBefore place → None ≡ reset_place netlist port
    none_named place all others =
        let before = others_before (length netlist.inputs) (omega arith) (λ k below. others k (omega (arith, below, all))) in
        let end : position_or_len (bytes_eq port) names ≡ length names =
        position_or_len_is (bytes_eq port) names (length names) [] (omega arith) (λ k below. before k (omega (arith, below, as_many))) (λ inside. absurd (omega (arith, inside))) in
        rw (end, le-ltb (length names) (length names) (omega arith)) refl

-- ---- orders and cycles

module _ (place : ℕ) (netlist : PlainNetlist) where
  reads_before : (first : ℕ) (rest : List ℕ) (end : ℕ) → ReadsOn (with_reset place netlist) first rest end → ReadsOn netlist first rest end
  reads_before first [] end reads = reads
  reads_before first (second ∷ rest) end reads = (reads.0, reads_before second rest end reads.1)

  pub reads_again : (first : ℕ) (rest : List ℕ) (end : ℕ) → ReadsOn netlist first rest end → ReadsOn (with_reset place netlist) first rest end
  reads_again first [] end reads = reads
  reads_again first (second ∷ rest) end reads = (reads.0, reads_again second rest end reads.1)

  pub no_cycle_again : HasNoCycle netlist → HasNoCycle (with_reset place netlist)
  no_cycle_again none [] cycle = cycle
  no_cycle_again none (first ∷ rest) cycle = none (first ∷ rest) (reads_before first rest first cycle)

  behind_again : (first places : List ℕ) → StandBehind netlist first places → StandBehind (with_reset place netlist) first places
  behind_again first [] behind = behind
  behind_again first (next ∷ places) (within, sources, rest) = (within, sources, behind_again (next ∷ first) places rest)

  pub order_again : (places : List ℕ) → IsOrder netlist places → IsOrder (with_reset place netlist) places
  order_again places order = record { behind = behind_again [] places order.behind; all = order.all }

  pub made_again : IsWellMade netlist → place < length netlist.inputs → IsWellMade (with_reset place netlist)
  made_again made few = record {
    small = made.small;
    driven_below = made.driven_below;
    read_below = made.read_below;
    four_inputs = made.four_inputs;
    repeats = made.repeats;
    initials = made.initials;
    driven_once = made.driven_once;
    read_driven = made.read_driven;
    reset_below = λ other is. subst (λ n. n < length netlist.inputs) (some_same place other is) few;
    ports_differ = made.ports_differ;
  }
    where
      some_same : (a b : ℕ) → Some a ≡ Some b → a ≡ b
      some_same a b same = cc

-- ---- with the reset port of a name

-- the place of a name is that of an input
pub place_below : (netlist : PlainNetlist) (port : List ℕ) (place : ℕ) → reset_place netlist port ≡ Some place → place < length netlist.inputs
place_below netlist port place =
    by_test (position_or_len (bytes_eq port) (names netlist port)) (length (names netlist port)) (as_many netlist port)
  where
    by_test : (first count : ℕ) → count ≡ length netlist.inputs → (if nat_lt first count then Some first else None) ≡ Some place → place < length netlist.inputs
    by_test first count same is =
        elim (cases_Bool (nat_lt first count)) [
          | inl here ↦ (
              let some : Some first ≡ Some place = sym (ap (λ b. if b then Some first else None) here) ∙ is in
              let equal : first ≡ place = cc in
              omega (arith, ltb-true first count here, equal, same))
          | inr past ↦ absurd (let none : None ≡ Some place = sym (ap (λ b. if b then Some first else None) past) ∙ is in let bad : ⊥ = cc in bad)
        ]

module _ (netlist : PlainNetlist) where
  made_at : IsWellMade netlist → (found : Option ℕ) → ((place : ℕ) → found ≡ Some place → place < length netlist.inputs) → IsWellMade (set_at found netlist)
  made_at made None below = made
  made_at made (Some place) below = made_again place netlist made (below place refl)

  no_cycle_at : HasNoCycle netlist → (found : Option ℕ) → HasNoCycle (set_at found netlist)
  no_cycle_at none None = none
  no_cycle_at none (Some place) = no_cycle_again place netlist none

  -- it is well made, and has no cycle
  pub made_with : (port : Option (List ℕ)) → IsWellMade netlist → IsWellMade (netlist_with port netlist)
  made_with None made = made
  made_with (Some port) made = made_at made (reset_place netlist port) (place_below netlist port)

  pub no_cycle_with : (port : Option (List ℕ)) → HasNoCycle netlist → HasNoCycle (netlist_with port netlist)
  no_cycle_with None none = none
  no_cycle_with (Some port) none = no_cycle_at none (reset_place netlist port)
