-- The small netlists of the tests are well made.
use Rattle.std.proofs.Common.{◌≡◌, ℕ, zero, suc, ◌≤◌, ◌%◌, ◌^◌, Bool, true, not, ◌&&◌, List, [], ◌∷◌, length, get_or, Contains, Some, None, nat_eq, nat_lt, refl, sym, ap, ◌∙◌, inl, inr, arith, eqb-true}
use Rattle.std.specs.List.{list_any}
use Rattle.std.proofs.lemmas.Bool.{cases_Bool, false≢true, ltb-true}
use Rattle.fab_bits.specs.Bits.{same_bit}
use Rattle.fab_netlist.specs.declared.netlist.Latch.{Latch}
use Rattle.fab_netlist.specs.Plain.{PlainCover, PlainNetlist, IsAt, cover_at, name_of}
use Rattle.fab_netlist.specs.WellMade.{IsWellMade, times, driven, read, ports, table_bit}
use Rattle.fab_netlist.specs.Cycles.{HasNoCycle}
use Rattle.fab_netlist.specs.Examples.{toggle, round, watched}
use Rattle.fab_netlist.proofs.Members.{in_none, first_or_later, parts_true, any_number, number_any}
use Rattle.fab_netlist.proofs.Counts.{nowhere_or_at}
use Rattle.fab_netlist.proofs.Ranks.{rank_no_cycle, places_below, below_in}
use Rattle.fab_netlist.proofs.Settling.{same_bit_same}

-- a test of all members
abbrev each : {X : Type 0} → (X → Bool) → List X → Bool
each test [] = true
each test (x ∷ xs) = test x && each test xs

-- each member passes the test of all
each_gives : {X : Type 0} (test : X → Bool) (xs : List X) → each test xs ≡ true → (x : X) → Contains xs x → test x ≡ true
each_gives test [] passes x here = absurd (in_none x here)
each_gives test (y ∷ ys) passes x here =
    let parts = parts_true (test y) (each test ys) passes in
    elim (first_or_later y ys x here) [
      | inl same ↦ ap test (sym same) ∙ parts.0
      | inr later ↦ each_gives test ys parts.1 x later
    ]

-- whether no net stands twice
abbrev distinct : List ℕ → Bool
distinct [] = true
distinct (x ∷ xs) = not (list_any (λ y. nat_eq y x) xs) && distinct xs

-- where none stands twice, each is counted once
distinct_once : (xs : List ℕ) → distinct xs ≡ true → (x : ℕ) → times x xs ≤ 1
distinct_once [] given x = omega arith
distinct_once (y ∷ ys) given x =
    let parts = parts_true (not (list_any (λ z. nat_eq z y) ys)) (distinct ys) given in
    elim (cases_Bool (nat_eq y x)) [
      | inl same ↦ elim (nowhere_or_at x ys) [
        | inl none ↦ rw same (omega (arith, none))
        | inr at ↦ absurd (
            let equal : y ≡ x = eqb-true y x same in
            let there : list_any (λ z. nat_eq z y) ys ≡ true = ap (λ w. list_any (λ z. nat_eq z w) ys) equal ∙ number_any ys x (at.0, at.1.0, at.1.1) in
            false≢true (ap not (sym there) ∙ parts.0))
      ]
      | inr other ↦ rw other (omega (arith, distinct_once ys parts.1 x))
    ]

-- whether a table repeats over the unused inputs
abbrev repeats : PlainCover → Bool
repeats cover = each (λ place. same_bit (table_bit cover.table place) (table_bit cover.table (place % 2 ^ length cover.inputs))) (places_below 16)

-- a netlist that passes these tests is well made
made_by_tests : (netlist : PlainNetlist) → length netlist.nets ≤ 16384 →
    each (λ net. nat_lt net (length netlist.nets)) (driven netlist) ≡ true → each (λ net. nat_lt net (length netlist.nets)) (read netlist) ≡ true →
    each (λ (cover : PlainCover). nat_lt (length cover.inputs) 5) netlist.covers ≡ true → each repeats netlist.covers ≡ true → each (λ (latch : Latch). nat_lt latch.init 4) netlist.latches ≡ true →
    distinct (driven netlist) ≡ true → each (λ net. list_any (λ other. nat_eq other net) (driven netlist)) (read netlist) ≡ true →
    ((j k : ℕ) (first second : ℕ) → IsAt (ports netlist) j first → IsAt (ports netlist) k second → name_of netlist first ≡ name_of netlist second → j ≡ k) → netlist.reset ≡ None → IsWellMade netlist
made_by_tests netlist small drives reads four repeating initials once known differ unset = record {
  small = small;
  driven_below = λ net here. ltb-true net (length netlist.nets) (each_gives (λ net. nat_lt net (length netlist.nets)) (driven netlist) drives net here);
  read_below = λ net here. ltb-true net (length netlist.nets) (each_gives (λ net. nat_lt net (length netlist.nets)) (read netlist) reads net here);
  four_inputs = λ cover here. omega (arith, ltb-true (length cover.inputs) 5 (each_gives (λ (z : PlainCover). nat_lt (length z.inputs) 5) netlist.covers four cover here));
  repeats = λ cover here place below.
      same_bit_same (table_bit cover.table place) (table_bit cover.table (place % 2 ^ length cover.inputs))
      (each_gives (λ k. same_bit (table_bit cover.table k) (table_bit cover.table (k % 2 ^ length cover.inputs))) (places_below 16) (each_gives repeats netlist.covers repeating cover here) place (below_in 16 place below));
  initials = λ latch here. omega (arith, ltb-true latch.init 4 (each_gives (λ (z : Latch). nat_lt z.init 4) netlist.latches initials latch here));
  driven_once = distinct_once (driven netlist) once;
  read_driven = λ net here. any_number (driven netlist) net (each_gives (λ z. list_any (λ other. nat_eq other z) (driven netlist)) (read netlist) known net here);
  reset_below = λ place is. (let e : None ≡ Some place = sym unset ∙ is in cc);
  ports_differ = differ;
}

-- `e` and `q` are other names
e_is_not_q : name_of toggle 0 ≡ name_of toggle 1 → ⊥
e_is_not_q same =
    let firsts : ◌≡◌ {A = ℕ} 101 113 = ap (λ name. get_or name 0 0) same in
    omega (arith, firsts)

-- the ports of the toggle have different names
toggle_ports : (j k : ℕ) (first second : ℕ) → IsAt (ports toggle) j first → IsAt (ports toggle) k second → name_of toggle first ≡ name_of toggle second → j ≡ k
toggle_ports zero zero first second at_j at_k same = refl
toggle_ports zero (suc zero) first second at_j at_k same = absurd (e_is_not_q (ap (name_of toggle) at_j.1 ∙ same ∙ ap (name_of toggle) (sym at_k.1)))
toggle_ports (suc zero) zero first second at_j at_k same = absurd (e_is_not_q (ap (name_of toggle) at_k.1 ∙ sym same ∙ ap (name_of toggle) (sym at_j.1)))
toggle_ports (suc zero) (suc zero) first second at_j at_k same = refl
toggle_ports zero (suc (suc k)) first second at_j at_k same = absurd (omega (arith, at_k.0))
toggle_ports (suc zero) (suc (suc k)) first second at_j at_k same = absurd (omega (arith, at_k.0))
toggle_ports (suc (suc j)) k first second at_j at_k same = absurd (omega (arith, at_j.0))

-- the toggle is well made
pub toggle_made : IsWellMade toggle
toggle_made = made_by_tests toggle (omega arith) refl refl refl refl refl refl refl toggle_ports refl

-- so is the toggle that is watched
pub watched_made : IsWellMade watched
watched_made = made_by_tests watched (omega arith) refl refl refl refl refl refl refl toggle_ports refl

-- so are the two covers that read each other
pub round_made : IsWellMade round
round_made = made_by_tests round (omega arith) refl refl refl refl refl refl refl (λ j k first second at_j at_k same. absurd (omega (arith, at_j.0))) refl

-- no cover of it reads a cover
pub toggle_no_cycle : HasNoCycle toggle
toggle_no_cycle = rank_no_cycle toggle (
  (λ place. 0),
  λ reader source reads.
      absurd (
      let apart = each_gives (λ j. each (λ k. not (list_any (λ net. nat_eq net (cover_at toggle k).output) (cover_at toggle j).inputs)) (places_below 2)) (places_below 2) refl reader (below_in 2 reader reads.0) in
      let not_read = each_gives (λ k. not (list_any (λ net. nat_eq net (cover_at toggle k).output) (cover_at toggle reader).inputs)) (places_below 2) apart source (below_in 2 source reads.1) in
      false≢true (ap not (sym (number_any (cover_at toggle reader).inputs (cover_at toggle source).output reads.2)) ∙ not_read)),
)
