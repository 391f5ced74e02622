-- How often a net stands in a list.
use Rattle.std.proofs.Common.{◌≡◌, ◌⊎◌, ℕ, zero, suc, ◌+◌, ◌≤◌, true, List, [], ◌∷◌, ◌++◌, map, get_or, Contains, nat_eq, refl, sym, ap, ◌∙◌, subst, inl, inr, arith, eq-eqb, eqb-true}
use Rattle.std.proofs.lemmas.List.{get_or_default}
use Rattle.std.proofs.lemmas.Bool.{cases_Bool}
use Rattle.fab_netlist.specs.Plain.{PlainCover, PlainNetlist, IsAt}
use Rattle.fab_netlist.specs.WellMade.{times, cover_outputs, latch_outputs, driven}
use Rattle.fab_netlist.proofs.Members.{in_none, first_or_later}

-- counts of joined lists add up
pub times_joined : (net : ℕ) (xs ys : List ℕ) → times net (xs ++ ys) ≡ times net xs + times net ys
times_joined net [] ys = omega arith
times_joined net (x ∷ xs) ys = omega (arith, times_joined net xs ys)

-- the counts of the three kinds of drivers
pub driven_parts : (netlist : PlainNetlist) (net : ℕ) → times net (driven netlist) ≡ times net (cover_outputs netlist.covers) + (times net (latch_outputs netlist) + times net netlist.inputs)
driven_parts netlist net = omega (arith, times_joined net (cover_outputs netlist.covers) (latch_outputs netlist ++ netlist.inputs), times_joined net (latch_outputs netlist) netlist.inputs)

-- what stands in a list is counted
pub member_counts : (net : ℕ) (xs : List ℕ) → Contains xs net → 1 ≤ times net xs
member_counts net [] here = absurd (in_none net here)
member_counts net (x ∷ xs) here =
    elim (first_or_later x xs net here) [
      | inl same ↦ (let equal : nat_eq x net ≡ true = eq-eqb x net same in rw equal (omega arith))
      | inr later ↦ omega (arith, member_counts net xs later)
    ]

-- a net stands nowhere in a list, or has a place in it
pub nowhere_or_at : (net : ℕ) (xs : List ℕ) → (times net xs ≡ 0) ⊎ ((place : ℕ) × IsAt xs place net)
nowhere_or_at net [] = inl refl
nowhere_or_at net (x ∷ xs) =
    elim (cases_Bool (nat_eq x net)) [
      | inl equal ↦ inr (zero, (omega arith, eqb-true x net equal))
      | inr other ↦ elim (nowhere_or_at net xs) [
        | inl none ↦ inl (rw other (omega (arith, none)))
        | inr at ↦ inr (suc at.0, (omega (arith, at.1.0), at.1.1))
      ]
    ]

-- a net that stands once has one place
pub one_place : (net : ℕ) (xs : List ℕ) (j k : ℕ) → times net xs ≤ 1 → IsAt xs j net → IsAt xs k net → j ≡ k
one_place net [] j k once first second = absurd (omega (arith, first.0))
one_place net (x ∷ xs) zero zero once first second = refl
one_place net (x ∷ xs) zero (suc k) once first second =
    let equal : nat_eq x net ≡ true = eq-eqb x net first.1 in
    let more : times net (x ∷ xs) ≡ 1 + times net xs = rw equal refl in
    absurd (omega (arith, more, once, member_counts net xs (k, omega (arith, second.0), second.1)))
one_place net (x ∷ xs) (suc j) zero once first second =
    let equal : nat_eq x net ≡ true = eq-eqb x net second.1 in
    let more : times net (x ∷ xs) ≡ 1 + times net xs = rw equal refl in
    absurd (omega (arith, more, once, member_counts net xs (j, omega (arith, first.0), first.1)))
one_place net (x ∷ xs) (suc j) (suc k) once first second =
    ap suc (one_place net xs j k (omega (arith, once)) (omega (arith, first.0), first.1) (omega (arith, second.0), second.1))

-- places stay where a list is mapped
pub at_mapped : {X Y : Type 0} (f : X → Y) (xs : List X) (place : ℕ) (x : X) → IsAt xs place x → IsAt (map f xs) place (f x)
at_mapped f [] place x at = absurd (omega (arith, at.0))
at_mapped f (y ∷ ys) zero x at = (omega arith, ap f at.1)
at_mapped f (y ∷ ys) (suc place) x at = let rest = at_mapped f ys place x (omega (arith, at.0), at.1) in (omega (arith, rest.0), rest.1)

-- covers of one output are one cover, where no net is driven twice
pub one_cover : (covers : List PlainCover) (c d : PlainCover) → times c.output (cover_outputs covers) ≤ 1 → Contains covers c → Contains covers d → c.output ≡ d.output → c ≡ d
one_cover covers c d once (j, j_small, j_at) (k, k_small, k_at) same =
    let first = at_mapped (λ (x : PlainCover). x.output) covers j c (j_small, j_at) in
    let second = at_mapped (λ (x : PlainCover). x.output) covers k d (k_small, k_at) in
    let places : j ≡ k = one_place c.output (cover_outputs covers) j k once first (subst (λ (net : ℕ). IsAt (cover_outputs covers) k net) (sym same) second) in
    sym j_at ∙ ap (λ place. get_or covers place c) places ∙ get_or_default covers k c d k_small ∙ k_at
