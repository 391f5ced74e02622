-- A design is fine, or it has a first refusal.
use Rattle.std.proofs.Common.{◌≡◌, ◌≤◌, ◌⊎◌, ◌+◌, ℕ, suc, Bool, true, false, cond, List, [], ◌∷◌, length, Contains, Option, Some, None, nat_le, if◌then◌else◌, refl, ap, subst, arith, inl, inr, eqb-true}
use Rattle.std.specs.List.{count_by, list_any}
use Rattle.std.proofs.lemmas.Bool.{cases_Bool, cases_lt}
use Rattle.std.proofs.lemmas.Bool.Decides.{nat_tests}
use Rattle.fab_base.specs.Reading.{fault_at}
use Rattle.fab_base.specs.declared.fault.Fault.{Fault}
use Rattle.fab_base.specs.declared.problem.Problem.TheVariants as problems
use Rattle.fab_base.specs.declared.words.Quantity.TheVariants as quantities
use Rattle.fab_base.specs.declared.words.Reason.TheVariants as reasons
use Rattle.fab_netlist.specs.WellMade.{most_nets}
use Rattle.fab_blif.specs.declared.clocks.ClockFault.{ClockFault}
use Rattle.fab_blif.specs.declared.design.Use.{Use}
use Rattle.fab_blif.specs.Design.{PlainDesign}
use Rattle.fab_blif.specs.Judged.{EachHasOne, inner_drivers, input_ports, is_of, undriven_line}
use Rattle.fab_blif.specs.Clocks.{clock_faults, first_fault}
use Rattle.fab_blif.specs.Refusals.{IsFineDesign, IsSecondDriver, RefusesDesign, clock_problem, drivers_upto, upto}
use Rattle.fab_blif.proofs.Clocking.{none_wrong}
use Rattle.fab_blif.proofs.Counted.{count_first}
use Rattle.fab_ready_laws.proofs.Decisions.{IsDecided, behind, in_front, some_decided}
use Rattle.fab_ready_laws.proofs.Leasts.{least_below, upto_decided}

-- ---- uses up to a line

-- what is counted is there
some_counted : {X : Type 0} (p : X → Bool) (xs : List X) → 1 ≤ count_by p xs → (x : X) × Contains xs x × (p x ≡ true)
some_counted p [] few = absurd (omega (arith, few))
some_counted p (x ∷ xs) few = elim (cases_Bool (p x)) [
  | inl here ↦ (x, in_front x xs, here)
  | inr other ↦ (
      let rest = some_counted p xs (omega (arith, few, count_first p x xs, ap (λ (b : Bool). cond {A = ℕ} b 1 0) other)) in
      (rest.0, behind x rest.0 xs rest.1, rest.2))
]

-- the sum of the lines, which is no less than any of them
line_sum : List Use → ℕ
line_sum [] = 0
line_sum (used ∷ uses) = used.line + line_sum uses

kept_yes : (a b : ℕ) → a ≤ b → nat_le a b ≡ true
kept_yes a b less = grind (arith, nat_tests)

all_upto : (line : ℕ) (uses : List Use) → line_sum uses ≤ line → upto line uses ≡ uses
unfolding line_sum
all_upto line [] less = refl
all_upto line (used ∷ uses) less =
    rw (kept_yes used.line line (omega (arith, less))) (ap (λ (rest : List Use). used ∷ rest) (all_upto line uses (omega (arith, less))))

one_at_most : (b : Bool) → (if b then 1 else 0) ≤ 1
one_at_most true = omega arith
one_at_most false = omega arith

module _ (design : PlainDesign) where
  -- ---- a second driver

  -- some net has two drivers on lines up to this one
  abbrev HasTwo : ℕ → Type 0
  HasTwo line = (used : Use) × Contains (upto line (inner_drivers design)) used × (2 ≤ drivers_upto design line used.net)

  two_decided : (line : ℕ) → IsDecided (HasTwo line)
  two_decided line = some_decided (λ (used : Use). 2 ≤ drivers_upto design line used.net) (λ used. upto_decided 2 (drivers_upto design line used.net)) (upto line (inner_drivers design))

  -- a net with two drivers is driven by a cover or a latch
  two_there : (line net : ℕ) → 2 ≤ drivers_upto design line net → HasTwo line
  two_there line net two =
      let found =
      some_counted (is_of net) (upto line (inner_drivers design)) (omega (arith, two, one_at_most (list_any (is_of net) (upto line (input_ports design))))) in
      (found.0, found.1, subst (λ (n : ℕ). 2 ≤ drivers_upto design line n) (eqb-true net found.0.net found.2) two)

  one_upto : (line : ℕ) → (HasTwo line → ⊥) → (net : ℕ) → drivers_upto design line net ≤ 1
  one_upto line none net = elim (cases_lt 1 (drivers_upto design line net)) [
    | inl two ↦ absurd (none (two_there line net (omega (arith, two))))
    | inr one ↦ one
  ]

  last_driver : ℕ
  last_driver = line_sum (inner_drivers design) + line_sum (input_ports design)

  all_once : (HasTwo last_driver → ⊥) → EachHasOne design
  unfolding last_driver
  all_once none net =
      let inner = all_upto last_driver (inner_drivers design) (omega arith) in
      let ports = all_upto last_driver (input_ports design) (omega arith) in
      subst (λ (uses : List Use). count_by (is_of net) uses + (if list_any (is_of net) (input_ports design) then 1 else 0) ≤ 1) inner
      (subst (λ (uses : List Use). count_by (is_of net) (upto last_driver (inner_drivers design)) + (if list_any (is_of net) uses then 1 else 0) ≤ 1) ports
      (one_upto last_driver none net))

  drivers_judged : EachHasOne design ⊎ ((line : ℕ) × IsSecondDriver design line)
  drivers_judged = elim (least_below HasTwo two_decided (suc last_driver)) [
    | inr none ↦ inl (all_once (none last_driver (omega arith)))
    | inl found ↦ (
        let second : IsSecondDriver design found.0 =
        record { net = found.2.0.0.net; second = found.2.0.2; first = λ before other less. one_upto before (found.2.1 before less) other } in
        inr (found.0, second))
  ]

  -- ---- the design

  module _ (file : List ℕ) (last : ℕ) where
    abbrev IsJudged : Type 0
    IsJudged = IsFineDesign design ⊎ ((fault : Fault) × RefusesDesign file last design fault)

    by_clocks : EachHasOne design → undriven_line design ≡ None → length design.nets ≤ most_nets → (told : Option ClockFault) → first_fault (clock_faults design) ≡ told → IsJudged
    by_clocks once driven small None is = inl (record { once = once; driven = driven; small = small; clocks = none_wrong (clock_faults design) is })
    by_clocks once driven small (Some told) is = inr (fault_at file told.line (clock_problem told.wrong), inr (inr (inr (once, driven, small, (told, is, refl)))))

    by_size : EachHasOne design → undriven_line design ≡ None → IsJudged
    by_size once driven = elim (cases_lt most_nets (length design.nets)) [
      | inr small ↦ by_clocks once driven small (first_fault (clock_faults design)) refl
      | inl many ↦ inr (fault_at file last (problems.Limit quantities.Nets (length design.nets) most_nets), inr (inr (inl (once, driven, (many, refl)))))
    ]

    by_undriven : EachHasOne design → (line : Option ℕ) → undriven_line design ≡ line → IsJudged
    by_undriven once None is = by_size once is
    by_undriven once (Some line) is = inr (fault_at file line (problems.Malformed reasons.Undriven), inr (inl (once, (line, is, refl))))

    pub design_judged : IsJudged
    design_judged = elim drivers_judged [
      | inl once ↦ by_undriven once (undriven_line design) refl
      | inr second ↦ inr (fault_at file second.0 (problems.Malformed reasons.Drivers), inl (second.0, second.1, refl))
    ]
