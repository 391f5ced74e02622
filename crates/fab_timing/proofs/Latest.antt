-- If ranks grow along steps, sums that follow from those before them are the greatest.
use Rattle.std.proofs.Common.{◌≡◌, ◌⊎◌, ℕ, zero, suc, ◌+◌, ◌≤◌, ◌<◌, max, Bool, true, List, [], ◌∷◌, length, get_or, drop, Contains, Option, Some, None, option_map, refl, sym, ap, ap₂, ◌∙◌, subst, inl, inr, arith}
use Rattle.std.proofs.lemmas.Bool.{cases_lt}
use Rattle.std.proofs.lemmas.List.{at_drop_more}
use Rattle.fab_netlist.proofs.Members.{in_none, first_or_later, first_in, later_in}
use Rattle.fab_timing.specs.inner.Arrivals.{PlainSteps, Arrives, begins, goes, IsLatest, later_of, by_steps, latest_by, IsRanked, AreKnown, KnownAreLatest}

-- at least so much
abbrev IsAbove : ℕ → Option ℕ → Type 0
IsAbove sum option = (most : ℕ) × (option ≡ Some most) × (sum ≤ most)

above_left : (sum : ℕ) (a b : Option ℕ) → IsAbove sum a → IsAbove sum (later_of a b)
above_left sum None b above = absurd (let bad = above.1 in let worse : ⊥ = cc in worse)
above_left sum (Some m) None above = above
above_left sum (Some m) (Some n) above = (let is = above.1 in let same : m ≡ above.0 = cc in (max m n, refl, omega (arith, above.2, same)))

above_right : (sum : ℕ) (a b : Option ℕ) → IsAbove sum b → IsAbove sum (later_of a b)
above_right sum None b above = above
above_right sum (Some m) None above = absurd (let bad = above.1 in let worse : ⊥ = cc in worse)
above_right sum (Some m) (Some n) above = (let is = above.1 in let same : n ≡ above.0 = cc in (max m n, refl, omega (arith, above.2, same)))

-- the greater is one of both
greater : (x y m : ℕ) → max x y ≡ m → (Some x ≡ Some m) ⊎ (Some y ≡ Some m)
greater x y m same =
    elim (cases_lt x y) [
      | inl less ↦ inr (let is : y ≡ m = omega (arith, less, same) in ap Some is)
      | inr more ↦ inl (let is : x ≡ m = omega (arith, more, same) in ap Some is)
    ]

pub either : (a b : Option ℕ) (m : ℕ) → later_of a b ≡ Some m → (a ≡ Some m) ⊎ (b ≡ Some m)
either None b m is = inr is
either (Some x) None m is = inl is
either (Some x) (Some y) m is = (let same : max x y ≡ m = cc in greater x y m same)

most_of_three : (x y z : ℕ) → max (max x y) z ≡ max x (max y z)
most_of_three x y z = omega arith

later_of_three : (a b c : Option ℕ) → later_of (later_of a b) c ≡ later_of a (later_of b c)
later_of_three None b c = refl
later_of_three (Some x) None c = refl
later_of_three (Some x) (Some y) None = refl
later_of_three (Some x) (Some y) (Some z) = ap Some (most_of_three x y z)

-- ---- what steps give

-- what a step gives
abbrev pub by_step : (latest : ℕ → Option ℕ) → ℕ × ℕ → Option ℕ
by_step latest step = option_map (λ sum. sum + step.1) (latest step.0)

-- a step by which a sum came
pub record IsBy (latest : ℕ → Option ℕ) (before : List (ℕ × ℕ)) (sum : ℕ) : Type 0 where
  pub step : ℕ × ℕ
  pub among : Contains before step
  pub old : ℕ
  pub old_is : latest step.0 ≡ Some old
  pub sum_is : sum ≡ old + step.1

of_option : (o : Option ℕ) (units sum : ℕ) → option_map (λ s. s + units) o ≡ Some sum → (old : ℕ) × (o ≡ Some old) × (sum ≡ old + units)
of_option None units sum is = absurd (let worse : ⊥ = cc in worse)
of_option (Some old) units sum is = (old, refl, (let same : old + units ≡ sum = cc in sym same))

pub by_which : (latest : ℕ → Option ℕ) (before : List (ℕ × ℕ)) (sum : ℕ) → by_steps latest before ≡ Some sum → IsBy latest before sum
by_which latest [] sum is = absurd (let worse : ⊥ = cc in worse)
by_which latest (step ∷ more) sum is =
    elim (either (by_step latest step) (by_steps latest more) sum is) [
      | inl here ↦ (let found = of_option (latest step.0) step.1 sum here in record { step = step; among = first_in step more step refl; old = found.0; old_is = found.1; sum_is = found.2 })
      | inr later ↦ (let found = by_which latest more sum later in record { step = found.step; among = later_in step more found.step found.among; old = found.old; old_is = found.old_is; sum_is = found.sum_is })
    ]

-- a step from a node of some sum
by_above : (latest : ℕ → Option ℕ) (before : List (ℕ × ℕ)) (from units sum : ℕ) → Contains before (from, units) → IsAbove sum (latest from) → IsAbove (sum + units) (by_steps latest before)
by_above latest [] from units sum none above = absurd (in_none (from, units) none)
by_above latest (step ∷ more) from units sum among above =
    elim (first_or_later step more (from, units) among) [
      | inl here ↦ (
          let from_is : step.0 ≡ from = ap (λ (s : ℕ × ℕ). s.0) here in
          let units_is : step.1 ≡ units = ap (λ (s : ℕ × ℕ). s.1) here in
          let there : latest step.0 ≡ Some above.0 = ap latest from_is ∙ above.1 in
          above_left (sum + units) (by_step latest step) (by_steps latest more)
          (above.0 + step.1, ap (option_map (λ s. s + step.1)) there, omega (arith, above.2, units_is)))
      | inr later ↦ above_right (sum + units) (by_step latest step) (by_steps latest more) (by_above latest more from units sum later above)
    ]

-- what steps give depends on the nodes before alone
by_steps_same : (latest new : ℕ → Option ℕ) (before : List (ℕ × ℕ)) → ((step : ℕ × ℕ) → Contains before step → new step.0 ≡ latest step.0) → by_steps new before ≡ by_steps latest before
by_steps_same latest new [] same = refl
by_steps_same latest new (step ∷ more) same =
    ap₂ later_of (ap (option_map (λ sum. sum + step.1)) (same step (first_in step more step refl)))
    (by_steps_same latest new more (λ other among. same other (later_in step more other among)))

pub latest_same : (steps : PlainSteps) (latest new : ℕ → Option ℕ) (node : ℕ) → ((step : ℕ × ℕ) → Contains (steps.before node) step → new step.0 ≡ latest step.0) →
    latest_by steps new node ≡ latest_by steps latest node
latest_same steps latest new node same = ap (later_of (steps.starts node)) (by_steps_same latest new (steps.before node) same)

-- one step more
pub one_more : (latest : ℕ → Option ℕ) (before : List (ℕ × ℕ)) (place : ℕ) (d : ℕ × ℕ) (best new : Option ℕ) → place < length before →
    new ≡ later_of best (by_step latest (get_or before place d)) →
    later_of new (by_steps latest (drop (place + 1) before)) ≡ later_of best (by_steps latest (drop place before))
one_more latest before place d best new within is =
    ap (λ (o : Option ℕ). later_of o (by_steps latest (drop (place + 1) before))) is
    ∙ later_of_three best (by_step latest (get_or before place d)) (by_steps latest (drop (place + 1) before))
    ∙ ap (later_of best) (sym (at_drop_more (by_steps latest) before place d within))

-- ---- sums in a ranked graph

module _ (steps : PlainSteps) (rank : ℕ → ℕ) (is_known : ℕ → Bool) (latest : ℕ → Option ℕ) (ranked : IsRanked steps rank) (are : AreKnown steps is_known latest) where
  most : (node sum : ℕ) → is_known node ≡ true → Arrives steps node sum → IsAbove sum (latest node)
  most node sum known (begins start) =
      subst (λ (o : Option ℕ). IsAbove sum o) (sym (are.by node known)) (above_left sum (steps.starts node) (by_steps latest (steps.before node)) (sum, start, omega arith))
  most node sum known (goes from old units arrives among) =
      subst (λ (o : Option ℕ). IsAbove (old + units) o) (sym (are.by node known))
      (above_right (old + units) (steps.starts node) (by_steps latest (steps.before node))
      (by_above latest (steps.before node) from units old among (most from old (are.closed node (from, units) known among) arrives)))

  arrives_below : (bound node sum : ℕ) → rank node < bound → is_known node ≡ true → latest node ≡ Some sum → Arrives steps node sum
  arrives_below zero node sum low known is = absurd (omega (arith, low))
  arrives_below (suc bound) node sum low known is =
      elim (either (steps.starts node) (by_steps latest (steps.before node)) sum (sym (are.by node known) ∙ is)) [
        | inl start ↦ begins start
        | inr came ↦ (
            let by = by_which latest (steps.before node) sum came in
            let lower = ranked node by.step by.among in
            let before = arrives_below bound by.step.0 by.old (omega (arith, low, lower)) (are.closed node by.step known by.among) by.old_is in
            subst (λ (s : ℕ). Arrives steps node s) (sym by.sum_is) (goes by.step.0 by.old by.step.1 before by.among))
      ]

  of_latest : (node : ℕ) (o : Option ℕ) → is_known node ≡ true → latest node ≡ o → IsLatest steps node o
  of_latest node None known is = λ sum arrives. (let above = most node sum known arrives in let one = above.1 in let worse : ⊥ = cc in worse)
  of_latest node (Some sum) known is = (
    arrives_below (suc (rank node)) node sum (omega arith) known is,
    λ other arrives.
        (let above = most node other known arrives in let one = above.1 in let same : sum ≡ above.0 = cc in omega (arith, above.2, same)),
  )

pub known_are_latest : KnownAreLatest
known_are_latest steps rank is_known latest ranked are node known = of_latest steps rank is_known latest ranked are node (latest node) known refl
