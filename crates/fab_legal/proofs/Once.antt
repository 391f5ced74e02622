-- Lines that name each thing once.
use Rattle.std.proofs.Common.{◌≡◌, ℕ, ◌<◌, ◌≤◌, List, length, take, Contains, refl, ap, ◌∙◌, subst, inl, inr, arith}
use Rattle.std.proofs.lemmas.Bool.{cases_lt}
use Rattle.std.proofs.lemmas.List.{get_or-take, length-take-le}
use Rattle.fab_kinds.specs.declared.kind.Kind.{Kind}
use Rattle.fab_implementation.specs.fab_model.specs.Grid.{PlainFabric}
use Rattle.fab_implementation.specs.fab_fabric.specs.declared.wire.Site.{Site}
use Rattle.fab_implementation.specs.fab_netlist.specs.Plain.{IsAt}
use Rattle.fab_implementation.specs.fab_netlist.proofs.Members.{mapped_in}
use Rattle.fab_legal.specs.Turns.{AreRight}
use Rattle.fab_legal.specs.Lines.{named, IsRightLine}
use Rattle.fab_legal.proofs.Lists.{same_at}

-- what stands before a place is one of the first items
pub before_in : {X : Type 0} (xs : List X) (j k : ℕ) (x : X) → j < k → k ≤ length xs → IsAt xs j x → Contains (take k xs) x
before_in xs j k x less short at =
    (j, omega (arith, length-take-le k xs short), get_or-take k xs j x less ∙ at.1)

module _ {X : Type 0} (IsKnown : X → Type 0) (fabric : PlainFabric) (kind : Kind) (lines : List (X × Site)) where
  pub known_thing : (line : X × Site) → AreRight (IsRightLine fabric kind IsKnown) lines → Contains lines line → IsKnown line.0
  known_thing line right here = (right here.0 line here.1 (here.1, here.2)).known

  earlier_is_other : (j k : ℕ) (a b : X × Site) → AreRight (IsRightLine fabric kind IsKnown) lines → IsAt lines j a → IsAt lines k b → j < k → a.0 ≡ b.0 → ⊥
  earlier_is_other j k a b right first second less same =
      (right k b second.0 second).first
      (subst (λ (thing : X). Contains (named (take k lines)) thing) same (mapped_in (λ (l : X × Site). l.0) (take k lines) a (before_in lines j k a less (omega (arith, second.0)) first)))

  pub one_site : (thing : X) (a b : Site) → AreRight (IsRightLine fabric kind IsKnown) lines → Contains lines (thing, a) → Contains lines (thing, b) → a ≡ b
  one_site thing a b right first second =
      elim (cases_lt first.0 second.0) [
        | inl less ↦ absurd (earlier_is_other first.0 second.0 (thing, a) (thing, b) right (first.1, first.2) (second.1, second.2) less refl)
        | inr other ↦ elim (cases_lt second.0 first.0) [
          | inl more ↦ absurd (earlier_is_other second.0 first.0 (thing, b) (thing, a) right (second.1, second.2) (first.1, first.2) more refl)
          | inr least ↦ (
              let same : first.0 ≡ second.0 = omega (arith, other, least) in
              let there : IsAt lines second.0 (thing, a) = subst (λ (n : ℕ). IsAt lines n (thing, a)) same (first.1, first.2) in
              ap (λ (l : X × Site). l.1) (same_at lines second.0 (thing, a) (thing, b) there (second.1, second.2)))
        ]
      ]
