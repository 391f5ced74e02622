-- Steps in groups by the node to which they lead.
use Rattle.std.proofs.Common.{◌≡◌, ◌⊎◌, ◌↔◌, ◌<◌, ℕ, List, [], ◌∷◌, ◌++◌, Vec, map, set, length, get_or, Contains, sym, ap, ◌∙◌, subst, inl, inr}
use Rattle.std.proofs.lemmas.Bool.Decides.{eqb_tells}
use Rattle.std.proofs.lemmas.List.{map-set, length-map, get_or-set_same, get_or-set_other}
use Rattle.fab_timing.specs.inner.Adding.{Adds}
use Rattle.fab_timing.specs.inner.Tables.{before_in}
use Rattle.fab_timing.specs.inner.Passes.{HasStep}
use Rattle.fab_fabric.specs.declared.wire.Wire.{Wire}
use Rattle.fab_timing.proofs.Added.{pushed}

abbrev Step : Type 0
Step = Wire × Wire × ℕ

-- the group of a node, and those of others, after a push
group_same : {A : Type 0} (before : List (Vec (ℕ × ℕ) A)) (k : ℕ) (group : Vec (ℕ × ℕ) A) → k < length before → before_in (set before k group) k ≡ group.items
group_same {A} before k group within =
    let items : Vec (ℕ × ℕ) A → List (ℕ × ℕ) = λ g. g.items in
    ap (λ (lists : List (List (ℕ × ℕ))). get_or lists k []) (map-set items before k group) ∙ get_or-set_same (map items before) k group.items [] (rw length-map within)

group_other : {A : Type 0} (before : List (Vec (ℕ × ℕ) A)) (k j : ℕ) (group : Vec (ℕ × ℕ) A) → (j ≡ k → ⊥) → before_in (set before k group) j ≡ before_in before j
group_other {A} before k j group other =
    let items : Vec (ℕ × ℕ) A → List (ℕ × ℕ) = λ g. g.items in
    ap (λ (lists : List (List (ℕ × ℕ))). get_or lists j []) (map-set items before k group) ∙ get_or-set_other (map items before) k j group.items [] other

same_step : (step : Step) (from to : Wire) (units : ℕ) → step.1.0 ≡ to.0 → step.0.0 ≡ from.0 → step.2 ≡ units → step ≡ (from, to, units)
same_step step from to units node origin same =
    λ j. (record { 0 = origin j }, record { 0 = node j }, same j)

pub step_added : {A : Type 0} (before : List (Vec (ℕ × ℕ) A)) (from to : Wire) (units : ℕ) (group : Vec (ℕ × ℕ) A) → to.0 < length before →
    group.items ≡ before_in before to.0 ++ (from.0, units) ∷ [] → Adds (λ (step : Step). step ≡ (from, to, units)) (HasStep before) (HasStep (set before to.0 group))
step_added {A} before from to units group within is step =
    elim (eqb_tells step.1.0 to.0) [
      | inl same ↦ here same.1
      | inr other ↦ (
          let stays : before_in (set before to.0 group) step.1.0 ≡ before_in before step.1.0 = group_other before to.0 step.1.0 group other.1 in (
            (λ there. inl (subst (λ (s : List (ℕ × ℕ)). Contains s (step.0.0, step.2)) stays there)),
            λ both. elim both [
              | inl was ↦ subst (λ (s : List (ℕ × ℕ)). Contains s (step.0.0, step.2)) (sym stays) was
              | inr now ↦ absurd (other.1 (ap (λ (s : Step). s.1.0) now))
            ],
          ))
    ]
  where
    here : step.1.0 ≡ to.0 → HasStep (set before to.0 group) step ↔ (HasStep before step ⊎ (step ≡ (from, to, units)))
    here same =
        let old : before_in before step.1.0 ≡ before_in before to.0 = ap (before_in before) same in
        let new : before_in (set before to.0 group) step.1.0 ≡ before_in before to.0 ++ (from.0, units) ∷ [] =
        ap (before_in (set before to.0 group)) same ∙ group_same before to.0 group within ∙ is in
        let adds = pushed (before_in before step.1.0) (before_in (set before to.0 group) step.1.0) (from.0, units) (new ∙ ap (λ (s : List (ℕ × ℕ)). s ++ (from.0, units) ∷ []) (sym old)) (step.0.0, step.2) in (
          (λ there. elim (adds.0 there) [ inl was ↦ inl was | inr pair ↦ inr (same_step step from to units same (ap (λ (p : ℕ × ℕ). p.0) pair) (ap (λ (p : ℕ × ℕ). p.1) pair)) ]),
          λ both. elim both [
            | inl was ↦ adds.1 (inl was)
            | inr now ↦ adds.1 (inr (ap (λ (s : Step). (s.0.0, s.2)) now))
          ],
        )
