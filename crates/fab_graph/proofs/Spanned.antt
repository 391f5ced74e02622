-- How far joins go.
use Rattle.std.proofs.Common.{◌≡◌, ◌⊎◌, ℕ, ◌+◌, ◌<◌, ◌≤◌, refl, sym, subst, inl, inr, arith}
use Rattle.std.proofs.lemmas.Bool.{cases_lt, cases_eq}
use Rattle.fab_model.specs.Grid.{PlainFabric}
use Rattle.fab_fabric.specs.Fabric.{wire_count}
use Rattle.fab_fabric.specs.Wires.{numbered_wire}
use Rattle.fab_fabric.specs.declared.wire.Wire.{Wire}
use Rattle.fab_fabric.proofs.Numbered.{wire_within}
use Rattle.fab_legal.specs.Steps.{IsJoined}
use Rattle.fab_ways_laws.specs.Bounds.{wire_distance, JoinGoes, IsSpan}
use Rattle.fab_graph.specs.inner.Spans.{IsMost}

module _ (fabric : PlainFabric) where
  pub no_most : IsMost fabric 0 0
  no_most = record { bounds = λ wire to low j. absurd (omega (arith, low)); goes = inr refl; small = omega arith }

  -- one more wire
  pub more_most : (n most far new : ℕ) → IsMost fabric n most → ((to : Wire) → IsJoined fabric (numbered_wire n) to → wire_distance fabric n to.0 ≡ far) → JoinGoes fabric far ⊎ (far ≡ 0) → far < 64 →
      most ≤ new → far ≤ new → (new ≡ most) ⊎ (new ≡ far) → IsMost fabric (n + 1) new
  more_most n most far new before own goes small first second either = record {
    bounds = λ wire to low j. elim (cases_lt wire n) [
      | inl less ↦ omega (arith, before.bounds wire to less j, first)
      | inr past ↦ (
          let same : wire ≡ n = omega (arith, low, past) in
          let here : wire_distance fabric wire to.0 ≡ far = subst (λ (w : ℕ). wire_distance fabric w to.0 ≡ far) (sym same) (own to (subst (λ (w : ℕ). IsJoined fabric (numbered_wire w) to) same j)) in
          omega (arith, here, second))
    ];
    goes = elim either [
      | inl same ↦ subst (λ (m : ℕ). JoinGoes fabric m ⊎ (m ≡ 0)) (sym same) before.goes
      | inr same ↦ subst (λ (m : ℕ). JoinGoes fabric m ⊎ (m ≡ 0)) (sym same) goes
    ];
    small = elim either [ inl same ↦ omega (arith, same, before.small) | inr same ↦ omega (arith, same, small) ];
  }

  -- the span of all
  pub span_is : (n most span : ℕ) → n ≡ wire_count fabric → IsMost fabric n most → (most ≡ 0 → span ≡ 1) → (1 ≤ most → span ≡ most) → IsSpan fabric span
  span_is n most span all is one same = elim (cases_eq most 0) [
    | inl zero_most ↦ (
        let span_one = one zero_most in
        record {
          some = omega (arith, span_one);
          most = λ from to j. omega (arith, below from to j, zero_most);
          goes = inr (span_one, λ from to j. omega (arith, below from to j, zero_most));
        })
    | inr some ↦ (
        let at : 1 ≤ most = positive most some in
        let span_most = same at in
        record {
          some = omega (arith, span_most, at);
          most = λ from to j. omega (arith, below from to j, span_most);
          goes = elim is.goes [
            | inl far ↦ inl (subst (JoinGoes fabric) (sym span_most) far)
            | inr none ↦ absurd (some none)
          ];
        })
  ]
    where
      positive : (m : ℕ) → (m ≡ 0 → ⊥) → 1 ≤ m
      positive m other = elim (cases_lt m 1) [ inl less ↦ absurd (other (omega (arith, less))) | inr past ↦ past ]

      below : (from to : Wire) → IsJoined fabric from to → wire_distance fabric from.0 to.0 ≤ most
      below from to j = is.bounds from.0 to (omega (arith, wire_within fabric from.0 j.x j.y j.plain j.from_is, all)) j
