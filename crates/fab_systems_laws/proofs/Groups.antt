-- Ranks by group and place.
use Rattle.std.proofs.Common.{◌≡◌, ℕ, suc, ◌+◌, ◌*◌, ◌<◌, ◌≤◌, Bool, sym, ap, ◌∙◌, inl, inr, arith}
use Rattle.std.proofs.Math.Nat.{mul-le-mul_right, suc-mul}
use Rattle.std.proofs.lemmas.Bool.{false≢true}
use Rattle.fab_systems_laws.specs.System.{IsRanked}
use Rattle.fab_systems_laws.specs.Groups.{AreGrouped}

-- the group decides before the place does
pub group_first : (j k c d places : ℕ) → j < k → c < places → j * places + c < k * places + d
group_first j k c d places h l =
    let m : suc j * places ≤ k * places = mul-le-mul_right places h in
    let e : suc j * places ≡ j * places + places = suc-mul j places in
    omega arith

pub grouped_rank : {P Q : Type 0} (has given : P → Bool) (reads : P → P → Bool) (rank : P → ℕ) (ranks : ℕ)
    (fine fine_given : Q → Bool) (fine_reads : Q → Q → Bool) (group : Q → P) (place : Q → ℕ) (places : ℕ) →
    IsRanked has given reads rank ranks → AreGrouped has given reads fine fine_given fine_reads group place places →
    IsRanked fine fine_given fine_reads (λ q. rank (group q) * places + place q) (ranks * places)
grouped_rank has given reads rank ranks fine fine_given fine_reads group place places ranked grouped = record {
  bound = λ q h.
      let i = grouped.inside q h in
      let b = group_first (rank (group q)) ranks (place q) 0 places (ranked.bound (group q) i.0) i.1 in omega arith;
  apart = grouped.apart;
  lower = λ q r h read.
      elim (grouped.reached q r h read) [
        | inl g ↦ inl g
        | inr (f, inl s) ↦ inr (f, (let same : rank (group r) * places ≡ rank (group q) * places = ap (λ z. rank z * places) s.0 in omega (arith, s.1)))
        | inr (f, inr d) ↦ inr (
          f,
          elim (ranked.lower (group q) (group r) (grouped.inside q h).0 d.0) [
            | inl g ↦ absurd (false≢true (sym d.1 ∙ g))
            | inr l ↦ group_first (rank (group r)) (rank (group q)) (place r) (place q) places l.1 (grouped.inside r f).1
          ],
        )
      ];
}
