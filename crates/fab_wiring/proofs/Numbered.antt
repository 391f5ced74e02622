-- Assignments to points, and the same by number.
use Rattle.std.proofs.Common.{◌≡◌, ℕ, zero, suc, Bool, true, List, [], ◌∷◌, slice_get, Option, Some, None, if◌then◌else◌, sym, ap, subst, ◌∙◌, inl, inr, arith}
use Rattle.std.proofs.lemmas.Bool.{cases_Bool}
use Rattle.fab_meaning.specs.Points.{Point}
use Rattle.fab_meaning.specs.Reads.{same_point}
use Rattle.fab_meaning.proofs.Dependence.{same_point_refl, same_point_is}
use Rattle.fab_systems_laws.specs.Ternary.{Tern, unknown}
use Rattle.fab_ternary_laws.specs.Shown.{Terns}
use Rattle.fab_equations.specs.Instances.{points}
use Rattle.fab_equations.proofs.Points.{points_differ}
use Rattle.fab_compiled.specs.Leading.{PointTerns}
use Rattle.fab_wiring.specs.Laws.{NumbersHaveTerns, PointsHaveTerns}

tern_of : Terns → Option Point → Tern
tern_of t None = unknown
tern_of t (Some p) = t p

pub numbers_have_terns : NumbersHaveTerns
unfolding tern_of
numbers_have_terns text t = (λ number. tern_of t (slice_get (points text) number), λ number p is. ap (tern_of t) is)

-- what a point has by its place in a list
among : List Point → PointTerns → Terns
among [] s p = unknown
among (q ∷ ps) s p = if same_point q p then s 0 else among ps (λ n. s (suc n)) p

among_is : (ps : List Point) (s : PointTerns) (p : Point) (number : ℕ) → slice_get ps number ≡ Some p → ((other : ℕ) → slice_get ps other ≡ Some p →
    other ≡ number) →
    s number ≡ among ps s p
unfolding among
among_is [] s p number is once = cc
among_is (q ∷ ps) s p zero is once =
    let same : q ≡ p = cc in
    let test : same_point q p ≡ true = subst (λ x. same_point q x ≡ true) same (same_point_refl q) in
    sym (ap (λ (b : Bool). if b then s 0 else among ps (λ n. s (suc n)) p) test)
among_is (q ∷ ps) s p (suc number) is once =
    elim (cases_Bool (same_point q p)) [
      | inl t ↦ (let first : 0 ≡ suc number = once 0 (ap Some (same_point_is q p t)) in absurd (omega arith))
      | inr f ↦ among_is ps (λ n. s (suc n)) p number is (λ other there. let e : suc other ≡ suc number = once (suc other) there in omega arith)
          ∙ sym (ap (λ (b : Bool). if b then s 0 else among ps (λ n. s (suc n)) p) f)
    ]

pub points_have_terns : PointsHaveTerns
points_have_terns text sound s =
    (among (points text) s, λ number p is. among_is (points text) s p number is (λ other there. points_differ text sound other number p there is))
