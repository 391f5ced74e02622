-- Points that suffice for themselves.
use Rattle.std.proofs.Common.{◌≡◌, Bool, true, false, List, length, if◌then◌else◌, sym, ap, ◌∙◌, subst, inl, inr}
use Rattle.std.proofs.lemmas.Bool.{cases_Bool}
use Rattle.fab_systems_laws.specs.System.{AreListed, IsSettledOn}
use Rattle.fab_systems_laws.specs.Ternary.{Tern, unknown, IsBelow, AreBelow, IsMonotone}
use Rattle.fab_systems_laws.proofs.Order.{below_self, below_trans, below_both}
use Rattle.fab_systems_laws.proofs.Least.{round, rounds_below, rounds_least}

module _ {P : Type 0} (has demanded : P → Bool) (points : List P) (show : P → (P → Tern) → Tern) (listed : AreListed has points) (monotone : IsMonotone has show)
    (t w : P → Tern) (settled : IsSettledOn has show t) (least : (u : P → Tern) → IsSettledOn has show u → (p : P) → has p ≡ true → IsBelow (t p) (u p))
    (inside : (p : P) → demanded p ≡ true → has p ≡ true) (below : (p : P) → demanded p ≡ true → IsBelow (w p) (t p))
    (suffice : (s : P → Tern) → ((q : P) → demanded q ≡ true → s q ≡ w q) → (p : P) → demanded p ≡ true → show p s ≡ w p) where
  -- the least solution, with these values on the demanded points
  abbrev mixed : P → Tern
  mixed p = if demanded p then w p else t p

  mixed_inside : (p : P) → demanded p ≡ true → mixed p ≡ w p
  mixed_inside p h = ap (λ (b : Bool). if b then w p else t p) h

  mixed_outside : (p : P) → demanded p ≡ false → mixed p ≡ t p
  mixed_outside p h = ap (λ (b : Bool). if b then w p else t p) h

  mixed_below : AreBelow mixed t
  mixed_below p =
      elim (cases_Bool (demanded p)) [
        | inl d ↦ subst (λ (x : Tern). IsBelow x (t p)) (sym (mixed_inside p d)) (below p d)
        | inr n ↦ subst (λ (x : Tern). IsBelow x (t p)) (sym (mixed_outside p n)) (below_self (t p))
      ]

  closed : (p : P) (u : P → Tern) → has p ≡ true → AreBelow u mixed → IsBelow (show p u) (mixed p)
  closed p u h under =
      elim (cases_Bool (demanded p)) [
        | inl d ↦ subst (λ (x : Tern). IsBelow (show p u) x) (suffice mixed mixed_inside p d ∙ sym (mixed_inside p d)) (monotone p u mixed h under)
        | inr n ↦ subst (λ (x : Tern). IsBelow (show p u) x) (sym (settled p h) ∙ sym (mixed_outside p n))
            (monotone p u t h (λ q. below_trans (u q) (mixed q) (t q) (under q) (mixed_below q)))
      ]

  pub demanded_least : (p : P) → demanded p ≡ true → t p ≡ w p
  demanded_least p d =
      let none_known : P → Tern = λ q. unknown in
      let last : P → Tern = round has show none_known (length points) in
      let above : IsBelow (t p) (last p) = least last (rounds_least has show none_known monotone points listed).solves.settled p (inside p d) in
      let under : IsBelow (last p) (w p) =
      subst (λ (x : Tern). IsBelow (last p) x) (mixed_inside p d) (rounds_below has show none_known mixed (λ q f. tt) closed (length points) p) in
      sym (below_both (w p) (t p) (below p d) (below_trans (t p) (last p) (w p) above under))
