-- What words draw for a set of points is one thing.
use Rattle.std.proofs.Common.{◌≡◌, ◌+◌, ℕ, zero, suc, List, [], ◌∷◌, Contains, refl, sym, ◌∙◌, subst, arith}
use Rattle.fab_meaning.specs.Points.{Point}
use Rattle.fab_meaning.specs.Settled.{Assignment}
use Rattle.fab_ordering_laws.specs.Ordered.{AreDrawn, none, passes, takes}

-- as many words are drawn, and each point of the set has the same
pub record AreSame (Has : Point → Type 0) (values others : Assignment) (ps : List Point) (next last : ℕ) : Type 0 where
  pub count : next ≡ last
  pub same : (p : Point) → Contains ps p → Has p → values p ≡ others p

module _ (draws : ℕ → ℕ) (Has : Point → Type 0) (values others : Assignment) where
  one_more : (p : Point) (ps : List Point) (next last : ℕ) → (Has p → values p ≡ others p) → AreSame Has values others ps next last → AreSame Has values others (p ∷ ps) next last
  one_more p ps next last here rest = record { count = rest.count; same = at }
    where
      at : (q : Point) → Contains (p ∷ ps) q → Has q → values q ≡ others q
      at q (zero, few, is) has = subst (λ (r : Point). values r ≡ others r) is (here (subst Has (sym is) has))
      at q (suc k, few, is) has = rest.same q (k, omega (arith, few), is) has

  pub drawn_once : (ps : List Point) (first next last : ℕ) → AreDrawn draws Has values ps first next → AreDrawn draws Has others ps first last → AreSame Has values others ps next last
  drawn_once [] first next last none none = record { count = refl; same = λ p there. absurd (omega (arith, there.1)) }
  drawn_once (p ∷ ps) first next last (passes never rest) (passes also others_rest) =
      one_more p ps next last (λ has. absurd (never has)) (drawn_once ps first next last rest others_rest)
  drawn_once (p ∷ ps) first next last (passes never rest) (takes has is others_rest) = absurd (never has)
  drawn_once (p ∷ ps) first next last (takes has is rest) (passes never others_rest) = absurd (never has)
  drawn_once (p ∷ ps) first next last (takes has is rest) (takes also others_is others_rest) =
      one_more p ps next last (λ again. is ∙ sym others_is) (drawn_once ps (1 + first) next last rest others_rest)
