-- Where the two clocks stand.
use Rattle.std.proofs.Common.{◌≡◌, ◌≢◌, ℕ, false, List, [], ◌∷◌, ◌++◌, Option, Some, None, IfSome, IfNone, nat_eq, if◌then◌else◌, append_assoc, refl, sym, ap, subst, ◌∙◌, inl, inr}
use Rattle.std.specs.Str.{bytes_eq}
use Rattle.std.specs.Option.{option_eq}
use Rattle.std.proofs.lemmas.Bool.{cases_Bool, false≢true}
use Rattle.std.proofs.lemmas.Bool.Decides.{Decides-eqb}
use Rattle.std.proofs.lemmas.Slice.Eq.{bytes_eq-Decides}
use Rattle.std.proofs.lemmas.List.Elements.{All-nil, All-head, All-tail}
use Rattle.fab_syntax.specs.Plain.{PlainModule}
use Rattle.fab_syntax.specs.Sound.{IsSound}
use Rattle.fab_meaning.specs.Points.{Path, point}
use Rattle.fab_meaning.specs.Runs.{clock_name, user_clock_name}
use Rattle.fab_equations.specs.Equations.{HasNoDot, IsPoint, IsPlace, IsNoPlace, hierarchical_name}
use Rattle.fab_equations.proofs.Points.{points_differ}
use Rattle.fab_network.specs.declared.network.Clock.TheVariants.{Loader, User, Other}
use Rattle.fab_wiring.specs.Wiring.{clock_called}
use Rattle.fab_wiring.specs.Clocks.{IsClockAt}
use Rattle.fab_wiring.proofs.Solved.{point_there}

-- ---- names without dots are those of the top

dot_within : (a b : List ℕ) → HasNoDot (a ++ 46 ∷ b) → ⊥
dot_within [] b plain = All-head (λ (byte : ℕ). byte ≢ 46) 46 b plain refl
dot_within (n ∷ a) b plain = dot_within a b (All-tail (λ (byte : ℕ). byte ≢ 46) n (a ++ 46 ∷ b) plain)

dot_joined : (path : Path) (a b : List ℕ) → HasNoDot (hierarchical_name path (a ++ 46 ∷ b)) → ⊥
dot_joined [] a b plain = dot_within a b plain
dot_joined (i ∷ path) a b plain = dot_joined path (i ++ 46 ∷ a) b (subst (λ (name : List ℕ). HasNoDot (hierarchical_name path name)) (sym (append_assoc i (46 ∷ a) (46 ∷ b))) plain)

top_point : (text : List PlainModule) (number : ℕ) (name : List ℕ) (path : Path) (local : List ℕ) → HasNoDot name → name ≡ hierarchical_name path local →
    IsPoint text number (point path local 0) →
    IsPoint text number (point [] name 0)
top_point text number name [] local plain spelled is = subst (λ (n : List ℕ). IsPoint text number (point [] n 0)) (sym spelled) is
top_point text number name (i ∷ path) local plain spelled is = absurd (dot_joined path i local (subst HasNoDot spelled plain))

pub clock_found : (text : List PlainModule) (name : List ℕ) → HasNoDot name → (o : Option ℕ) → IfSome o (λ number. IsPlace text name 0 number) →
    IfNone o (IsNoPlace text name 0) →
    IsClockAt text name o
clock_found text name plain None some none = λ number is. none [] name (All-nil HasNoDot) plain refl (point_there text number (point [] name 0) is)
clock_found text name plain (Some number) some none = top_point text number name some.path some.name plain some.spelled some.is

-- ---- which clock an input is

module _ (text : List PlainModule) (sound : IsSound text) (input : ℕ) (name : List ℕ) (is : IsPoint text input (point [] name 0)) where
  called_there : (clock : List ℕ) (o : Option ℕ) → IsClockAt text clock o → name ≡ clock → o ≡ Some input
  called_there clock None at same = absurd (at input (subst (λ (n : List ℕ). IsPoint text input (point [] n 0)) same is))
  called_there clock (Some number) at same =
      ap Some (points_differ text sound number input (point [] clock 0) at (subst (λ (n : List ℕ). IsPoint text input (point [] n 0)) same is))

  pub not_called : (clock : List ℕ) (o : Option ℕ) → IsClockAt text clock o → (o ≡ Some input → ⊥) → bytes_eq name clock ≡ false
  not_called clock o at other =
      elim (cases_Bool (bytes_eq name clock)) [
        | inl t ↦ absurd (other (called_there clock o at ((bytes_eq-Decides name clock).0 t)))
        | inr f ↦ f
      ]

pub called_other : (name : List ℕ) → bytes_eq name clock_name ≡ false → bytes_eq name user_clock_name ≡ false → Other ≡ clock_called (Some name)
called_other name f g = (λ j. if sym f j then Loader else if sym g j then User else Other)

pub another : (o : Option ℕ) (input : ℕ) → option_eq nat_eq o (Some input) ≡ false → o ≡ Some input → ⊥
another o input f e = false≢true (sym f ∙ ap (λ (x : Option ℕ). option_eq nat_eq x (Some input)) e ∙ (Decides-eqb input input).1 refl)
