-- Passes over all points lead up to the least solution: each gives every point what is known of its driver's value by the one before.
use Rattle.std.proofs.Common.{◌≡◌, ℕ, zero, suc, Bool, true, false, length, if◌then◌else◌, refl, sym, ap, ◌∙◌, subst, inl, inr}
use Rattle.std.proofs.lemmas.Bool.{cases_Bool}
use Rattle.fab_systems_laws.specs.System.{AreListed}
use Rattle.fab_systems_laws.specs.Ternary.{Tern, unknown, IsBelow, AreBelow, IsMonotone}
use Rattle.fab_systems_laws.proofs.Order.{below_self, below_trans}
use Rattle.fab_systems_laws.proofs.Rounds.{round_none, round_inside, round_outside}
use Rattle.fab_systems_laws.proofs.Least.{blank, round, rounds_below, rounds_least}
use Rattle.fab_meaning.specs.Points.{Point, Driver, Drives}
use Rattle.fab_meaning.specs.Reads.{is_declared}
use Rattle.fab_ternary_laws.specs.Shown.{Terns}
use Rattle.fab_equations.specs.Instances.{points}
use Rattle.fab_equations.proofs.Points.{declared_are_points}
use Rattle.fab_load_runs_laws.proofs.Drivers.{drivers}
use Rattle.fab_solutions_laws.specs.Solutions.{tern_given, IsLeastSolution}
use Rattle.fab_ordering_laws.proofs.Setting.{Setting}

module _ (s : Setting) (inputs held : Terns) where
  abbrev pub driver : Point → Driver
  driver = (drivers s.text s.sound).0

  pub driven : (p : Point) → is_declared s.text p ≡ true → Drives s.text p (driver p)
  driven = (drivers s.text s.sound).1.each

  abbrev pub show : Point → Terns → Tern
  show p t = tern_given s.text inputs held t p (driver p)

  pub monotone : IsMonotone (is_declared s.text) show
  monotone p t u declared below =
      s.grow s.text inputs inputs held held t u (λ q. below_self (inputs q)) (λ q. below_self (held q)) below p (driver p)
      (s.fit s.text s.sound s.narrow p (driver p) (driven p declared))

  abbrev none_known : Terns
  none_known p = unknown

  abbrev pub pass : ℕ → Terns
  pass k = round (is_declared s.text) show none_known k

  either_unknown : (b : Bool) → (if b then unknown else unknown) ≡ unknown
  either_unknown true = refl
  either_unknown false = refl

  pub pass_first : (p : Point) → pass zero p ≡ unknown
  pass_first p = round_none (is_declared s.text) show (blank (is_declared s.text) none_known) p ∙ either_unknown (is_declared s.text p)

  pub pass_undeclared : (k : ℕ) (p : Point) → is_declared s.text p ≡ false → pass k p ≡ unknown
  pass_undeclared k p none =
      round_outside (is_declared s.text) show (blank (is_declared s.text) none_known) k p none ∙ either_unknown (is_declared s.text p)

  pub pass_next : (k : ℕ) (p : Point) → is_declared s.text p ≡ true → pass (suc k) p ≡ show p (pass k)
  pass_next k p declared = round_inside (is_declared s.text) show (blank (is_declared s.text) none_known) k p declared

  pub undeclared_below : (k : ℕ) (p : Point) (t : Tern) → is_declared s.text p ≡ false → IsBelow (pass k p) t
  undeclared_below k p t none = subst (λ (u : Tern). IsBelow u t) (sym (pass_undeclared k p none)) tt

  -- what is known stays known
  pub pass_grows : (k : ℕ) → AreBelow (pass k) (pass (suc k))
  pass_grows zero p = subst (λ (t : Tern). IsBelow t (pass (suc zero) p)) (sym (pass_first p)) tt
  pass_grows (suc k) p =
      elim (cases_Bool (is_declared s.text p)) [
        | inl declared ↦ (
            let more : IsBelow (show p (pass k)) (show p (pass (suc k))) = monotone p (pass k) (pass (suc k)) declared (pass_grows k) in
            subst (λ (t : Tern). IsBelow t (pass (suc (suc k)) p)) (sym (pass_next k p declared))
            (subst (λ (t : Tern). IsBelow (show p (pass k)) t) (sym (pass_next (suc k) p declared)) more))
        | inr none ↦ undeclared_below (suc k) p (pass (suc (suc k)) p) none
      ]

  -- as many passes as there are points
  abbrev pub enough : ℕ
  enough = length (points s.text)

  listed : AreListed (is_declared s.text) (points s.text)
  listed = declared_are_points s.text s.sound

  module _ (solution : Terns) (least : IsLeastSolution s.text inputs held solution) where
    -- know what the least solution knows,
    pub solution_below : (p : Point) → is_declared s.text p ≡ true → IsBelow (solution p) (pass enough p)
    solution_below p declared =
        least.least (pass enough)
        (λ q d here drives.
        (rounds_least (is_declared s.text) show none_known monotone (points s.text) listed).solves.settled q here
        ∙ ap (tern_given s.text inputs held (pass enough) q) (sym ((drivers s.text s.sound).1.only q d here drives)))
        p declared

    -- and no pass knows more
    pub pass_below : (k : ℕ) (p : Point) → IsBelow (pass k p) (solution p)
    pass_below k p =
        rounds_below (is_declared s.text) show none_known solution (λ q none. tt)
        (λ q t here below. subst (λ (x : Tern). IsBelow (show q t) x) (sym (least.solves q (driver q) here (driven q here))) (monotone q t solution here below))
        k p
