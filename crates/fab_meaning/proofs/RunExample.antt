-- A run and an activation of the example text of two levels, by hand.
use Rattle.std.proofs.Common.{◌≡◌, ◌≢◌, true, false, [], ◌∷◌, codes, refl, sym, subst, if◌then◌else◌, inl, inr}
use Rattle.std.proofs.lemmas.Bool.{cases_Bool}
use Rattle.fab_syntax.specs.Plain.{variable}
use Rattle.fab_meaning.specs.Points.{Point, Driver, flop, Drives}
use Rattle.fab_meaning.specs.Settled.{Assignment, shown}
use Rattle.fab_meaning.specs.Runs.{kept, clock_name, user_clock_name, IsRunOn}
use Rattle.fab_meaning.specs.Reads.{same_point}
use Rattle.fab_meaning.specs.Activation.{State, held_after, IsActivation}
use Rattle.fab_meaning.proofs.Dependence.{same_point_is}
use Rattle.fab_meaning.proofs.SingleDrivers.{one_driver}
use Rattle.fab_meaning.proofs.Examples.{levels, low, y_point, nothing, flop_example, x_driven}
use Rattle.fab_meaning.proofs.RankedExample.{levels_once, x_point, x_driver}

abbrev y_driver : Driver
y_driver = flop low (codes "clk") (variable (codes "x")) 0

-- what holds of the driver of a point holds of each of its drivers
for_driver : (P : Driver → Type 0) (p : Point) (own : Driver) → Drives levels p own → P own → (d : Driver) → Drives levels p d → P d
for_driver P p own by holds d drives = subst P (one_driver levels levels_once p own d by drives) holds

-- x alone is 1
abbrev x_high : Assignment
x_high = same_point x_point

abbrev all_high : Assignment
all_high p = true

-- at a tick of CLK the flip-flop takes what x has
tick_run : IsRunOn (λ p. p ≡ y_point) levels (record { inputs = nothing; clock = clock_name } ∷ []) nothing all_high
tick_run = (
  x_high,
  all_high,
  (λ p d is drives. subst (λ (q : Point). (e : Driver) → Drives levels q e → x_high q ≡ shown levels nothing nothing x_high q e) (sym is)
      (for_driver (λ e. x_high y_point ≡ shown levels nothing nothing x_high y_point e) y_point y_driver flop_example refl) d drives),
  (refl, refl),
  (λ p d is drives. subst (λ (q : Point). (e : Driver) → Drives levels q e → all_high q ≡ kept levels clock_name nothing x_high q e) (sym is)
      (for_driver (λ e. all_high y_point ≡ kept levels clock_name nothing x_high y_point e) y_point y_driver flop_example refl) d drives),
  λ p is. refl,
)

-- and at one of UserCLK it keeps what it holds
user_tick_run : IsRunOn (λ p. p ≡ y_point) levels (record { inputs = nothing; clock = user_clock_name } ∷ []) nothing nothing
user_tick_run = (
  x_high,
  nothing,
  (λ p d is drives. subst (λ (q : Point). (e : Driver) → Drives levels q e → x_high q ≡ shown levels nothing nothing x_high q e) (sym is)
      (for_driver (λ e. x_high y_point ≡ shown levels nothing nothing x_high y_point e) y_point y_driver flop_example refl) d drives),
  (refl, refl),
  (λ p d is drives. subst (λ (q : Point). (e : Driver) → Drives levels q e → nothing q ≡ kept levels user_clock_name nothing x_high q e) (sym is)
      (for_driver (λ e. nothing y_point ≡ kept levels user_clock_name nothing x_high y_point e) y_point y_driver flop_example refl) d drives),
  λ p is. refl,
)

-- all but x are 1 before it is activated, and all after it
abbrev before : State
before = record { now = λ p. if same_point x_point p then false else true; held = nothing }

abbrev after : State
after = record { now = all_high; held = nothing }

others_stay : (q : Point) → q ≢ x_point → after.now q ≡ before.now q
others_stay q apart =
    elim (cases_Bool (same_point x_point q)) [
      | inl t ↦ absurd (apart (sym (same_point_is x_point q t)))
      | inr f ↦ rw f refl
    ]

activation : IsActivation levels x_point before after
activation = record {
  takes = for_driver (λ d. after.now x_point ≡ shown levels before.now before.held before.now x_point d) x_point x_driver x_driven refl;
  holds = for_driver (λ d. after.held x_point ≡ held_after d (before.held x_point) (after.now x_point)) x_point x_driver x_driven refl;
  others = λ q apart. (others_stay q apart, refl);
}
