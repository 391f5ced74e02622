-- Which inputs take a drawn value in each cycle, by their marks.
use Rattle.std.proofs.Common.{◌≡◌, ◌≢◌, ℕ, Bool, true, false, List, [], length, Option, None, Some, refl, sym, ap, ◌∙◌, subst, inl, inr, arith}
use Rattle.std.specs.List.{slice_get}
use Rattle.std.proofs.lemmas.Bool.{cases_Bool}
use Rattle.std.proofs.lemmas.Option.{slice_get_within}
use Rattle.fab_syntax.specs.Plain.{PlainModule}
use Rattle.fab_syntax.specs.declared.tree.Shape.TheVariants.{Scalar}
use Rattle.fab_meaning.specs.Points.{Point, point, outside, Drives}
use Rattle.fab_meaning.specs.Runs.{user_clock_name}
use Rattle.fab_meaning.specs.Sound.{PointsOfSoundTextsHaveOneDriver}
use Rattle.fab_load_points.proofs.Streams.{driven_outside}
use Rattle.fab_state.specs.Plain.{PlainState}
use Rattle.fab_equations.specs.Instances.{points}
use Rattle.fab_equations.specs.Equations.{IsPoint}
use Rattle.fab_equations.proofs.Numbering.{some_there}
use Rattle.fab_equations.proofs.Points.{points_differ}
use Rattle.fab_network.specs.declared.network.Drive.{Drive}
use Rattle.fab_network.specs.declared.network.Drive.TheVariants.{Given, Flop, Same, Value, Hold}
use Rattle.fab_network.specs.declared.network.Network.{Network}
use Rattle.fab_wiring.specs.Clocks.{IsClockAt}
use Rattle.fab_phases.specs.Cycles.{IsIn}
use Rattle.fab_state_points.specs.Standing.{StandsAt}
use Rattle.fab_state_points.specs.declared.points.StatePoints.{StatePoints}
use Rattle.fab_ordering_laws.specs.Ordered.{IsFreeInput, IsNamedInput}
use Rattle.fab_sim.specs.Making.{AreLoadingPoints, IsNetworkOf}
use Rattle.fab_sim.specs.inner.Rooms.{free_by, IsUnmarked, IsUnmarkedAt}
use Rattle.fab_sim.specs.Stepper.{AreFreeInputs}
use Rattle.fab_sim.proofs.Begun.{in_named, named_in}
use Rattle.fab_sim.proofs.Points.{given_driver, input_bit, number_declared, one_point, outside_drive}

free_true : (drive : Drive) (load : Bool) → free_by drive load ≡ true → (drive ≡ Given) × (load ≡ false)
free_true Given true e = cc
free_true Given false e = (refl, refl)
free_true (Flop clock next) load e = cc
free_true (Same other) load e = cc
free_true (Value source) load e = cc
free_true (Hold gate latched) load e = cc

module _ (text : List PlainModule) (state : PlainState) (one : PointsOfSoundTextsHaveOneDriver) (network : Network) (of : IsNetworkOf text network) (at : StatePoints)
    (stands : StandsAt text state at) (loads : List Bool) (loading : AreLoadingPoints text loads) (clock : Option ℕ) (clock_at : IsClockAt text user_clock_name clock)
    (first second third : List Bool) (long : length third ≡ length (points text))
    (marks : (point : ℕ) (drive : Drive) (load : Bool) → slice_get network.drives.items point ≡ Some drive → slice_get loads point ≡ Some load →
    slice_get first point ≡ Some (free_by drive load)) (unmarked : IsUnmarked at.ins.items first second) (unmarked_at : IsUnmarkedAt clock second third) where
  not_marked : (marks : List Bool) (number : ℕ) → slice_get marks number ≡ Some true → slice_get marks number ≡ Some false → ⊥
  not_marked marks number t f = let both : Some true ≡ Some false = sym t ∙ f in cc

  -- the number of the clock
  clock_is : (o : Option ℕ) → IsClockAt text user_clock_name o → (number : ℕ) → IsPoint text number (point [] user_clock_name 0) → o ≡ Some number
  clock_is None there number is = absurd (there number is)
  clock_is (Some k) there number is = ap (λ (n : ℕ). Some n) (points_differ text of.sound k number (point [] user_clock_name 0) there is)

  clock_point : (o : Option ℕ) → IsClockAt text user_clock_name o → (number : ℕ) → o ≡ Some number → IsPoint text number (point [] user_clock_name 0)
  clock_point o there number e = subst (IsClockAt text user_clock_name) e there

  module _ (number : ℕ) (p : Point) (is : IsPoint text number p) where
    drive_there : (d : Drive) × (slice_get network.drives.items number ≡ Some d)
    drive_there = let inside = slice_get_within (points text) number p is in some_there network.drives.items number (let long = of.long in omega (arith, inside, long))

    load_there : (b : Bool) × (slice_get loads number ≡ Some b)
    load_there = let inside = slice_get_within (points text) number p is in some_there loads number (let long = loading.long in omega (arith, inside, long))

    -- a marked point
    module _ (marked : slice_get third number ≡ Some true) where
      off_clock : clock ≢ Some number
      off_clock e = not_marked third number marked (unmarked_at.lost number e)

      in_second : slice_get second number ≡ Some true
      in_second = sym (unmarked_at.others number off_clock) ∙ marked

      not_in : IsIn at.ins.items number → ⊥
      not_in there = not_marked second number in_second (unmarked.lost number there)

      by_drive : (drive_there.0 ≡ Given) × (load_there.0 ≡ false)
      by_drive =
          let same : Some (free_by drive_there.0 load_there.0) ≡ Some true =
          sym (marks number drive_there.0 load_there.0 drive_there.1 load_there.1) ∙ sym (unmarked.others number not_in) ∙ in_second in
          let tells : free_by drive_there.0 load_there.0 ≡ true = cc in
          free_true drive_there.0 load_there.0 tells

      input_here : Drives text p outside
      input_here =
          let d = one text of.sound p (number_declared text of.sound number p is) in
          subst (Drives text p) (given_driver text network of number p d.0 is d.1 (drive_there.1 ∙ ap (λ (x : Drive). Some x) by_drive.0)) d.1

      off_name : p.name ≢ user_clock_name
      off_name named =
          let input = driven_outside text p input_here in
          let bit = input_bit text user_clock_name Scalar stands.has.user p input.top named (number_declared text of.sound number p is) in
          let zero_bit : p.bit ≡ 0 = (let less = bit.1 in omega (arith, less)) in
          let same : p ≡ point [] user_clock_name 0 = sym bit.0 ∙ ap (λ (n : ℕ). point [] user_clock_name n) zero_bit in
          off_clock (clock_is clock clock_at number (subst (IsPoint text number) same is))

      unnamed : IsNamedInput text state p → ⊥
      unnamed named =
          let n = named_in text state at.ins.items stands.ins p named in
          not_in (subst (IsIn at.ins.items) (points_differ text of.sound n.0 number p n.2 is) n.1)

      is_free : IsFreeInput text state p
      is_free = record {
        input = input_here;
        declared = number_declared text of.sound number p is;
        unloaded = λ l. not_marked loads number ((loading.marked number p is).1 l) (load_there.1 ∙ ap (λ (b : Bool). Some b) by_drive.1);
        no_clock = off_name;
        unnamed = unnamed;
      }

    -- a free input
    module _ (free : IsFreeInput text state p) where
      clock_apart : clock ≢ Some number
      clock_apart e =
          let same : p ≡ point [] user_clock_name 0 = one_point text number p (point [] user_clock_name 0) is (clock_point clock clock_at number e) in
          free.no_clock (ap (λ (q : Point). q.name) same)

      ins_apart : IsIn at.ins.items number → ⊥
      ins_apart there = free.unnamed (in_named text state at.ins.items stands.ins there.0 number p (there.2 ∙ ap (λ (n : ℕ). Some n) there.3) is)

      load_false : load_there.0 ≡ false
      load_false =
          elim (cases_Bool load_there.0) [
            | inl t ↦ absurd (free.unloaded ((loading.marked number p is).0 (load_there.1 ∙ ap (λ (b : Bool). Some b) t)))
            | inr f ↦ f
          ]

      is_marked : slice_get third number ≡ Some true
      is_marked =
          unmarked_at.others number clock_apart ∙ unmarked.others number ins_apart
          ∙ marks number Given load_there.0 (outside_drive text network of number p is free.input) load_there.1 ∙ ap (λ (b : Bool). Some (free_by Given b)) load_false

  pub are_free : AreFreeInputs text state third
  are_free = record { long = long; marked = λ number p is. (λ e. is_free number p is e, λ f. is_marked number p is f) }
