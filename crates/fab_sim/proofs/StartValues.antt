-- What points have and what is held at the start of an ordered simulation.
use Rattle.std.proofs.Common.{◌≡◌, ◌⊎◌, ℕ, Bool, true, false, List, Some, if◌then◌else◌, sym, ap, ◌∙◌, subst, inl, inr, arith}
use Rattle.std.specs.List.{slice_get}
use Rattle.std.proofs.lemmas.Bool.{cases_Bool}
use Rattle.std.proofs.lemmas.Option.{slice_get_within}
use Rattle.fab_draws.specs.Draws.{is_one as is_set, word_at}
use Rattle.fab_syntax.specs.Plain.{PlainModule}
use Rattle.fab_systems_laws.specs.Ternary.{no, known}
use Rattle.fab_meaning.specs.Points.{Point, Driver, Drives, IsStored}
use Rattle.fab_meaning.specs.Settled.{Assignment}
use Rattle.fab_meaning.specs.Loading.{IsLoading, IsStream}
use Rattle.fab_load_runs_laws.specs.Runs.{Decides, LoadingIsDecided}
use Rattle.fab_state.specs.Plain.{PlainState}
use Rattle.fab_ternary_laws.specs.Shown.{Terns}
use Rattle.fab_ternary.specs.declared.Tern.{Tern}
use Rattle.fab_ternary.specs.Terns.{is_known, is_one}
use Rattle.fab_equations.specs.Instances.{points}
use Rattle.fab_equations.specs.Equations.{IsPoint}
use Rattle.fab_equations.proofs.Numbering.{some_there}
use Rattle.fab_equations.proofs.Points.{declared_are_points}
use Rattle.fab_compiled.specs.Values.{AreByNumber}
use Rattle.fab_ordering_laws.specs.fab_simulation_laws_Simulation.{IsLoaded, with_registers}
use Rattle.fab_network.specs.Passes.{kept_tern}
use Rattle.fab_wiring.proofs.Numbered.{points_have_terns}
use Rattle.fab_wiring.proofs.Solved.{is_point}
use Rattle.fab_phases.specs.Cycles.{IsFed, IsIn}
use Rattle.fab_stepping.specs.Boards.{IsTakenOver}
use Rattle.fab_stepping.specs.Drawing.{marked_before}
use Rattle.fab_stepping.specs.Drawing as by_number
use Rattle.fab_sim.specs.inner.Unset.{IsUnset}
use Rattle.fab_sim.specs.declared.stepper.Stepper.{Stepper}
use Rattle.fab_sim.proofs.Begun.{known_back, read_off, read_there}
use Rattle.fab_sim.proofs.Blocks.{known_is, one_bit}
use Rattle.fab_sim.proofs.Loaded.{stream_loads}
use Rattle.fab_sim.proofs.Numbers.{registers_picked, IsPicked}
use Rattle.fab_sim.proofs.Points.{number_declared}

abbrev pub nothing : Assignment
nothing p = false

module _ (text : List PlainModule) (state : PlainState) (loaded : Terns) (loads values : List Bool) (old : Stepper) (unset : IsUnset text state loaded loads values old)
    (words : List (List Bool)) (is_loaded : IsLoaded text words loaded) (decided : LoadingIsDecided) (drawn_terns held_first held_terns : List Tern)
    (drawn : by_number.AreDrawn (word_at old.random) loads false old.board.terns.items drawn_terns)
    (taken : IsTakenOver loads false drawn_terns old.board.held.items held_first)
    (fed : IsFed old.points.ffs.items values (kept_tern held_first) (kept_tern held_terns)) where
  -- ---- marks

  pub load_at : (number : ℕ) (p : Point) → IsPoint text number p → (IsLoading text p × (slice_get loads number ≡ Some true)) ⊎ ((IsLoading text p → ⊥) × (slice_get loads number ≡ Some false))
  load_at number p at =
      let inside = slice_get_within (points text) number p at in
      let there = some_there loads number (let long = unset.loading.long in omega (arith, inside, long)) in
      elim (cases_Bool there.0) [
        | inl t ↦ (let marked : slice_get loads number ≡ Some true = there.1 ∙ ap Some t in inl ((unset.loading.marked number p at).0 marked, marked))
        | inr f ↦ (let marked : slice_get loads number ≡ Some false = there.1 ∙ ap Some f in
            inr (λ l. (let both : Some false ≡ Some true = sym marked ∙ (unset.loading.marked number p at).1 l in cc), marked))
      ]

  not_both : (number : ℕ) → slice_get loads number ≡ Some true → slice_get loads number ≡ Some false → ⊥
  not_both number t f = let both : Some true ≡ Some false = sym t ∙ f in cc

  -- ---- drawn values

  pub low_drawn : (number : ℕ) (p : Point) → IsPoint text number p → IsLoading text p → kept_tern drawn_terns number ≡ no
  low_drawn number p at l =
      drawn.others number (not_both number ((unset.loading.marked number p at).1 l)) ∙ unset.zeros number (slice_get_within (points text) number p at)

  drawn_known : (number : ℕ) (p : Point) → IsPoint text number p → is_known (kept_tern drawn_terns number) ≡ true
  drawn_known number p at =
      elim (load_at number p at) [
        | inl l ↦ ap is_known (low_drawn number p at l.0)
        | inr n ↦ ap is_known (drawn.drawn number n.1) ∙ known_is (is_set (word_at old.random (marked_before false loads number)))
      ]

  pub drawn_points : (t : Terns) × AreByNumber text t (kept_tern drawn_terns)
  drawn_points = points_have_terns text unset.network.sound (kept_tern drawn_terns)

  -- what the points have before the loading points are settled
  abbrev pub drawn_now : Assignment
  drawn_now = read_off text drawn_points.0 nothing

  pub drawn_at : (number : ℕ) (p : Point) → IsPoint text number p → kept_tern drawn_terns number ≡ known (drawn_now p)
  drawn_at number p at =
      known_back (kept_tern drawn_terns number) (drawn_known number p at)
      ∙ ap known (ap is_one (drawn_points.1 number p at) ∙ sym (read_there text drawn_points.0 nothing p (number_declared text unset.network.sound number p at)))

  pub drawn_low : (p : Point) → IsStream text p → drawn_now p ≡ false
  drawn_low p stream =
      let n = is_point text p (declared_are_points text unset.network.sound p stream.declared) in
      one_bit (drawn_now p) false (sym (drawn_at n.0 p n.1) ∙ low_drawn n.0 p n.1 (stream_loads text p stream))

  -- ---- what is held

  pub picked : (number : ℕ) (p : Point) → IsPoint text number p → IsPicked old.points.ffs.items values number (with_registers state.ffs loaded p) (loaded p)
  picked number p at =
      subst (λ (vs : List Bool). IsPicked old.points.ffs.items vs number (with_registers state.ffs loaded p) (loaded p)) (sym unset.values_are)
      (registers_picked text unset.network.sound state.ffs old.points.ffs.items unset.points_stand.ffs loaded number p at)

  -- what the state leaves is known at loading points
  pub left_known : (number : ℕ) (p : Point) → IsPoint text number p → IsLoading text p → is_known (with_registers state.ffs loaded p) ≡ true
  left_known number p at l =
      elim (picked number p at) [
        | inl found ↦ ap is_known found.4 ∙ known_is found.1
        | inr none ↦ ap is_known (none.1 ∙ is_loaded.loaded p l) ∙ known_is (is_loaded.after p)
      ]

  held_points : (t : Terns) × AreByNumber text t (kept_tern held_terns)
  held_points = points_have_terns text unset.network.sound (kept_tern held_terns)

  abbrev loads_test : (has : Point → Bool) × Decides (IsLoading text) has
  loads_test = decided text unset.network.sound

  pub held_now : Assignment
  held_now p = if loads_test.0 p then is_one (with_registers state.ffs loaded p) else is_one (held_points.0 p)

  pub held_loading : (number : ℕ) (p : Point) → IsPoint text number p → IsLoading text p → known (held_now p) ≡ with_registers state.ffs loaded p
  unfolding held_now
  held_loading number p at l =
      ap (λ b. known (if b then is_one (with_registers state.ffs loaded p) else is_one (held_points.0 p))) (loads_test.1.whole p l)
      ∙ sym (known_back (with_registers state.ffs loaded p) (left_known number p at l))

  held_other : (number : ℕ) (p : Point) → IsPoint text number p → (IsLoading text p → ⊥) → held_now p ≡ is_one (kept_tern held_terns number)
  unfolding held_now
  held_other number p at n =
      let not : loads_test.0 p ≡ false = elim (cases_Bool (loads_test.0 p)) [ inl t ↦ absurd (n (loads_test.1.sound p t)) | inr f ↦ f ] in
      ap (λ b. if b then is_one (with_registers state.ffs loaded p) else is_one (held_points.0 p)) not ∙ ap is_one (sym (held_points.1 number p at))

  -- what a point holds that is no loading point and no flip-flop of the state is drawn
  pub held_drawn : (number : ℕ) (p : Point) → IsPoint text number p → (IsLoading text p → ⊥) → slice_get loads number ≡ Some false → (IsIn old.points.ffs.items number → ⊥) →
      kept_tern held_terns number ≡ known (drawn_now p)
  held_drawn number p at n marked absent = fed.others number absent ∙ taken.taken number marked ∙ drawn_at number p at

  pub held_unloaded : (number : ℕ) (p : Point) → IsPoint text number p → (IsLoading text p → ⊥) → slice_get loads number ≡ Some false →
      kept_tern held_terns number ≡ known (held_now p)
  held_unloaded number p at n marked =
      let sure : is_known (kept_tern held_terns number) ≡ true =
      elim (picked number p at) [
        | inl found ↦ ap is_known (fed.fed found.0 number found.1 found.2 found.3) ∙ known_is found.1
        | inr none ↦ ap is_known (held_drawn number p at n marked none.0) ∙ known_is (drawn_now p)
      ] in
      known_back (kept_tern held_terns number) sure ∙ ap known (sym (held_other number p at n))

  -- what the state says of a flip-flop is held
  pub held_found : (number : ℕ) (p : Point) → IsPoint text number p → IsIn old.points.ffs.items number → kept_tern held_terns number ≡ with_registers state.ffs loaded p
  held_found number p at there =
      elim (picked number p at) [
        | inl found ↦ fed.fed found.0 number found.1 found.2 found.3 ∙ sym found.4
        | inr none ↦ absurd (none.0 there)
      ]

  pub held_at : (number : ℕ) (p : Point) (d : Driver) → IsPoint text number p → Drives text p d → IsStored d → kept_tern held_terns number ≡ known (held_now p)
  held_at number p d at driven holds =
      elim (load_at number p at) [
        | inl l ↦
            let first : kept_tern held_first number ≡ kept_tern old.board.held.items number = taken.others number (not_both number l.1) in
            elim (picked number p at) [
              | inl found ↦ fed.fed found.0 number found.1 found.2 found.3 ∙ sym found.4 ∙ sym (held_loading number p at l.0)
              | inr none ↦ fed.others number none.0 ∙ first ∙ unset.held number p d at driven holds ∙ sym (held_loading number p at l.0)
            ]
        | inr n ↦ held_unloaded number p at n.0 n.1
      ]
