-- What inputs have when a stepper's cycle begins.
use Rattle.std.proofs.Common.{◌≡◌, ◌⊎◌, ℕ, Bool, true, false, List, length, Some, sym, ap, ◌∙◌, subst, inl, inr, arith}
use Rattle.std.specs.List.{slice_get}
use Rattle.std.proofs.lemmas.Bool.{cases_Bool}
use Rattle.std.proofs.lemmas.Option.{slice_get_within}
use Rattle.fab_draws.specs.Draws.{is_one as is_set, word_at}
use Rattle.fab_syntax.specs.Plain.{PlainModule}
use Rattle.fab_systems_laws.specs.Ternary.{no, known}
use Rattle.fab_meaning.specs.Points.{Point, Driver, outside, copy, bit_of, flop, hold, IsStored}
use Rattle.fab_meaning.specs.Reads.{is_declared}
use Rattle.fab_meaning.specs.Settled.{Assignment}
use Rattle.fab_meaning.specs.Sound.{PointsOfSoundTextsHaveOneDriver}
use Rattle.fab_state.specs.Plain.{PlainState}
use Rattle.fab_ternary_laws.specs.Shown.{Terns}
use Rattle.fab_ternary.specs.declared.Tern.{Tern}
use Rattle.fab_ternary.specs.Terns.{is_known, is_one}
use Rattle.fab_equations.specs.Instances.{points}
use Rattle.fab_equations.specs.Equations.{IsPoint}
use Rattle.fab_equations.proofs.Numbering.{same_value, some_there}
use Rattle.fab_compiled.specs.declared.tree.Tree.{Tree}
use Rattle.fab_equations.proofs.Points.{declared_are_points}
use Rattle.fab_compiled.specs.Values.{AreByNumber}
use Rattle.fab_ordering_laws.specs.fab_simulation_laws_Simulation.{given}
use Rattle.fab_network.specs.declared.network.Clock.{Clock}
use Rattle.fab_network.specs.declared.network.Source.{Source}
use Rattle.fab_network.specs.declared.network.Drive.{Drive}
use Rattle.fab_network.specs.declared.network.Drive.TheVariants.{Flop}
use Rattle.fab_wiring.specs.Wiring.{IsDriveOf}
use Rattle.fab_network.specs.Passes.{kept_tern}
use Rattle.fab_wiring.proofs.Numbered.{points_have_terns}
use Rattle.fab_wiring.proofs.Solved.{is_point}
use Rattle.fab_phases.specs.Cycles.{IsFed}
use Rattle.fab_stepping.specs.Drawing.{marked_before}
use Rattle.fab_stepping.specs.Drawing as by_number
use Rattle.fab_ordering_laws.specs.Ordered.{Moment, IsFreeInput, IsNamedInput}
use Rattle.fab_sim.specs.Stepper.{Stands}
use Rattle.fab_sim.specs.declared.stepper.Stepper.{Stepper}
use Rattle.fab_sim.proofs.Blocks.{known_is, one_bit}
use Rattle.fab_sim.proofs.Listed.{AreMarkedSo}
use Rattle.fab_sim.proofs.Numbers.{given_picked, IsPicked}
use Rattle.fab_sim.proofs.Begun.{in_named, known_back, named_in, read_off, read_rest, read_there}
use Rattle.fab_sim.proofs.Points.{number_declared, point_of}

-- ---- what points have

module _ (text : List PlainModule) (state : PlainState) (draws : ℕ → ℕ) (one : PointsOfSoundTextsHaveOneDriver) (old : Stepper) (before : Moment)
    (stands : Stands text state draws old before) (inputs : List Bool) (many : length state.ins ≡ length inputs) (fed new_terns : List Tern)
    (is_fed : IsFed old.points.ins.items inputs (kept_tern old.board.terns.items) (kept_tern fed))
    (drawn : by_number.AreDrawn (word_at old.random) old.free.items true fed new_terns) where
  picked : (number : ℕ) (p : Point) → IsPoint text number p → IsPicked old.points.ins.items inputs number (given state.ins inputs p) no
  picked number p at = given_picked text stands.network.sound state.ins inputs old.points.ins.items stands.points_stand.ins (sym many) number p at

  mark_at : (number : ℕ) (p : Point) → IsPoint text number p → (slice_get old.free.items number ≡ Some true) ⊎ (slice_get old.free.items number ≡ Some true → ⊥)
  mark_at number p at =
      let inside = slice_get_within (points text) number p at in
      let there = some_there old.free.items number (let long = stands.free.long in omega (arith, inside, long)) in
      elim (cases_Bool there.0) [
        | inl t ↦ inl (there.1 ∙ ap Some t)
        | inr f ↦ inr (λ e. let both : Some false ≡ Some true = sym (there.1 ∙ ap Some f) ∙ e in cc)
      ]

  -- what is fed to a point
  fed_known : (number : ℕ) (p : Point) → IsPoint text number p → is_known (kept_tern fed number) ≡ true
  fed_known number p at =
      elim (picked number p at) [
        | inl found ↦ ap is_known (is_fed.fed found.0 number found.1 found.2 found.3) ∙ known_is found.1
        | inr none ↦ ap is_known (is_fed.others number none.0 ∙ stands.standing.shown number p at) ∙ known_is (before.standing.now p)
      ]

  pub value_known : (number : ℕ) (p : Point) → IsPoint text number p → is_known (kept_tern new_terns number) ≡ true
  value_known number p at =
      elim (mark_at number p at) [
        | inl marked ↦ ap is_known (drawn.drawn number marked) ∙ known_is (is_set (word_at old.random (marked_before true old.free.items number)))
        | inr not ↦ ap is_known (drawn.others number not) ∙ fed_known number p at
      ]

  pub by_points : (t : Terns) × AreByNumber text t (kept_tern new_terns)
  by_points = points_have_terns text stands.network.sound (kept_tern new_terns)

  abbrev pub now_begun : Assignment
  now_begun = read_off text by_points.0 before.standing.now

  pub now_at : (number : ℕ) (p : Point) → IsPoint text number p → kept_tern new_terns number ≡ known (now_begun p)
  now_at number p at =
      known_back (kept_tern new_terns number) (value_known number p at)
      ∙ ap known (ap is_one (by_points.1 number p at) ∙ sym (read_there text by_points.0 before.standing.now p (number_declared text stands.network.sound number p at)))

  pub named_so : (p : Point) → IsNamedInput text state p → known (now_begun p) ≡ given state.ins inputs p
  named_so p named =
      let n = named_in text state old.points.ins.items stands.points_stand.ins p named in
      sym (now_at n.0 p n.2) ∙ drawn.others n.0 (λ marked. ((stands.free.marked n.0 p n.2).0 marked).unnamed named)
      ∙ elim (picked n.0 p n.2) [ inl found ↦ is_fed.fed found.0 n.0 found.1 found.2 found.3 ∙ sym found.4 | inr none ↦ absurd (none.0 n.1) ]

  same_there : (number : ℕ) (p : Point) → IsPoint text number p → (IsNamedInput text state p → ⊥) → (IsFreeInput text state p → ⊥) → now_begun p ≡ before.standing.now p
  same_there number p at unnamed bound =
      one_bit (now_begun p) (before.standing.now p)
      (sym (now_at number p at) ∙ drawn.others number (λ marked. bound ((stands.free.marked number p at).0 marked))
      ∙ elim (picked number p at) [
        | inl found ↦ absurd (unnamed (in_named text state old.points.ins.items stands.points_stand.ins found.0 number p found.2 at))
        | inr none ↦ is_fed.others number none.0 ∙ stands.standing.shown number p at
      ])

  pub others_so : (p : Point) → (IsNamedInput text state p → ⊥) → (IsFreeInput text state p → ⊥) → now_begun p ≡ before.standing.now p
  others_so p unnamed bound =
      elim (cases_Bool (is_declared text p)) [
        | inl there ↦ (let n = is_point text p (declared_are_points text stands.network.sound p there) in same_there n.0 p n.1 unnamed bound)
        | inr absent ↦ read_rest text by_points.0 before.standing.now p absent
      ]

  pub marked_so : AreMarkedSo draws (IsFreeInput text state) now_begun true (points text) old.free.items before.drawn
  marked_so = record {
    has = λ k p e f. (stands.free.marked k p e).0 f;
    others = λ k p e not h. not ((stands.free.marked k p e).1 h);
    words = λ k p e f.
        one_bit (now_begun p) (is_set (word_at old.random (marked_before true old.free.items k))) (sym (now_at k p e) ∙ drawn.drawn k f)
        ∙ (λ i. is_set (stands.drawn i (marked_before true old.free.items k)));
  }

-- ---- what flip-flops hold

pub flop_holds : (text : List PlainModule) (trees : List Tree) (d : Driver) (clock : Clock) (source : Source) → IsDriveOf text trees d (Flop clock source) → IsStored d
flop_holds text trees (flop path own next bit) clock source of = tt
flop_holds text trees outside clock source of = absurd of
flop_holds text trees (copy other) clock source of = absurd of
flop_holds text trees (bit_of path e bit) clock source of = absurd of
flop_holds text trees (hold path gate e bit) clock source of = absurd of

pub flops_known : (text : List PlainModule) (state : PlainState) (draws : ℕ → ℕ) (one : PointsOfSoundTextsHaveOneDriver) (old : Stepper) (before : Moment) →
    Stands text state draws old before → (point : ℕ) (clock : Clock) (next : Source) → slice_get old.network.drives.items point ≡ Some (Flop clock next) →
    is_known (kept_tern old.board.held.items point) ≡ true
flops_known text state draws one old before stands point clock next e =
    let p = point_of text old.network stands.network point (Flop clock next) e in
    let d = one text stands.network.sound p.0 (number_declared text stands.network.sound point p.0 p.1) in
    let w = stands.network.drives point p.0 d.0 p.1 d.1 in
    let same : w.drive ≡ Flop clock next = same_value (slice_get old.network.drives.items point) w.drive (Flop clock next) w.is e in
    let holds = flop_holds text old.network.trees.items d.0 clock next (subst (λ (x : Drive). IsDriveOf text old.network.trees.items d.0 x) same w.of) in
    ap is_known (stands.standing.held point p.0 d.0 p.1 d.1 holds) ∙ known_is (before.standing.held p.0)
