-- The start of a stepper is that of an ordered simulation.
use Rattle.std.proofs.Common.{◌≡◌, ◌⊎◌, ℕ, ◌+◌, Bool, true, false, List, length, map, Some, refl, sym, ap, ◌∙◌, subst, inl, inr, arith}
use Rattle.std.specs.List.{slice_get}
use Rattle.std.proofs.lemmas.Bool.{false≢true}
use Rattle.std.proofs.lemmas.Option.{slice_get_within}
use Rattle.fab_draws.specs.Draws.{is_one as is_set, word_at}
use Rattle.fab_syntax.specs.Plain.{PlainModule}
use Rattle.fab_systems_laws.specs.Ternary.{known}
use Rattle.fab_meaning.specs.Points.{Point, Driver, Drives, point, outside, copy, bit_of, flop, hold, module_at}
use Rattle.fab_meaning.specs.Reads.{is_declared, reads}
use Rattle.fab_meaning.specs.Settled.{Assignment, shown, IsSettledOn}
use Rattle.fab_meaning.specs.Loading.{IsClosed, IsLoading, IsStream, Within, by_flop, by_reads, by_stream}
use Rattle.fab_load_runs_laws.specs.Runs.{LoadingIsDecided, HasClocks, IsClockLow, RunsExist}
use Rattle.fab_state.specs.Plain.{PlainState, Register}
use Rattle.fab_ternary_laws.specs.Shown.{Terns}
use Rattle.fab_ternary.specs.declared.Tern.{Tern}
use Rattle.fab_ternary.specs.Terns.{is_known, is_one}
use Rattle.fab_equations.specs.Instances.{points}
use Rattle.fab_equations.specs.Equations.{IsPoint}
use Rattle.fab_equations.proofs.Numbering.{some_there}
use Rattle.fab_equations.proofs.Points.{declared_are_points}
use Rattle.fab_compiled.specs.Values.{AreByNumber}
use Rattle.fab_ordering_laws.specs.fab_simulation_laws_Simulation.{IsLoaded, with_registers}
use Rattle.fab_network.specs.Passes.{kept_tern}
use Rattle.fab_wiring.proofs.Numbered.{points_have_terns}
use Rattle.fab_wiring.proofs.Solved.{is_point}
use Rattle.fab_phases.specs.Cycles.{IsFed, IsIn}
use Rattle.fab_stepping.specs.Boards.{IsTakenOver, given_on, IsBoardOf}
use Rattle.fab_stepping.specs.Drawing.{marked_before}
use Rattle.fab_stepping.specs.Drawing as by_number
use Rattle.fab_sim.specs.inner.Unset.{IsUnset}
use Rattle.fab_sim.specs.declared.stepper.Stepper.{Stepper}
use Rattle.fab_sim.proofs.Begun.{known_back, read_off, read_rest, read_there}
use Rattle.fab_sim.proofs.Blocks.{known_is, one_bit}
use Rattle.fab_sim.proofs.Listed.{are_drawn, AreMarkedSo}
use Rattle.fab_sim.proofs.StartValues.{nothing, load_at, drawn_points, drawn_now, drawn_at, drawn_low, held_now, held_loading, held_drawn, held_found, held_at, held_unloaded}
use Rattle.fab_sim.proofs.Loaded.{stream_loads}
use Rattle.fab_sim.proofs.Numbers.{line_at}
use Rattle.fab_phases.proofs.Lists.{get_mapped, get_of_mapped}
use Rattle.fab_state_points.specs.declared.entry.Entry.{Entry}
use Rattle.fab_sim.proofs.Points.{number_declared, one_point, input_of}
use Rattle.std.specs.List.{range_with_len}
use Rattle.fab_syntax.specs.Sound.{IsSound}
use Rattle.fab_meaning.specs.Runs.{clock_name, user_clock_name, Moment as RunMoment, IsRunOn}
use Rattle.fab_meaning.specs.Sound.{PointsOfSoundTextsHaveOneDriver}
use Rattle.fab_meaning.specs.Activation.{State}
use Rattle.fab_meaning.proofs.Dependence.{shown_same}
use Rattle.fab_meaning.proofs.SingleDrivers.{one_driver}
use Rattle.fab_meaning.proofs.SoundTexts.{sound_drives_once}
use Rattle.std.proofs.lemmas.List.Elements.{All-cons, All-nil}
use Rattle.std.proofs.Common.{[], ◌∷◌}
use Rattle.std.proofs.lemmas.Option.{slice_get-get_or, get_or_from_slice_get}
use Rattle.fab_solutions_laws.specs.Laws.{LeastSolutionsExist}
use Rattle.fab_ordering_laws.specs.fab_simulation_laws_Laws.{LoadingIsKnown}
use Rattle.fab_ordering_laws.specs.fab_use_defs_Sites.{bel_point}
use Rattle.fab_prim.specs.Modules.{flip_flop_name}
use Rattle.fab_state_points.specs.Entries.{entry_point, register_entries}
use Rattle.fab_state_points.specs.declared.entry.Entry.TheVariants as entries
use Rattle.fab_compiled.specs.Terns.{seen}
use Rattle.fab_network.specs.Solved.{IsLeast}
use Rattle.fab_stepping.specs.declared.board.Board.{Board}
use Rattle.fab_stepping.specs.Standing.{StandsFor}
use Rattle.fab_stepping.proofs.Leaving.{solved_by, IsSolvedBy}
use Rattle.fab_stepping.proofs.Reading.{leads_seen}
use Rattle.fab_ordering_laws.specs.Ordered.{Moment, IsNamedRegister, IsStart}
use Rattle.fab_ordering_laws.proofs.fab_simulation_laws_Loading.{within_declared}

-- what drives a loading point reads loading points
reads_within : (text : List PlainModule) → IsSound text → (flops : Point → Bool) → IsClosed text flops → (p : Point) → Within text flops p → (d : Driver) → Drives text p d →
    (q : Point) → reads text d q ≡ true → Within text flops q
reads_within text sound flops closed p (by_flop declared f) d driven q r =
    let at = closed p f in
    let own = flop at.path at.clock at.next at.bit in
    let same : d ≡ own = one_driver text (sound_drives_once text sound) p d own driven at.drives in
    absurd (false≢true (subst (λ (x : Driver). reads text x q ≡ true) same r))
reads_within text sound flops closed p (by_stream is) d driven q r =
    let same : d ≡ outside = one_driver text (sound_drives_once text sound) p d outside driven (inl is.input) in
    absurd (false≢true (subst (λ (x : Driver). reads text x q ≡ true) same r))
reads_within text sound flops closed p (by_reads own declared drives derived inside) d driven q r =
    let same : d ≡ own = one_driver text (sound_drives_once text sound) p d own driven drives in
    inside q (subst (λ (x : Driver). reads text x q ≡ true) same r)

module _ (text : List PlainModule) (state : PlainState) (loaded : Terns) (loads values : List Bool) (old : Stepper) (unset : IsUnset text state loaded loads values old)
    (words : List (List Bool)) (is_loaded : IsLoaded text words loaded) (decided : LoadingIsDecided) (drawn_terns held_first held_terns : List Tern)
    (drawn : by_number.AreDrawn (word_at old.random) loads false old.board.terns.items drawn_terns)
    (taken : IsTakenOver loads false drawn_terns old.board.held.items held_first)
    (fed : IsFed old.points.ffs.items values (kept_tern held_first) (kept_tern held_terns))
    (one : PointsOfSoundTextsHaveOneDriver) (runs : RunsExist) (knows : LoadingIsKnown) (exist : LeastSolutionsExist) (middle : Board) (is_middle : IsBoardOf old.network middle)
    (middle_terns : middle.terns.items ≡ drawn_terns) (middle_held : middle.held.items ≡ held_terns) (solution last_terns : List Tern)
    (least : IsLeast old.network.trees.items old.network.drives.items (given_on old.network middle) (seen solution middle.leads.items))
    (over : IsTakenOver loads true solution drawn_terns last_terns) where
  abbrev before : State
  before = record { now = drawn_now text state loaded loads values old unset words is_loaded decided drawn_terns held_first held_terns drawn taken fed; held = held_now text state loaded loads values old unset words is_loaded decided drawn_terns held_first held_terns drawn taken fed }

  pub stands_before : StandsFor text middle before
  stands_before = record {
    shown = λ number p at. ap (λ (ts : List Tern). kept_tern ts number) middle_terns ∙ drawn_at text state loaded loads values old unset words is_loaded decided drawn_terns held_first held_terns drawn taken fed number p at;
    held = λ number p d at driven holds. ap (λ (ts : List Tern). kept_tern ts number) middle_held ∙ held_at text state loaded loads values old unset words is_loaded decided drawn_terns held_first held_terns drawn taken fed number p d at driven holds;
  }

  pub solved : IsSolvedBy text unset.network.sound one old.network unset.network.drives unset.network.long middle before is_middle stands_before (seen solution middle.leads.items)
  solved =
      solved_by text unset.network.sound one old.network unset.network.drives unset.network.long middle before is_middle stands_before exist unset.network.narrow
      (seen solution middle.leads.items) least

  -- ---- the loading points

  clocks : HasClocks text
  clocks = record {
    loader_clock = input_of (module_at text []) clock_name unset.points_stand.has.loader.local unset.points_stand.has.loader.is unset.points_stand.has.loader.role_is;
    user_clock = input_of (module_at text []) user_clock_name unset.points_stand.has.user.local unset.points_stand.has.user.is unset.points_stand.has.user.role_is;
  }

  clock_low : (there : Bool) → is_declared text (point [] clock_name 0) ≡ there → drawn_now text state loaded loads values old unset words is_loaded decided drawn_terns held_first held_terns drawn taken fed (point [] clock_name 0) ≡ false
  clock_low true e =
      drawn_low text state loaded loads values old unset words is_loaded decided drawn_terns held_first held_terns drawn taken fed (point [] clock_name 0)
      (record { input = record { top = refl; input = clocks.loader_clock; is = refl }; declared = e; named = inl refl })
  clock_low false e = read_rest text (drawn_points text state loaded loads values old unset words is_loaded decided drawn_terns held_first held_terns drawn taken fed).0 nothing (point [] clock_name 0) e

  low_clock : drawn_now text state loaded loads values old unset words is_loaded decided drawn_terns held_first held_terns drawn taken fed (point [] clock_name 0) ≡ false
  low_clock = clock_low (is_declared text (point [] clock_name 0)) refl

  abbrev moment_first : RunMoment
  moment_first = record { inputs = drawn_now text state loaded loads values old unset words is_loaded decided drawn_terns held_first held_terns drawn taken fed; clock = [] }

  abbrev run : (after : Assignment) × IsRunOn (IsLoading text) text (moment_first ∷ []) (held_now text state loaded loads values old unset words is_loaded decided drawn_terns held_first held_terns drawn taken fed) after
  run = runs text unset.network.sound clocks (moment_first ∷ []) (All-cons IsClockLow moment_first [] low_clock (All-nil IsClockLow)) (held_now text state loaded loads values old unset words is_loaded decided drawn_terns held_first held_terns drawn taken fed)

  abbrev settled_now : Assignment
  settled_now = run.1.0

  is_settled : IsSettledOn (IsLoading text) text (drawn_now text state loaded loads values old unset words is_loaded decided drawn_terns held_first held_terns drawn taken fed) (held_now text state loaded loads values old unset words is_loaded decided drawn_terns held_first held_terns drawn taken fed) settled_now
  is_settled = run.1.2

  solved_loading : (p : Point) → IsLoading text p → solved.solution p ≡ known (settled_now p)
  solved_loading p l =
      knows text (λ q. known (drawn_now text state loaded loads values old unset words is_loaded decided drawn_terns held_first held_terns drawn taken fed q)) (λ q. known (held_now text state loaded loads values old unset words is_loaded decided drawn_terns held_first held_terns drawn taken fed q)) solved.solution (drawn_now text state loaded loads values old unset words is_loaded decided drawn_terns held_first held_terns drawn taken fed) (held_now text state loaded loads values old unset words is_loaded decided drawn_terns held_first held_terns drawn taken fed) settled_now solved.least.solves
      (λ q s. refl) (λ q s. refl) is_settled p l

  -- ---- what the points have at last

  last_loading : (number : ℕ) (p : Point) → IsPoint text number p → IsLoading text p → slice_get loads number ≡ Some true → kept_tern last_terns number ≡ known (settled_now p)
  last_loading number p at l marked =
      let inside = slice_get_within (points text) number p at in
      over.taken number marked
      ∙ sym (leads_seen (length old.network.drives.items) middle.leads.items solution is_middle.leads number (let long = unset.network.long in omega (arith, inside, long)))
      ∙ solved.same number p at ∙ solved_loading p l

  last_known : (number : ℕ) (p : Point) → IsPoint text number p → is_known (kept_tern last_terns number) ≡ true
  last_known number p at =
      elim (load_at text state loaded loads values old unset words is_loaded decided drawn_terns held_first held_terns drawn taken fed number p at) [
        | inl l ↦ ap is_known (last_loading number p at l.0 l.1) ∙ known_is (settled_now p)
        | inr n ↦ ap is_known (over.others number (λ e. n.0 ((unset.loading.marked number p at).0 e)) ∙ drawn_at text state loaded loads values old unset words is_loaded decided drawn_terns held_first held_terns drawn taken fed number p at) ∙ known_is (drawn_now text state loaded loads values old unset words is_loaded decided drawn_terns held_first held_terns drawn taken fed p)
      ]

  pub last_points : (t : Terns) × AreByNumber text t (kept_tern last_terns)
  last_points = points_have_terns text unset.network.sound (kept_tern last_terns)

  abbrev pub last_now : Assignment
  last_now = read_off text last_points.0 nothing

  last_at : (number : ℕ) (p : Point) → IsPoint text number p → kept_tern last_terns number ≡ known (last_now p)
  last_at number p at =
      known_back (kept_tern last_terns number) (last_known number p at)
      ∙ ap known (ap is_one (last_points.1 number p at) ∙ sym (read_there text last_points.0 nothing p (number_declared text unset.network.sound number p at)))

  -- loading points have what they settle to
  last_settled : (p : Point) → IsLoading text p → last_now p ≡ settled_now p
  last_settled p l =
      let n = is_point text p (declared_are_points text unset.network.sound p (within_declared text l.0 p l.2)) in
      one_bit (last_now p) (settled_now p) (sym (last_at n.0 p n.1) ∙ last_loading n.0 p n.1 l ((unset.loading.marked n.0 p n.1).1 l))

  -- all others what they drew
  last_drawn : (number : ℕ) (p : Point) → IsPoint text number p → (IsLoading text p → ⊥) → kept_tern last_terns number ≡ kept_tern drawn_terns number
  last_drawn number p at n = over.others number (λ e. n ((unset.loading.marked number p at).0 e))

  quiet : (p : Point) → IsStream text p → last_now p ≡ false
  quiet p stream =
      let l = stream_loads text p stream in
      last_settled p l ∙ is_settled p outside l (inl stream.input) ∙ drawn_low text state loaded loads values old unset words is_loaded decided drawn_terns held_first held_terns drawn taken fed p stream

  -- a loading point reads loading points
  reads_loading : (p : Point) (d : Driver) → IsLoading text p → Drives text p d → (q : Point) → reads text d q ≡ true → last_now q ≡ settled_now q
  reads_loading p d l driven q r =
      last_settled q (l.0, l.1, reads_within text unset.network.sound l.0 l.1 p l.2 d driven q r)

  -- what it shows does not depend on other inputs
  shown_again : (p : Point) (d : Driver) → last_now p ≡ settled_now p → (d ≡ outside → last_now p ≡ drawn_now text state loaded loads values old unset words is_loaded decided drawn_terns held_first held_terns drawn taken fed p) →
      shown text (drawn_now text state loaded loads values old unset words is_loaded decided drawn_terns held_first held_terns drawn taken fed) (held_now text state loaded loads values old unset words is_loaded decided drawn_terns held_first held_terns drawn taken fed) settled_now p d ≡ shown text last_now (held_now text state loaded loads values old unset words is_loaded decided drawn_terns held_first held_terns drawn taken fed) settled_now p d
  shown_again p outside same given_is = sym (given_is refl)
  shown_again p (copy other) same given_is = refl
  shown_again p (bit_of path e bit) same given_is = refl
  shown_again p (flop path clock next bit) same given_is = refl
  shown_again p (hold path gate e bit) same given_is = refl

  outside_same : (p : Point) (d : Driver) → IsLoading text p → Drives text p d → d ≡ outside → last_now p ≡ drawn_now text state loaded loads values old unset words is_loaded decided drawn_terns held_first held_terns drawn taken fed p
  outside_same p d l driven e = last_settled p l ∙ is_settled p outside l (subst (Drives text p) e driven)

  settled_last : IsSettledOn (IsLoading text) text last_now (held_now text state loaded loads values old unset words is_loaded decided drawn_terns held_first held_terns drawn taken fed) last_now
  settled_last p d l driven =
      last_settled p l ∙ is_settled p d l driven ∙ shown_again p d (last_settled p l) (outside_same p d l driven)
      ∙ shown_same text last_now (held_now text state loaded loads values old unset words is_loaded decided drawn_terns held_first held_terns drawn taken fed) settled_now last_now p d (λ q r. sym (reads_loading p d l driven q r))

  -- ---- the start

  -- a flip-flop of the state by its number
  register_in : (p : Point) → IsNamedRegister state p → (number : ℕ) × IsIn old.points.ffs.items number × IsPoint text number p
  register_in p has =
      let places = map (λ (r : Register). bel_point r.0 flip_flop_name) state.ffs in
      let there : slice_get places has.0 ≡ Some p = slice_get-get_or places has.0 p has.1 ∙ ap Some has.2 in
      let ff = get_of_mapped (λ (r : Register). bel_point r.0 flip_flop_name) state.ffs has.0 p there in
      let line = get_mapped (λ (r : Register). entries.Register r.0) state.ffs has.0 ff.0 ff.1 in
      let inside = slice_get_within (register_entries state.ffs) has.0 (entries.Register ff.0.0) line in
      let number = some_there old.points.ffs.items has.0 (let long = unset.points_stand.ffs.long in omega (arith, inside, long)) in
      let each = unset.points_stand.ffs.each has.0 (entries.Register ff.0.0) number.0 line number.1 in
      (number.0, (has.0, number.0, number.1, refl), subst (IsPoint text number.0) ff.2 each.1)

  -- and the other way round
  in_register : (place number : ℕ) (p : Point) → slice_get old.points.ffs.items place ≡ Some number → IsPoint text number p → IsNamedRegister state p
  in_register place number p e is =
      let line = line_at text (register_entries state.ffs) old.points.ffs.items unset.points_stand.ffs place number e in
      let each = unset.points_stand.ffs.each place line.0 number line.1 e in
      let ff = get_of_mapped (λ (r : Register). entries.Register r.0) state.ffs place line.0 line.1 in
      let point_is : IsPoint text number (bel_point ff.0.0 flip_flop_name) = subst (λ (x : Entry). IsPoint text number (entry_point x)) (sym ff.2) each.1 in
      let same : bel_point ff.0.0 flip_flop_name ≡ p = one_point text number (bel_point ff.0.0 flip_flop_name) p point_is is in
      let mapped = get_mapped (λ (r : Register). bel_point r.0 flip_flop_name) state.ffs place ff.0 ff.1 in (
        place,
        slice_get_within (map (λ (r : Register). bel_point r.0 flip_flop_name) state.ffs) place (bel_point ff.0.0 flip_flop_name) mapped,
        get_or_from_slice_get (map (λ (r : Register). bel_point r.0 flip_flop_name) state.ffs) place p p (mapped ∙ ap Some same),
      )

  keeps_so : (p : Point) → is_declared text p ≡ true → IsLoading text p ⊎ IsNamedRegister state p → known (held_now text state loaded loads values old unset words is_loaded decided drawn_terns held_first held_terns drawn taken fed p) ≡ with_registers state.ffs loaded p
  keeps_so p there (inl l) = let n = is_point text p (declared_are_points text unset.network.sound p there) in held_loading text state loaded loads values old unset words is_loaded decided drawn_terns held_first held_terns drawn taken fed n.0 p n.1 l
  keeps_so p there (inr named) =
      let n = register_in p named in
      elim (load_at text state loaded loads values old unset words is_loaded decided drawn_terns held_first held_terns drawn taken fed n.0 p n.2) [
        | inl l ↦ held_loading text state loaded loads values old unset words is_loaded decided drawn_terns held_first held_terns drawn taken fed n.0 p n.2 l.0
        | inr other ↦ sym (held_unloaded text state loaded loads values old unset words is_loaded decided drawn_terns held_first held_terns drawn taken fed n.0 p n.2 other.0 other.1) ∙ held_found text state loaded loads values old unset words is_loaded decided drawn_terns held_first held_terns drawn taken fed n.0 p n.2 n.1
      ]

  others_at : (number : ℕ) (p : Point) → IsPoint text number p → (IsLoading text p → ⊥) → (IsNamedRegister state p → ⊥) → held_now text state loaded loads values old unset words is_loaded decided drawn_terns held_first held_terns drawn taken fed p ≡ last_now p
  others_at number p at n unnamed =
      elim (load_at text state loaded loads values old unset words is_loaded decided drawn_terns held_first held_terns drawn taken fed number p at) [
        | inl l ↦ absurd (n l.0)
        | inr other ↦
            let absent : IsIn old.points.ffs.items number → ⊥ = λ there. unnamed (in_register there.0 number p (there.2 ∙ ap Some there.3) at) in
            one_bit (held_now text state loaded loads values old unset words is_loaded decided drawn_terns held_first held_terns drawn taken fed p) (last_now p)
            (sym (held_unloaded text state loaded loads values old unset words is_loaded decided drawn_terns held_first held_terns drawn taken fed number p at n other.1) ∙ held_drawn text state loaded loads values old unset words is_loaded decided drawn_terns held_first held_terns drawn taken fed number p at n other.1 absent ∙ sym (drawn_at text state loaded loads values old unset words is_loaded decided drawn_terns held_first held_terns drawn taken fed number p at) ∙ sym (last_drawn number p at n)
            ∙ last_at number p at)
      ]

  marked_so : AreMarkedSo (word_at old.random) (λ p. IsLoading text p → ⊥) last_now false (points text) loads 0
  marked_so = record {
    has = λ k p e f l. (let both : Some true ≡ Some false = sym ((unset.loading.marked k p e).1 l) ∙ f in cc);
    others = λ k p e not n. elim (load_at text state loaded loads values old unset words is_loaded decided drawn_terns held_first held_terns drawn taken fed k p e) [ inl l ↦ n l.0 | inr other ↦ not other.1 ];
    words = λ k p e f.
        let n : IsLoading text p → ⊥ = λ l. (let both : Some true ≡ Some false = sym ((unset.loading.marked k p e).1 l) ∙ f in cc) in
        one_bit (last_now p) (is_set (word_at old.random (marked_before false loads k))) (sym (last_at k p e) ∙ last_drawn k p e n ∙ drawn.drawn k f)
        ∙ (let place : marked_before false loads k ≡ 0 + marked_before false loads k = omega arith in ap (λ m. is_set (word_at old.random m)) place);
  }

  abbrev pub start : Moment
  start = record {
    standing = record { now = last_now; held = held_now text state loaded loads values old unset words is_loaded decided drawn_terns held_first held_terns drawn taken fed };
    solution = solved.solution;
    order = range_with_len 0 (length (points text));
    drawn = 0 + marked_before false loads (length loads);
  }

  pub is_start : IsStart text state (word_at old.random) words start
  is_start = record {
    left = loaded;
    is_left = is_loaded;
    keeps = keeps_so;
    quiet = quiet;
    settled = settled_last;
    drawn = are_drawn (word_at old.random) (λ p. IsLoading text p → ⊥) last_now false (points text) loads 0 unset.loading.long marked_so;
    others = λ p d there n unnamed driven stored.
        let number = is_point text p (declared_are_points text unset.network.sound p there) in others_at number.0 p number.1 n unnamed;
    order = refl;
  }

  -- what the stepper has then
  pub stands_for : (board : Board) → board.terns.items ≡ last_terns → board.held.items ≡ held_terns → StandsFor text board start.standing
  stands_for board terns_are held_are = record {
    shown = λ number p at. ap (λ (ts : List Tern). kept_tern ts number) terns_are ∙ last_at number p at;
    held = λ number p d at driven holds. ap (λ (ts : List Tern). kept_tern ts number) held_are ∙ held_at text state loaded loads values old unset words is_loaded decided drawn_terns held_first held_terns drawn taken fed number p d at driven holds;
  }

  pub solution_so : (number : ℕ) (p : Point) → IsPoint text number p → kept_tern solution number ≡ start.solution p
  solution_so number p at =
      let inside = slice_get_within (points text) number p at in
      sym (leads_seen (length old.network.drives.items) middle.leads.items solution is_middle.leads number (let long = unset.network.long in omega (arith, inside, long)))
      ∙ solved.same number p at
