-- Cycle by cycle an ordered simulation goes on in one way.
use Rattle.std.proofs.Common.{◌≡◌, ◌≢◌, ◌+◌, ◌-◌, ℕ, zero, suc, Bool, true, false, List, [], ◌∷◌, map, length, codes, Some, refl, sym, ap, ◌∙◌, subst, inl, inr}
use Rattle.std.specs.List.{AllZip}
use Rattle.std.specs.Str.{bytes_eq}
use Rattle.std.proofs.lemmas.Bool.{cases_Bool, false≢true}
use Rattle.std.proofs.lemmas.List.Elements.{All-head, All-tail}
use Rattle.std.proofs.lemmas.Slice.Eq.{bytes_eq-Decides}
use Rattle.fab_syntax.specs.Plain.{PlainModule}
use Rattle.fab_syntax.specs.Sound.{IsSound}
use Rattle.fab_draws.specs.Draws.{behind}
use Rattle.fab_draws.specs.Shuffled.{shuffled}
use Rattle.fab_meaning.specs.Points.{Point, Driver, outside, copy, bit_of, flop, hold, Drives}
use Rattle.fab_meaning.specs.Reads.{is_declared}
use Rattle.fab_meaning.specs.Runs.{user_clock_name}
use Rattle.fab_meaning.specs.Loading.{LoadsAgree, LoadingPointsStay}
use Rattle.fab_meaning.specs.Sound.{PointsOfSoundTextsHaveOneDriver}
use Rattle.fab_meaning.specs.Activation.{State, activate, IsStep, AreSteps}
use Rattle.fab_equations.specs.Instances.{points}
use Rattle.fab_equations.specs.Equations.{IsPoint}
use Rattle.fab_equations.proofs.Points.{declared_are_points}
use Rattle.fab_load_runs_laws.specs.Runs.{LoadingIsDecided}
use Rattle.fab_implementation.specs.Plain.{Pad}
use Rattle.fab_simulation_laws.specs.Laws.{AreShown}
use Rattle.fab_simulation_laws.specs.fab_state_Plain.{PlainState}
use Rattle.fab_simulation_laws.specs.fab_use_defs_Sites.{top_point}
use Rattle.fab_prim.specs.Ports.{top_name}
use Rattle.fab_solutions_laws.specs.Laws.{LeastSolutionsAgree}
use Rattle.fab_ordering_laws.specs.Ordered.{Moment, AreDrawn, IsNamedInput, IsFreeInput, IsBegun, IsOrderedBlock, ChangesKnown, AreOrderedBlocks, enough, last, more, IsOrderedCycle, AreOrderedCycles, none, after}
use Rattle.fab_traces_agree_laws.specs.Laws.{OrderedSimulationsAgree}
use Rattle.fab_traces_agree_laws.proofs.Drawn.{AreSame, drawn_once}
use Rattle.fab_traces_agree_laws.proofs.Starts.{listed_or_not, loads_or_not, start_alike, start_drawn, start_order}
use Rattle.fab_traces_agree_laws.proofs.States.{AreAlike, known_once, activations_alike, ticked_alike, solutions_alike}

-- numbers name points in one way
points_once : (text : List PlainModule) (order : List ℕ) (ps qs : List Point) → AllZip (IsPoint text) order ps → AllZip (IsPoint text) order qs → ps ≡ qs
points_once text [] [] [] a b = refl
points_once text [] [] (q ∷ qs) a b = absurd b
points_once text [] (p ∷ ps) qs a b = absurd a
points_once text (number ∷ order) [] qs a b = absurd a
points_once text (number ∷ order) (p ∷ ps) [] a b = absurd b
points_once text (number ∷ order) (p ∷ ps) (q ∷ qs) a b =
    let both : Some p ≡ Some q = sym a.0 ∙ b.0 in
    let here : p ≡ q = some_is both in
    let rest : ps ≡ qs = points_once text order ps qs a.1 b.1 in
    λ i. here i ∷ rest i
  where
    some_is : {x y : Point} → Some x ≡ Some y → x ≡ y
    some_is same = cc

-- the laws that are used
pub record Known : Type 0 where
  pub one : PointsOfSoundTextsHaveOneDriver
  pub agree : LeastSolutionsAgree
  pub decided : LoadingIsDecided
  pub loads_agree : LoadsAgree
  pub stay : LoadingPointsStay

module _ (k : Known) (text : List PlainModule) (state : PlainState) (draws : ℕ → ℕ) (sound : IsSound text) where
  -- moments that are alike
  pub record SameMoment (a b : Moment) : Type 0 where
    pub standing : AreAlike text sound a.standing b.standing
    pub solution : (p : Point) → is_declared text p ≡ true → a.solution p ≡ b.solution p
    pub order : a.order ≡ b.order
    pub drawn : a.drawn ≡ b.drawn

  -- what two moments have in common before a solution is known
  pub record SameBefore (a b : Moment) : Type 0 where
    pub standing : AreAlike text sound a.standing b.standing
    pub order : a.order ≡ b.order
    pub drawn : a.drawn ≡ b.drawn

  -- ---- a cycle begins

  module _ (values : List Bool) (a b c d : Moment) (before : SameBefore a b) (first : IsBegun text state draws values a c) (second : IsBegun text state draws values b d) where
    drawn : AreSame (IsFreeInput text state) c.standing.now d.standing.now (points text) c.drawn d.drawn
    drawn = drawn_once draws (IsFreeInput text state) c.standing.now d.standing.now (points text) a.drawn c.drawn d.drawn first.drawn
        (subst (λ (n : ℕ). AreDrawn draws (IsFreeInput text state) d.standing.now (points text) n d.drawn) (sym before.drawn) second.drawn)

    untouched : (p : Point) → is_declared text p ≡ true → (IsNamedInput text state p → ⊥) → (IsFreeInput text state p → ⊥) → c.standing.now p ≡ d.standing.now p
    untouched p declared unnamed bound = first.others p unnamed bound ∙ before.standing.now p declared ∙ sym (second.others p unnamed bound)

    named_alike : (p : Point) → IsNamedInput text state p → c.standing.now p ≡ d.standing.now p
    named_alike p named = known_once (c.standing.now p) (d.standing.now p) (first.named p named ∙ sym (second.named p named))

    unnamed_alike : (p : Point) → is_declared text p ≡ true → Drives text p outside → (IsNamedInput text state p → ⊥) → c.standing.now p ≡ d.standing.now p
    unnamed_alike p declared drives unnamed = elim (loads_or_not k.decided text sound p) [
      | inl loads ↦ untouched p declared unnamed (λ free. free.unloaded loads)
      | inr never ↦
          elim (cases_Bool (bytes_eq p.name user_clock_name)) [
            | inl clock ↦ untouched p declared unnamed (λ free. free.no_clock ((bytes_eq-Decides p.name user_clock_name).0 clock))
            | inr other ↦
                drawn.same p (declared_are_points text sound p declared) (record {
                  input = drives;
                  declared = declared;
                  unloaded = never;
                  no_clock = λ same. false≢true (sym other ∙ (bytes_eq-Decides p.name user_clock_name).1 same);
                  unnamed = unnamed;
                })
          ]
    ]

    input_alike : (p : Point) → is_declared text p ≡ true → Drives text p outside → c.standing.now p ≡ d.standing.now p
    input_alike p declared drives = elim (listed_or_not (map (λ (pad : Pad). top_point pad.1 top_name) state.ins) p) [
      | inl named ↦ named_alike p (record { input = drives; named = named })
      | inr unnamed ↦ unnamed_alike p declared drives (λ is. unnamed is.named)
    ]

    -- a point that another driver drives is no input
    driven_alike : (p : Point) (driver : Driver) → is_declared text p ≡ true → (outside ≡ driver → ⊥) → ((other : Driver) → Drives text p other → other ≡ driver)
        → c.standing.now p ≡ d.standing.now p
    driven_alike p driver declared apart only =
        untouched p declared (λ named. apart (only outside named.input)) (λ free. apart (only outside free.input))

    now_alike : (p : Point) → is_declared text p ≡ true → c.standing.now p ≡ d.standing.now p
    now_alike p declared = let driver = k.one text sound p declared in by_driver driver.0 driver.1 driver.2
      where
        by_driver : (of : Driver) → Drives text p of → ((other : Driver) → Drives text p other → other ≡ of) → c.standing.now p ≡ d.standing.now p
        by_driver outside drives only = input_alike p declared drives
        by_driver (copy other) drives only = driven_alike p (copy other) declared (λ same. cc) only
        by_driver (bit_of path e bit) drives only = driven_alike p (bit_of path e bit) declared (λ same. cc) only
        by_driver (flop path clock next bit) drives only = driven_alike p (flop path clock next bit) declared (λ same. cc) only
        by_driver (hold path gate e bit) drives only = driven_alike p (hold path gate e bit) declared (λ same. cc) only

    begun_standing : AreAlike text sound c.standing d.standing
    begun_standing = record {
      now = now_alike;
      held = λ p driver declared drives stored. first.held p ∙ before.standing.held p driver declared drives stored ∙ sym (second.held p);
    }

    pub begun_alike : SameMoment c d
    begun_alike = record {
      standing = begun_standing;
      solution = solutions_alike text sound c.standing d.standing begun_standing k.agree c.solution d.solution first.least second.least;
      order = first.order ∙ before.order ∙ sym second.order;
      drawn = drawn.count;
    }

  -- ---- blocks

  block_alike : (a b c d : Moment) → SameMoment a b → IsOrderedBlock text draws a c → IsOrderedBlock text draws b d → SameMoment c d
  block_alike a b c d same first second =
      let order : c.order ≡ d.order =
      first.order ∙ (λ i. shuffled (length (same.order i)) (behind (same.drawn i) draws) (same.order i)) ∙ sym second.order in
      let numbered : AllZip (IsPoint text) c.order second.activated = subst (λ (numbers : List ℕ). AllZip (IsPoint text) numbers second.activated) (sym order) second.numbered in
      let activated : first.activated ≡ second.activated = points_once text c.order first.activated second.activated first.numbered numbered in
      let steps : AreSteps (IsStep text) (map activate second.activated) a.standing c.standing =
      subst (λ (ps : List Point). AreSteps (IsStep text) (map activate ps) a.standing c.standing) activated first.steps in
      record {
        standing = activations_alike text sound k.one second.activated a.standing b.standing c.standing d.standing same.standing steps second.steps;
        solution = λ p declared. ap (λ t. t p) first.solution ∙ same.solution p declared ∙ sym (ap (λ t. t p) second.solution);
        order = order;
        drawn = first.drawn ∙ (λ i. same.drawn i + (length (same.order i) - 1)) ∙ sym second.drawn;
      }

  changes_alike : (a b c d : Moment) → SameMoment a b → SameMoment c d → ChangesKnown text a c → ChangesKnown text b d
  changes_alike a b c d first next changes = record {
    p = changes.p;
    declared = changes.declared;
    value = changes.value;
    is_known = sym (first.solution changes.p changes.declared) ∙ changes.is_known;
    changed = λ same. changes.changed (next.standing.now changes.p changes.declared ∙ same ∙ sym (first.standing.now changes.p changes.declared));
  }

  same_back : (a b : Moment) → SameMoment a b → SameMoment b a
  same_back a b same = record {
    standing = record {
      now = λ p declared. sym (same.standing.now p declared);
      held = λ p driver declared drives stored. sym (same.standing.held p driver declared drives stored);
    };
    solution = λ p declared. sym (same.solution p declared);
    order = sym same.order;
    drawn = sym same.drawn;
  }

  blocks_alike : (most : ℕ) (a b c d : Moment) → SameMoment a b → AreOrderedBlocks text draws most a c → AreOrderedBlocks text draws most b d → SameMoment c d
  blocks_alike zero a b c d same enough enough = same
  blocks_alike (suc most) a b c d same (last first unchanged) (last second still) = block_alike a b c d same first second
  blocks_alike (suc most) a b c d same (last first unchanged) (more {between = other} second changes later) =
      absurd (unchanged (changes_alike b a other c (same_back a b same) (same_back c other (block_alike a b c other same first second)) changes))
  blocks_alike (suc most) a b c d same (more {between = between} first changes later) (last second still) =
      absurd (still (changes_alike a b between d same (block_alike a b between d same first second) changes))
  blocks_alike (suc most) a b c d same (more {between = between} first changes later) (more {between = other} second also rest) =
      blocks_alike most between other c d (block_alike a b between other same first second) later rest

  -- ---- a whole cycle

  shown_alike : (a b : State) → AreAlike text sound a b → (pads : List Pad) → AreShown text pads
      → map (λ (pad : Pad). a.now (top_point pad.1 (codes "I_top"))) pads ≡ map (λ (pad : Pad). b.now (top_point pad.1 (codes "I_top"))) pads
  shown_alike a b same [] declared = refl
  shown_alike a b same (pad ∷ pads) declared =
      let IsShown : Pad → Type 0 = λ pad. is_declared text (top_point pad.1 (codes "I_top")) ≡ true in
      let here : a.now (top_point pad.1 (codes "I_top")) ≡ b.now (top_point pad.1 (codes "I_top")) = same.now (top_point pad.1 (codes "I_top")) (All-head IsShown pad pads declared) in
      let rest = shown_alike a b same pads (All-tail IsShown pad pads declared) in
      λ i. here i ∷ rest i

  module _ (declared : AreShown text state.outs) where
    module _ (values found other : List Bool) (a b c d : Moment) (before : SameBefore a b) (first : IsOrderedCycle text state draws values found a c)
        (second : IsOrderedCycle text state draws values other b d) where
      at_rest : SameMoment first.at_rest second.at_rest
      at_rest = blocks_alike (1 + length (points text)) first.begun second.begun first.at_rest second.at_rest
          (begun_alike values a b first.begun second.begun before first.begins second.begins) first.blocks second.blocks

      cycle_shows : found ≡ other
      cycle_shows = first.ends.shows ∙ shown_alike first.at_rest.standing second.at_rest.standing at_rest.standing state.outs declared ∙ sym second.ends.shows

      cycle_leaves : SameBefore c d
      cycle_leaves = record {
        standing = ticked_alike text sound first.at_rest.standing second.at_rest.standing at_rest.standing c.standing d.standing first.ends.ticks second.ends.ticks;
        order = first.ends.order ∙ at_rest.order ∙ sym second.ends.order;
        drawn = first.ends.drawn ∙ at_rest.drawn ∙ sym second.ends.drawn;
      }

    pub cycles_agree : (lines found other : List (List Bool)) (a b c d : Moment) → SameBefore a b → AreOrderedCycles text state draws a lines found c
        → AreOrderedCycles text state draws b lines other d → found ≡ other
    cycles_agree [] found other a b c d before none none = refl
    cycles_agree (values ∷ lines) found other a b c d before (after {next = next} {shown = shown} {later = later} first run) (after {next = beside} {shown = seen} {later = rest} second runs) =
        let here : shown ≡ seen = cycle_shows values shown seen a b next beside before first second in
        let behind_it : later ≡ rest = cycles_agree lines later rest next beside c d (cycle_leaves values shown seen a b next beside before first second) run runs in
        λ i. here i ∷ behind_it i

pub ordered_simulations_agree : Known → OrderedSimulationsAgree
ordered_simulations_agree k text state draws words lines simulable first second a b =
    let sound = simulable.sound in
    cycles_agree k text state draws sound simulable.shown lines first second a.start b.start a.last b.last (record {
      standing = start_alike k.decided k.loads_agree k.stay text sound simulable.clock simulable.strobe state draws words a.start b.start a.starts b.starts;
      order = start_order k.decided k.loads_agree k.stay text sound simulable.clock simulable.strobe state draws words a.start b.start a.starts b.starts;
      drawn = start_drawn k.decided k.loads_agree k.stay text sound simulable.clock simulable.strobe state draws words a.start b.start a.starts b.starts;
    }) a.cycles b.cycles
