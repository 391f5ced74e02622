-- The end of a stepper's cycle is that of the simulation for which it stands.
use mathlib.Core.Bool.{not}
use Rattle.std.proofs.Common.{◌≡◌, ℕ, suc, Vec, Global, ◌+◌, ◌<◌, Bool, true, false, List, [], ◌∷◌, length, map, codes, Some, refl, sym, ap, ◌∙◌, subst, inl, inr, arith, slice_set}
use Rattle.std.specs.List.{slice_get, All}
use Rattle.std.proofs.lemmas.Bool.{cases_eq}
use Rattle.fab_equations.proofs.Placing.{get_set_other, get_set_same}
use Rattle.fab_draws.specs.Draws.{word_at}
use Rattle.fab_syntax.specs.Plain.{PlainModule}
use Rattle.fab_systems_laws.specs.Ternary.{known}
use Rattle.fab_meaning.specs.Sound.{PointsOfSoundTextsHaveOneDriver}
use Rattle.fab_implementation.specs.Plain.{Pad}
use Rattle.fab_state.specs.Plain.{PlainState}
use Rattle.fab_ternary.specs.declared.Tern.{Tern}
use Rattle.fab_ternary.specs.Terns.{is_one}
use Rattle.fab_equations.specs.Instances.{points}
use Rattle.fab_compiled.specs.Leading.{PointTerns}
use Rattle.fab_ordering_laws.specs.fab_use_defs_Sites.{top_point}
use Rattle.fab_network.specs.Passes.{kept_tern}
use Rattle.fab_state_points.specs.Standing.{StandsAt}
use Rattle.fab_stepping.specs.Boards.{IsBoardOf, IsTicked, LeadToThemselves}
use Rattle.fab_stepping.proofs.Leaving.{ticked_state, IsTickedState}
use Rattle.fab_ordering_laws.specs.Ordered.{Moment, IsEnd}
use Rattle.fab_stepping.specs.Activating.{AreApart}
use Rattle.fab_network.specs.declared.network.Network.{Network}
use Rattle.fab_sim.specs.Making.{IsNetworkOf}
use Rattle.fab_sim.specs.Stepper.{AreFreeInputs, Stands}
use Rattle.fab_sim.specs.declared.stepper.Stepper.{Stepper}
use Rattle.fab_sim.proofs.Numbers.{shown_numbers}
use Rattle.fab_sim.proofs.Points.{number_declared}

pub bit_is : (b : Bool) → is_one (known b) ≡ b
bit_is true = refl
bit_is false = refl

-- what is shown of known values are their bits
bits_shown : (s : PointTerns) (outs : List ℕ) (f : Pad → Bool) (pads : List Pad) → map s outs ≡ map (λ pad. known (f pad)) pads →
    map (λ point. is_one (s point)) outs ≡ map f pads
bits_shown s [] f [] e = refl
bits_shown s [] f (pad ∷ pads) e = cc
bits_shown s (n ∷ outs) f [] e = cc
bits_shown s (n ∷ outs) f (pad ∷ pads) e =
    let first : s n ≡ known (f pad) = cc in
    let rest : map s outs ≡ map (λ p. known (f p)) pads = cc in
    let here : is_one (s n) ≡ f pad = ap is_one first ∙ bit_is (f pad) in
    λ i. here i ∷ bits_shown s outs f pads rest i

-- ---- outputs, place by place

abbrev pub AreShownSoFar : (outs : List ℕ) → (s : PointTerns) → (count : ℕ) → List Bool → Type 0
AreShownSoFar outs s count outputs =
    (place point : ℕ) (bit : Bool) → place < count → slice_get outs place ≡ Some point → slice_get outputs place ≡ Some bit → bit ≡ is_one (s point)

pub all_shown : (outs : List ℕ) (s : PointTerns) (outputs : List Bool) → length outputs ≡ length outs → AreShownSoFar outs s (length outs) outputs →
    outputs ≡ map (λ point. is_one (s point)) outs
all_shown [] s [] long shown = refl
all_shown [] s (b ∷ outputs) long shown = absurd (omega (arith, long))
all_shown (n ∷ outs) s [] long shown = absurd (omega (arith, long))
all_shown (n ∷ outs) s (b ∷ outputs) long shown =
    let here : b ≡ is_one (s n) = shown 0 n b (omega arith) refl refl in
    let rest = all_shown outs s outputs (omega (arith, long)) (λ place point bit l e f. shown (suc place) point bit (omega (arith, l)) e f) in
    λ i. here i ∷ rest i

pub shown_more : (outs : List ℕ) (s : PointTerns) (count : ℕ) (outputs : List Bool) (point : ℕ) (bit : Bool) → slice_get outs count ≡ Some point → bit ≡ is_one (s point) →
    AreShownSoFar outs s count outputs → AreShownSoFar outs s (count + 1) (slice_set outputs count bit)
shown_more outs s count outputs point bit at value so_far place other b l e f =
    elim (cases_eq place count) [
      | inl same ↦
          let points : Some point ≡ Some other = sym at ∙ ap (slice_get outs) (sym same) ∙ e in
          let point_is : point ≡ other = cc in
          get_set_same outputs count bit b (ap (slice_get (slice_set outputs count bit)) (sym same) ∙ f) ∙ value ∙ ap (λ n. is_one (s n)) point_is
      | inr apart ↦ so_far place other b (omega (arith, apart, l)) e (sym (get_set_other outputs count place bit apart) ∙ f)
    ]

-- ---- the end of a cycle

module _ (text : List PlainModule) (state : PlainState) (draws : ℕ → ℕ) (one : PointsOfSoundTextsHaveOneDriver) (old new : Stepper) (before : Moment)
    (stands : Stands text state draws old before) (outputs : List Bool)
    (shown : outputs ≡ map (λ point. is_one (kept_tern old.board.terns.items point)) old.points.outs.items) (ticked : IsTicked old.network old.board new.board)
    (network_is : new.network ≡ old.network) (points_are : new.points ≡ old.points) (free_is : new.free ≡ old.free) (solution_is : new.solution ≡ old.solution)
    (order_is : new.order ≡ old.order) (random_is : new.random ≡ old.random) where
  board : IsBoardOf old.network new.board
  board = record {
    few = stands.board.few;
    terns = ap (λ (v : Vec Tern Global). length v.items) ticked.terns ∙ stands.board.terns;
    held = ticked.long ∙ stands.board.held;
    leads = subst (λ (v : Vec ℕ Global). LeadToThemselves (length old.network.drives.items) v.items) (sym ticked.leads) stands.board.leads;
  }

  pub ticks : IsTickedState text stands.network.sound one old.network stands.network.drives stands.network.long old.board before.standing stands.board stands.standing new.board
  ticks =
      ticked_state text stands.network.sound one old.network stands.network.drives stands.network.long old.board before.standing stands.board stands.standing new.board ticked
      (λ number p at. number_declared text stands.network.sound number p at)

  abbrev pub after_end : Moment
  after_end = record { standing = ticks.next_state; solution = before.solution; order = before.order; drawn = before.drawn }

  pub is_end : IsEnd text state outputs before after_end
  is_end = record {
    shows =
        shown
        ∙ bits_shown (kept_tern old.board.terns.items) old.points.outs.items (λ pad. before.standing.now (top_point pad.1 (codes "I_top"))) state.outs
        (shown_numbers text state.outs old.points.outs.items stands.points_stand.outs (λ p. known (before.standing.now p)) (kept_tern old.board.terns.items)
        (λ number p at. stands.standing.shown number p at));
    ticks = record { stays = ticks.stays; keeps = ticks.keeps };
    solution = refl;
    order = refl;
    drawn = refl;
  }

  pub stands_end : Stands text state draws new after_end
  stands_end = record {
    network = subst (IsNetworkOf text) (sym network_is) stands.network;
    once = stands.once;
    points_stand = subst (StandsAt text state) (sym points_are) stands.points_stand;
    board = subst (λ (n : Network). IsBoardOf n new.board) (sym network_is) board;
    standing = ticks.still;
    solution_long = ap (λ (v : Vec Tern Global). length v.items) solution_is ∙ stands.solution_long;
    solution = λ number p at. ap (λ (v : Vec Tern Global). kept_tern v.items number) solution_is ∙ stands.solution number p at;
    order = ap (λ (v : Vec ℕ Global). v.items) order_is ∙ stands.order;
    order_long = ap (λ (v : Vec ℕ Global). length v.items) order_is ∙ stands.order_long;
    below = subst (λ (v : Vec ℕ Global). All (λ point. point < length (points text)) v.items) (sym order_is) stands.below;
    apart = subst (λ (v : Vec ℕ Global). AreApart v.items) (sym order_is) stands.apart;
    free = subst (λ (v : Vec Bool Global). AreFreeInputs text state v.items) (sym free_is) stands.free;
    drawn = ap word_at random_is ∙ stands.drawn;
  }

-- what is not open is known
pub not_twice : (b told : Bool) → told ≡ not b → not told ≡ b
not_twice true told e = ap not e
not_twice false told e = ap not e
