-- The beginning of a stepper's cycle is that of the simulation for which it stands.
use Rattle.std.proofs.Common.{◌≡◌, ℕ, Vec, Global, ◌+◌, ◌<◌, Bool, true, List, length, refl, sym, ap, ◌∙◌, subst, arith}
use Rattle.std.specs.List.{All}
use Rattle.std.proofs.lemmas.Option.{slice_get_within}
use Rattle.fab_draws.specs.Draws.{after, word_at}
use Rattle.fab_syntax.specs.Plain.{PlainModule}
use Rattle.fab_meaning.specs.Activation.{State}
use Rattle.fab_meaning.specs.Sound.{PointsOfSoundTextsHaveOneDriver}
use Rattle.fab_state.specs.Plain.{PlainState}
use Rattle.fab_solutions_laws.specs.Laws.{LeastSolutionsExist}
use Rattle.fab_ternary.specs.declared.Tern.{Tern}
use Rattle.fab_equations.specs.Instances.{points}
use Rattle.fab_compiled.specs.Terns.{seen}
use Rattle.fab_network.specs.declared.network.Network.{Network}
use Rattle.fab_network.specs.Passes.{kept_tern}
use Rattle.fab_network.specs.Solved.{IsLeast}
use Rattle.fab_phases.specs.Cycles.{IsFed}
use Rattle.fab_state_points.specs.Standing.{StandsAt}
use Rattle.fab_stepping.specs.Activating.{AreApart}
use Rattle.fab_stepping.specs.Boards.{given_on, IsBoardOf, LeadToThemselves}
use Rattle.fab_stepping.specs.Drawing.{marked_before}
use Rattle.fab_stepping.specs.Drawing as by_number
use Rattle.fab_stepping.specs.Standing.{StandsFor}
use Rattle.fab_stepping.proofs.Leaving.{solved_by, IsSolvedBy}
use Rattle.fab_stepping.proofs.Reading.{leads_seen}
use Rattle.fab_ordering_laws.specs.Ordered.{Moment, IsBegun, IsFreeInput}
use Rattle.fab_sim.specs.Making.{IsNetworkOf}
use Rattle.fab_sim.specs.Stepper.{AreFreeInputs, Stands}
use Rattle.fab_sim.specs.declared.stepper.Stepper.{Stepper}
use Rattle.fab_sim.proofs.Blocks.{words_later}
use Rattle.fab_sim.proofs.Listed.{are_drawn}
use Rattle.fab_sim.proofs.Feeding.{marked_so, named_so, now_at, now_begun, others_so}

module _ (text : List PlainModule) (state : PlainState) (draws : ℕ → ℕ) (one : PointsOfSoundTextsHaveOneDriver) (exist : LeastSolutionsExist) (old new : Stepper)
    (before : Moment) (stands : Stands text state draws old before) (inputs : List Bool) (many : length state.ins ≡ length inputs) (fed new_terns : List Tern)
    (is_fed : IsFed old.points.ins.items inputs (kept_tern old.board.terns.items) (kept_tern fed))
    (drawn : by_number.AreDrawn (word_at old.random) old.free.items true fed new_terns) (fed_long : length fed ≡ length old.board.terns.items)
    (network_is : new.network ≡ old.network) (points_are : new.points ≡ old.points) (free_is : new.free ≡ old.free) (order_is : new.order ≡ old.order)
    (terns_are : new.board.terns.items ≡ new_terns) (held_is : new.board.held ≡ old.board.held) (leads_are : new.board.leads ≡ old.board.leads)
    (random_is : new.random ≡ after (marked_before true old.free.items (length old.free.items)) old.random)
    (solution_long : length new.solution.items ≡ length (points text))
    (least : IsLeast old.network.trees.items old.network.drives.items (given_on old.network new.board) (seen new.solution.items new.board.leads.items)) where
  abbrev pub next : State
  next = record { now = now_begun text state draws one old before stands inputs many fed new_terns is_fed drawn; held = before.standing.held }

  pub still : StandsFor text new.board next
  still = record {
    shown = λ number p at.
        ap (λ (ts : List Tern). kept_tern ts number) terns_are ∙ now_at text state draws one old before stands inputs many fed new_terns is_fed drawn number p at;
    held = λ number p d at driven holds. ap (λ (v : Vec Tern Global). kept_tern v.items number) held_is ∙ stands.standing.held number p d at driven holds;
  }

  pub board : IsBoardOf old.network new.board
  board = record {
    few = stands.board.few;
    terns = ap length terns_are ∙ drawn.long ∙ fed_long ∙ stands.board.terns;
    held = ap (λ (v : Vec Tern Global). length v.items) held_is ∙ stands.board.held;
    leads = subst (λ (v : Vec ℕ Global). LeadToThemselves (length old.network.drives.items) v.items) (sym leads_are) stands.board.leads;
  }

  pub solved : IsSolvedBy text stands.network.sound one old.network stands.network.drives stands.network.long new.board next board still (seen new.solution.items new.board.leads.items)
  solved =
      solved_by text stands.network.sound one old.network stands.network.drives stands.network.long new.board next board still exist stands.network.narrow
      (seen new.solution.items new.board.leads.items) least

  abbrev pub after_begin : Moment
  after_begin = record {
    standing = next;
    solution = solved.solution;
    order = before.order;
    drawn = before.drawn + marked_before true old.free.items (length old.free.items);
  }

  pub is_begun : IsBegun text state draws inputs before after_begin
  is_begun = record {
    named = named_so text state draws one old before stands inputs many fed new_terns is_fed drawn;
    drawn =
        are_drawn draws (IsFreeInput text state) (now_begun text state draws one old before stands inputs many fed new_terns is_fed drawn) true (points text) old.free.items
        before.drawn stands.free.long (marked_so text state draws one old before stands inputs many fed new_terns is_fed drawn);
    others = others_so text state draws one old before stands inputs many fed new_terns is_fed drawn;
    held = λ p. refl;
    least = solved.least;
    order = refl;
  }

  pub stands_begin : Stands text state draws new after_begin
  stands_begin = record {
    network = subst (IsNetworkOf text) (sym network_is) stands.network;
    once = stands.once;
    points_stand = subst (StandsAt text state) (sym points_are) stands.points_stand;
    board = subst (λ (n : Network). IsBoardOf n new.board) (sym network_is) board;
    standing = still;
    solution_long = solution_long;
    solution = λ number p at.
        let inside = slice_get_within (points text) number p at in
        sym (leads_seen (length old.network.drives.items) new.board.leads.items new.solution.items board.leads number (let long = stands.network.long in omega (arith, inside, long)))
        ∙ solved.same number p at;
    order = ap (λ (v : Vec ℕ Global). v.items) order_is ∙ stands.order;
    order_long = ap (λ (v : Vec ℕ Global). length v.items) order_is ∙ stands.order_long;
    below = subst (λ (v : Vec ℕ Global). All (λ point. point < length (points text)) v.items) (sym order_is) stands.below;
    apart = subst (λ (v : Vec ℕ Global). AreApart v.items) (sym order_is) stands.apart;
    free = subst (λ (v : Vec Bool Global). AreFreeInputs text state v.items) (sym free_is) stands.free;
    drawn = words_later draws before.drawn (marked_before true old.free.items (length old.free.items)) old.random new.random stands.drawn random_is;
  }
